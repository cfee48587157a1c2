-- A line is of one command.
use Rattle.std.proofs.Common.{◌≡◌, ℕ, ◌<◌, ◌^◌, true, List, [], ◌∷◌, length, get_or, drop, codes, refl, sym, ap, ◌∙◌, arith}
use Rattle.std.specs.Fmt.{decimal}
use Rattle.std.proofs.lemmas.Bool.{false≢true}
use Rattle.std.proofs.lemmas.List.{same_from_push}
use Rattle.s57_types.specs.declared.name.RecName.{RecName}
use Rattle.s57_types.specs.declared.name.Kind.TheVariants.{Head as HeadKind}
use Rattle.s57_types.specs.declared.head.HeadEdit.{HeadEdit}
use Rattle.s57_types.specs.declared.record.Vector.{Vector}
use Rattle.s57_types.specs.Fitness.{is_feature_kind}
use Rattle.s57_types.specs.declared.record.Feature.{Feature}
use Rattle.s57_types.specs.declared.record.Rec.{Rec}
use Rattle.s57_types.specs.declared.record.Rec.TheVariants.{V, F, H}
use Rattle.cell_spec.specs.declared.edit.Edit.{Edit}
use Rattle.cell_spec.specs.declared.edit.Edit.TheVariants.{Add, Set, Del, Head}
use Rattle.text_spec.specs.CellText.{kind_word, name_words}
use Rattle.text_spec.specs.Lines.{spaced_words}
use Rattle.text_spec.specs.EditLine.{attribute_item, end_item, plane_item, deep_item, partner_item, place_item, vector_words, feature_words, record_words}
use Rattle.text_spec.specs.EditLine.{head_words, record_has_line, is_head}
use Rattle.text_spec.specs.ScriptLines.{command_line, IsCommand}
use Rattle.text_spec.specs.declared.command.Command.{Command}
use Rattle.text_spec.specs.declared.command.Command.TheVariants.{View, Commit, Drop, List as Findings, Push, Guard}
use Rattle.script_text.specs.Items.{with_letter}
use Rattle.script_text.specs.Guess.{command_text, first_word, other_words}
use Rattle.script_text.specs.Widths.{IsNameOfWidth, IsAttributeOfWidth, IsEndOfWidth, IsPointOfWidth, IsSoundingOfWidth, IsPartnerOfWidth, IsPlaceOfWidth}
use Rattle.script_text.specs.Widths.{IsVectorOfWidth, IsFeatureOfWidth, IsRecordOfWidth}
use Rattle.script_text.proofs.Frees.{AreWithout, vector_items, feature_items, without_name, without_record, without_number}
use Rattle.script_text.proofs.Vectors.{same_vector, sorted_vector}
use Rattle.script_text.proofs.Features.{same_feature, sorted_feature}
use Rattle.script_text.proofs.Heads.{without_head, alike_heads}
use Rattle.script_text.proofs.Widths.{name_of_width, record_of_width}
use Rattle.script_text.proofs.Commands.{line_is, text_cut, own_vector, own_feature, no_head_feature, view_of, commit_of, drop_of, list_found, guard_found}
use Rattle.script_text.proofs.Commands.{push_found, add_found, del_found}
use Rattle.script_text.proofs.Alike.{alike_parts, alike_list, same_number, same_kind, same_name, same_identity, alike_attribute, alike_end, alike_point}
use Rattle.script_text.proofs.Alike.{alike_sounding, alike_partner, alike_place}

alike_vectors : (v v' : Vector) → IsVectorOfWidth v → IsVectorOfWidth v' → vector_words v ≡ vector_words v' → v ≡ v'
alike_vectors v v' w w' same =
    let word = λ (k : ℕ). ap (λ t. get_or t k []) same in
    let items : vector_items v ≡ vector_items v' = ap (drop 3) same in
    let one = sorted_vector v in let other = sorted_vector v' in
    same_vector v.name v.rver v.attrs v.ends v.plane v.deep v'
    (same_name v.name v'.name (word 0) (same_number v.name.id v'.name.id w.name w'.name (word 1)))
    (same_number v.rver v'.rver (omega (arith, w.rver)) (omega (arith, w'.rver)) (word 2))
    (alike_list (attribute_item (codes "a")) IsAttributeOfWidth (alike_attribute 97) v.attrs v'.attrs w.attrs w'.attrs
    (sym one.attrs ∙ ap (with_letter 97) items ∙ other.attrs))
    (alike_list end_item IsEndOfWidth alike_end v.ends v'.ends w.ends w'.ends (sym one.ends ∙ ap (with_letter 101) items ∙ other.ends))
    (alike_list plane_item IsPointOfWidth alike_point v.plane v'.plane w.plane w'.plane (sym one.plane ∙ ap (with_letter 112) items ∙ other.plane))
    (alike_list deep_item IsSoundingOfWidth alike_sounding v.deep v'.deep w.deep w'.deep (sym one.deep ∙ ap (with_letter 100) items ∙ other.deep))

alike_features : (f f' : Feature) → IsFeatureOfWidth f → IsFeatureOfWidth f' → feature_words f ≡ feature_words f' → f ≡ f'
alike_features f f' w w' same =
    let word = λ (k : ℕ). ap (λ t. get_or t k []) same in
    let items : feature_items f ≡ feature_items f' = ap (drop 9) same in
    let one = sorted_feature f in let other = sorted_feature f' in
    same_feature f.name f.prim f.grup f.objl f.rver f.foid f.attf f.natf f.partners f.places f'
    (same_name f.name f'.name (word 0) (same_number f.name.id f'.name.id w.name w'.name (word 1)))
    (same_number f.prim f'.prim (omega (arith, w.prim)) (omega (arith, w'.prim)) (word 3))
    (same_number f.grup f'.grup (omega (arith, w.grup)) (omega (arith, w'.grup)) (word 4))
    (same_number f.objl f'.objl (omega (arith, w.objl)) (omega (arith, w'.objl)) (word 5))
    (same_number f.rver f'.rver (omega (arith, w.rver)) (omega (arith, w'.rver)) (word 2))
    (same_identity f.foid f'.foid (same_number f.foid.agen f'.foid.agen (omega (arith, w.foid.agen)) (omega (arith, w'.foid.agen)) (word 6))
    (same_number f.foid.fidn f'.foid.fidn w.foid.fidn w'.foid.fidn (word 7))
    (same_number f.foid.fids f'.foid.fids (omega (arith, w.foid.fids)) (omega (arith, w'.foid.fids)) (word 8)))
    (alike_list (attribute_item (codes "a")) IsAttributeOfWidth (alike_attribute 97) f.attf f'.attf w.attf w'.attf
    (sym one.attf ∙ ap (with_letter 97) items ∙ other.attf))
    (alike_list (attribute_item (codes "n")) IsAttributeOfWidth (alike_attribute 110) f.natf f'.natf w.natf w'.natf
    (sym one.natf ∙ ap (with_letter 110) items ∙ other.natf))
    (alike_list partner_item IsPartnerOfWidth alike_partner f.partners f'.partners w.partners w'.partners
    (sym one.partners ∙ ap (with_letter 102) items ∙ other.partners))
    (alike_list place_item IsPlaceOfWidth alike_place f.places f'.places w.places w'.places (sym one.places ∙ ap (with_letter 115) items ∙ other.places))

-- a vector record and a feature record differ in their kinds, and both from the head
apart : (v : Vector) (f : Feature) → record_has_line (V v) ≡ true → record_has_line (F f) ≡ true → kind_word v.name.kind ≡ kind_word f.name.kind → ⊥
apart v f own own' same = false≢true (sym (own_vector v own).no_feature ∙ ap is_feature_kind (same_kind v.name.kind f.name.kind same) ∙ own_feature f own')

apart_head : (r : Rec) (e : HeadEdit) → record_has_line r ≡ true → record_words r ≡ codes "head" ∷ head_words e → ⊥
apart_head (V v) e own same = false≢true (sym (own_vector v own).no_head ∙ ap is_head (same_kind v.name.kind HeadKind (ap (λ t. get_or t 0 []) same)))
apart_head (F f) e own same = false≢true (sym (no_head_feature f.name.kind (own_feature f own))
    ∙ ap is_head (same_kind f.name.kind HeadKind (ap (λ t. get_or t 0 []) same)))
apart_head (H h) e own same = false≢true own

alike_records : (r r' : Rec) → IsRecordOfWidth r → IsRecordOfWidth r' → record_has_line r ≡ true → record_has_line r' ≡ true
    → record_words r ≡ record_words r' → r ≡ r'
alike_records (V v) (V v') w w' own own' same = ap (λ (x : Vector). V x) (alike_vectors v v' w w' same)
alike_records (V v) (F f') w w' own own' same = absurd (apart v f' own own' (ap (λ t. get_or t 0 []) same))
alike_records (F f) (V v') w w' own own' same = absurd (apart v' f own' own (sym (ap (λ t. get_or t 0 []) same)))
alike_records (F f) (F f') w w' own own' same = ap (λ (x : Feature). F x) (alike_features f f' w w' same)
alike_records (H h) r' w w' own own' same = absurd (false≢true own)
alike_records r (H h') w w' own own' same = absurd (false≢true own')

alike_names : (n n' : RecName) → IsNameOfWidth n → IsNameOfWidth n' → name_words n ≡ name_words n' → n ≡ n'
alike_names n n' w w' same = same_name n n' (ap (λ t. get_or t 0 []) same) (same_number n.id n'.id w w' (ap (λ t. get_or t 1 []) same))

spaced : (words words' : List (List ℕ)) → AreWithout 32 words → AreWithout 32 words' → spaced_words words ≡ spaced_words words' → words ≡ words'
spaced = alike_parts 32

alike_spaced_records : (r r' : Rec) → IsCommand (Push (Set r)) → IsCommand (Push (Set r'))
    → spaced_words (record_words r) ≡ spaced_words (record_words r') → r ≡ r'
alike_spaced_records r r' can can' same =
    let w = record_of_width r can.1 in
    let w' = record_of_width r' can'.1 in
    alike_records r r' w w' can.0 can'.0 (spaced (record_words r) (record_words r') (without_record 32 r (omega arith) w)
    (without_record 32 r' (omega arith) w') same)

no_head_set : (r : Rec) (e : HeadEdit) → IsCommand (Push (Set r)) → spaced_words (record_words r) ≡ spaced_words (codes "head" ∷ head_words e) → ⊥
no_head_set r e can same =
    apart_head r e can.0 (spaced (record_words r) (codes "head" ∷ head_words e) (without_record 32 r (omega arith) (record_of_width r can.1))
    (without_head 32 e (omega arith)) same)

alike_sets : (r : Rec) (edit' : Edit) → IsCommand (Push (Set r)) → IsCommand (Push edit') → codes "set" ≡ first_word (Push edit')
    → spaced_words (record_words r) ≡ spaced_words (other_words (Push edit')) → Set r ≡ edit'
alike_sets r (Add r') can can' first words = absurd (omega (arith, ap (λ w. get_or w 0 0) first))
alike_sets r (Set r') can can' first words = ap (λ (x : Rec). Set x) (alike_spaced_records r r' can can' words)
alike_sets r (Del n') can can' first words = absurd (omega (arith, ap (λ w. get_or w 0 0) first))
alike_sets r (Head e') can can' first words = absurd (no_head_set r e' can words)

alike_head_edits : (e : HeadEdit) (edit' : Edit) → IsCommand (Push (Head e)) → IsCommand (Push edit') → codes "set" ≡ first_word (Push edit')
    → spaced_words (codes "head" ∷ head_words e) ≡ spaced_words (other_words (Push edit')) → Head e ≡ edit'
alike_head_edits e (Add r') can can' first words = absurd (omega (arith, ap (λ w. get_or w 0 0) first))
alike_head_edits e (Set r') can can' first words = absurd (no_head_set r' e can' (sym words))
alike_head_edits e (Del n') can can' first words = absurd (omega (arith, ap (λ w. get_or w 0 0) first))
alike_head_edits e (Head e') can can' first words = ap (λ (x : HeadEdit). Head x) (alike_heads e e' can.1 can'.1
    (ap (drop 1) (spaced (codes "head" ∷ head_words e) (codes "head" ∷ head_words e') (without_head 32 e (omega arith))
    (without_head 32 e' (omega arith)) words)))

alike_edits : (edit edit' : Edit) → IsCommand (Push edit) → IsCommand (Push edit') → first_word (Push edit) ≡ first_word (Push edit')
    → spaced_words (other_words (Push edit)) ≡ spaced_words (other_words (Push edit')) → edit ≡ edit'
alike_edits (Add r) edit' can can' first words =
    let w = record_of_width r can.1 in
    add_found edit' (spaced_words (record_words r)) r
    (λ r' w' own' spelled. alike_records r r' w w' can.0 own'
    (spaced (record_words r) (record_words r') (without_record 32 r (omega arith) w) (without_record 32 r' (omega arith) w') spelled))
    (sym first) can' words
alike_edits (Set r) edit' can can' first words = alike_sets r edit' can can' first words
alike_edits (Del n) edit' can can' first words =
    let w = name_of_width n can.1 in
    del_found edit' (spaced_words (name_words n)) n
    (λ n' w' spelled. alike_names n n' w w' (spaced (name_words n) (name_words n') (without_name 32 n (omega arith) w)
    (without_name 32 n' (omega arith) w') spelled))
    (λ add. absurd (omega (arith, ap (λ w. get_or w 0 0) (first ∙ add)))) (λ set. absurd (omega (arith, ap (λ w. get_or w 0 0) (first ∙ set)))) can' words
alike_edits (Head e) edit' can can' first words = alike_head_edits e edit' can can' first words

record IsOther (word : List ℕ) : Type 0 where
  no_view : word ≡ codes "view" → ⊥
  no_commit : word ≡ codes "commit" → ⊥
  no_drop : word ≡ codes "drop" → ⊥
  no_list : word ≡ codes "list" → ⊥
  no_guard : word ≡ codes "guard" → ⊥

letters : {word other : List ℕ} → word ≡ other → get_or word 0 0 ≡ get_or other 0 0
letters e = ap (λ w. get_or w 0 0) e

other_by : (word : List ℕ) → (get_or word 0 0 ≡ 118 → ⊥) → (get_or word 0 0 ≡ 99 → ⊥) → (word ≡ codes "drop" → ⊥) → (get_or word 0 0 ≡ 108 → ⊥)
    → (get_or word 0 0 ≡ 103 → ⊥) → IsOther word
other_by word v c drop l g =
    record { no_view = λ e. v (letters e); no_commit = λ e. c (letters e); no_drop = drop; no_list = λ e. l (letters e); no_guard = λ e. g (letters e) }

other_first : (edit : Edit) → IsOther (first_word (Push edit))
other_first (Add r) = other_by (codes "add") (λ e. omega arith) (λ e. omega arith) (λ e. omega (arith, letters e)) (λ e. omega arith) (λ e. omega arith)
other_first (Set r) = other_by (codes "set") (λ e. omega arith) (λ e. omega arith) (λ e. omega (arith, letters e)) (λ e. omega arith) (λ e. omega arith)
other_first (Del n) = other_by (codes "del") (λ e. omega arith) (λ e. omega arith) (λ e. omega (arith, ap length e)) (λ e. omega arith) (λ e. omega arith)
other_first (Head e') = other_by (codes "set") (λ e. omega arith) (λ e. omega arith) (λ e. omega (arith, letters e)) (λ e. omega arith) (λ e. omega arith)

alike_by : (c d : Command) → IsCommand c → IsCommand d → first_word c ≡ first_word d → spaced_words (other_words c) ≡ spaced_words (other_words d) → c ≡ d
alike_by View d can can' first words = view_of d (sym first)
alike_by Commit d can can' first words = commit_of d (sym first)
alike_by Drop d can can' first words = drop_of d (sym first)
alike_by (Findings shown) d can can' first words =
    let small : shown < 2 ^ 32 = omega (arith, can) in
    list_found d (spaced_words (decimal shown ∷ [])) shown
    (λ n fits spelled. same_number shown n small fits (ap (λ t. get_or t 0 [])
    (spaced (decimal shown ∷ []) (decimal n ∷ []) (without_number 32 shown (omega arith) small)
    (without_number 32 n (omega arith) fits) spelled)))
    (sym first) can' words
alike_by (Push edit) d can can' first words =
    let other = other_first edit in
    push_found d (first_word (Push edit)) (spaced_words (other_words (Push edit))) edit
    (λ edit' can'' first' words'. alike_edits edit edit' can can'' first' words')
    other.no_view other.no_commit other.no_drop other.no_list other.no_guard can' first words
alike_by (Guard n) d can can' first words =
    let w = name_of_width n can.1 in
    guard_found d (spaced_words (name_words n)) n
    (λ n' w' spelled. alike_names n n' w w' (spaced (name_words n) (name_words n') (without_name 32 n (omega arith) w)
    (without_name 32 n' (omega arith) w') spelled))
    (sym first) can' words

pub alike_commands : (c d : Command) → IsCommand c → IsCommand d → command_line c ≡ command_line d → c ≡ d
alike_commands c d can can' same =
    let texts = same_from_push (command_text c) (command_text d) 10 10 (sym (line_is c) ∙ same ∙ line_is d) in
    let one = text_cut c (command_text c) refl in
    let other = text_cut d (command_text c) texts.0 in
    alike_by c d can can' (sym one.front_is ∙ other.front_is) (sym one.rest_is ∙ other.rest_is)
