-- Which command the words of a line are.
use Rattle.std.proofs.Common.{◌≡◌, ℕ, ◌<◌, ◌^◌, ◌&&◌, not, true, false, Bool, ◌↔◌, Option, Result, Ok, Err, IfOk, Some, List, [], ◌∷◌, ◌++◌, length, codes}
use Rattle.std.proofs.Common.{get_or, drop, All, refl, sym, ap, ◌∙◌, arith}
use Rattle.std.specs.Fmt.{decimal}
use Rattle.std.specs.List.{list_all}
use Rattle.std.proofs.lemmas.Bool.{le-leb, false≢true, not-true, and_parts}
use Rattle.std.proofs.lemmas.List.{same_from_push}
use Rattle.std.specs.Bool.{then_some}
use Rattle.s57_types.specs.declared.name.Kind.{Kind}
use Rattle.s57_types.specs.declared.name.Kind.TheVariants.{Vi, Vc, Ve, Fe, Head as HeadKind}
use Rattle.s57_types.specs.declared.name.RecName.{RecName}
use Rattle.s57_types.specs.declared.head.HeadEdit.{HeadEdit}
use Rattle.s57_types.specs.declared.record.End.{End}
use Rattle.s57_types.specs.declared.record.Spot.{Spot}
use Rattle.s57_types.specs.Fitness.{is_feature_kind}
use Rattle.s57_types.specs.declared.record.Vector.{Vector}
use Rattle.s57_types.specs.declared.record.Feature.{Feature}
use Rattle.s57_types.specs.declared.record.Rec.{Rec}
use Rattle.s57_types.specs.declared.record.Rec.TheVariants.{V, F, H}
use Rattle.cell_spec.specs.declared.edit.Edit.{Edit}
use Rattle.cell_spec.specs.declared.edit.Edit.TheVariants.{Add, Set, Del, Head}
use Rattle.text_spec.specs.CellText.{kind_word, name_words}
use Rattle.text_spec.specs.Lines.{spaced_words}
use Rattle.text_spec.specs.EditLine.{vector_words, feature_words, record_words, head_words, edit_line, is_head, record_has_line, guard_has_line}
use Rattle.text_spec.specs.ScriptLines.{command_line, IsCommand, IsHeadEditOfWidth, IsOfWidth, record_subfields, shown_limit}
use Rattle.text_spec.specs.declared.command.Command.{Command}
use Rattle.text_spec.specs.declared.command.Command.TheVariants.{View, Commit, Drop, List as Findings, Push, Guard}
use Rattle.script_text.specs.Cuts.{IsFrom}
use Rattle.script_text.specs.Faults.{IsCommandWord}
use Rattle.script_text.specs.Guess.{HasLine, IsReadOf, can_stand, command_text, first_word, other_words}
use Rattle.script_text.specs.Widths.{IsNameOfWidth, IsVectorOfWidth, IsFeatureOfWidth, IsRecordOfWidth}
use Rattle.script_text.proofs.Cuts.{IsCut, cut_of}
use Rattle.script_text.proofs.Words.{IsFree, from_parts}
use Rattle.script_text.proofs.Widths.{name_of_width, width_of_name, record_of_width, width_of_record}

-- the kind at the beginning of words
abbrev pub IsKindOf : Kind → List ℕ → Type 0
IsKindOf kind words = (k : Kind) (rest : List ℕ) → IsFrom 32 rest → words ≡ 32 ∷ (kind_word k ++ rest) → kind ≡ k

kind_of_vector : (kind : Kind) (words : List ℕ) (v : Vector) → IsKindOf kind words → words ≡ spaced_words (vector_words v) → kind ≡ v.name.kind
kind_of_vector kind words v test spelled = test v.name.kind (spaced_words (drop 1 (vector_words v))) (from_parts 32 (drop 1 (vector_words v))) spelled

kind_of_feature : (kind : Kind) (words : List ℕ) (f : Feature) → IsKindOf kind words → words ≡ spaced_words (feature_words f) → kind ≡ f.name.kind
kind_of_feature kind words f test spelled = test f.name.kind (spaced_words (drop 1 (feature_words f))) (from_parts 32 (drop 1 (feature_words f))) spelled

kind_of_head : (kind : Kind) (words : List ℕ) (e : HeadEdit) → IsKindOf kind words → words ≡ spaced_words (codes "head" ∷ head_words e) → kind ≡ HeadKind
kind_of_head kind words e test spelled = test HeadKind (spaced_words (head_words e)) (from_parts 32 (head_words e)) spelled

-- the kind of a vector record with a line
pub record IsOfVector (kind : Kind) : Type 0 where
  pub no_feature : is_feature_kind kind ≡ false
  pub no_head : is_head kind ≡ false

pub own_vector : (v : Vector) → record_has_line (V v) ≡ true → IsOfVector v.name.kind
own_vector v own =
    let both = and_parts (not (is_feature_kind v.name.kind) && not (is_head v.name.kind)) (list_all (λ (e : End). not (is_head e.to.kind)) v.ends) own in
    let kinds = and_parts (not (is_feature_kind v.name.kind)) (not (is_head v.name.kind)) both.0 in
    record { no_feature = not-true (is_feature_kind v.name.kind) kinds.0; no_head = not-true (is_head v.name.kind) kinds.1 }

pub own_feature : (f : Feature) → record_has_line (F f) ≡ true → is_feature_kind f.name.kind ≡ true
own_feature f own = (and_parts (is_feature_kind f.name.kind) (list_all (λ (s : Spot). not (is_head s.to.kind)) f.places) own).0

pub no_head_feature : (kind : Kind) → is_feature_kind kind ≡ true → is_head kind ≡ false
no_head_feature Vi own = refl
no_head_feature Vc own = refl
no_head_feature Ve own = refl
no_head_feature Fe own = refl
no_head_feature HeadKind own = absurd (false≢true own)

-- the record that words are read as
pub feature_found : (r : Rec) (read : Feature) (kind : Kind) (words : List ℕ) → is_feature_kind kind ≡ true → IsKindOf kind words
    → ((f : Feature) → IsFeatureOfWidth f → words ≡ spaced_words (feature_words f) → read ≡ f)
    → IsRecordOfWidth r → record_has_line r ≡ true → words ≡ spaced_words (record_words r) → F read ≡ r
feature_found (V v) read kind words is test found width own spelled =
    absurd (false≢true (sym (own_vector v own).no_feature ∙ ap is_feature_kind (sym (kind_of_vector kind words v test spelled)) ∙ is))
feature_found (F f) read kind words is test found width own spelled = ap (λ (x : Feature). F x) (found f width spelled)
feature_found (H h) read kind words is test found width own spelled = absurd (false≢true own)

pub vector_found : (r : Rec) (read : Vector) (kind : Kind) (words : List ℕ) → is_feature_kind kind ≡ false → IsKindOf kind words
    → ((v : Vector) → IsVectorOfWidth v → words ≡ spaced_words (vector_words v) → read ≡ v)
    → IsRecordOfWidth r → record_has_line r ≡ true → words ≡ spaced_words (record_words r) → V read ≡ r
vector_found (V v) read kind words is test found width own spelled = ap (λ (x : Vector). V x) (found v width spelled)
vector_found (F f) read kind words is test found width own spelled =
    absurd (false≢true (sym is ∙ ap is_feature_kind (kind_of_feature kind words f test spelled) ∙ own_feature f own))
vector_found (H h) read kind words is test found width own spelled = absurd (false≢true own)

-- words of a record that isn't the head
no_head_record : (r : Rec) (kind : Kind) (words : List ℕ) → IsKindOf kind words → record_has_line r ≡ true
    → words ≡ spaced_words (record_words r) → is_head kind ≡ false
no_head_record (V v) kind words test own spelled = ap is_head (kind_of_vector kind words v test spelled) ∙ (own_vector v own).no_head
no_head_record (F f) kind words test own spelled = ap is_head (kind_of_feature kind words f test spelled) ∙ no_head_feature f.name.kind (own_feature f own)
no_head_record (H h) kind words test own spelled = absurd (false≢true own)

-- the edit that words are read as
abbrev pub IsRecordFound : List ℕ → Rec → Type 0
IsRecordFound words read = (r : Rec) → IsRecordOfWidth r → record_has_line r ≡ true → words ≡ spaced_words (record_words r) → read ≡ r

pub add_found : (edit : Edit) (words : List ℕ) (read : Rec) → IsRecordFound words read → first_word (Push edit) ≡ codes "add" → IsCommand (Push edit)
    → words ≡ spaced_words (other_words (Push edit)) → Add read ≡ edit
add_found (Add r) words read found first can spelled = ap (λ (x : Rec). Add x) (found r (record_of_width r can.1) can.0 spelled)
add_found (Set r) words read found first can spelled = absurd (omega (arith, ap (λ w. get_or w 0 0) first))
add_found (Del n) words read found first can spelled = absurd (omega (arith, ap (λ w. get_or w 0 0) first))
add_found (Head e) words read found first can spelled = absurd (omega (arith, ap (λ w. get_or w 0 0) first))

pub set_found : (edit : Edit) (words : List ℕ) (read : Rec) (kind : Kind) → is_head kind ≡ false → IsKindOf kind words → IsRecordFound words read
    → first_word (Push edit) ≡ codes "set" → IsCommand (Push edit) → words ≡ spaced_words (other_words (Push edit)) → Set read ≡ edit
set_found (Add r) words read kind other test found first can spelled = absurd (omega (arith, ap (λ w. get_or w 0 0) first))
set_found (Set r) words read kind other test found first can spelled = ap (λ (x : Rec). Set x) (found r (record_of_width r can.1) can.0 spelled)
set_found (Del n) words read kind other test found first can spelled = absurd (omega (arith, ap (λ w. get_or w 0 0) first))
set_found (Head e) words read kind other test found first can spelled = absurd (false≢true (sym other ∙ ap is_head (kind_of_head kind words e test spelled)))

pub head_found : (edit : Edit) (words : List ℕ) (read : HeadEdit) (kind : Kind) → is_head kind ≡ true → IsKindOf kind words
    → ((e : HeadEdit) → IsHeadEditOfWidth e → words ≡ spaced_words (codes "head" ∷ head_words e) → read ≡ e)
    → first_word (Push edit) ≡ codes "set" → IsCommand (Push edit) → words ≡ spaced_words (other_words (Push edit)) → Head read ≡ edit
head_found (Add r) words read kind is test found first can spelled = absurd (omega (arith, ap (λ w. get_or w 0 0) first))
head_found (Set r) words read kind is test found first can spelled = absurd (false≢true (sym (no_head_record r kind words test can.0 spelled) ∙ is))
head_found (Del n) words read kind is test found first can spelled = absurd (omega (arith, ap (λ w. get_or w 0 0) first))
head_found (Head e) words read kind is test found first can spelled = ap (λ (x : HeadEdit). Head x) (found e can.1 spelled)

pub del_found : (edit : Edit) (words : List ℕ) (read : RecName) → ((n : RecName) → IsNameOfWidth n → words ≡ spaced_words (name_words n) → read ≡ n)
    → (first_word (Push edit) ≡ codes "add" → ⊥) → (first_word (Push edit) ≡ codes "set" → ⊥) → IsCommand (Push edit)
    → words ≡ spaced_words (other_words (Push edit)) → Del read ≡ edit
del_found (Add r) words read found not_add not_set can spelled = absurd (not_add refl)
del_found (Set r) words read found not_add not_set can spelled = absurd (not_set refl)
del_found (Del n) words read found not_add not_set can spelled = ap (λ (x : RecName). Del x) (found n (name_of_width n can.1) spelled)
del_found (Head e) words read found not_add not_set can spelled = absurd (not_set refl)

-- the command of a first word
pub view_of : (c : Command) → first_word c ≡ codes "view" → View ≡ c
view_of View word = refl
view_of (Push (Add r)) word = absurd (omega (arith, ap (λ w. get_or w 0 0) word))
view_of c word = absurd (omega (arith, ap (λ w. get_or w 0 0) word))

pub commit_of : (c : Command) → first_word c ≡ codes "commit" → Commit ≡ c
commit_of Commit word = refl
commit_of (Push (Add r)) word = absurd (omega (arith, ap (λ w. get_or w 0 0) word))
commit_of c word = absurd (omega (arith, ap (λ w. get_or w 0 0) word))

pub drop_of : (c : Command) → first_word c ≡ codes "drop" → Drop ≡ c
drop_of Drop word = refl
drop_of (Push (Del n)) word = absurd (omega (arith, ap length word))
drop_of c word = absurd (omega (arith, ap (λ w. get_or w 0 0) word))

pub list_found : (c : Command) (words : List ℕ) (read : ℕ) → ((n : ℕ) → n < 2 ^ 32 → words ≡ spaced_words (decimal n ∷ []) → read ≡ n)
    → first_word c ≡ codes "list" → IsCommand c → words ≡ spaced_words (other_words c) → Findings read ≡ c
list_found (Findings shown) words read found first can spelled = ap (λ (x : ℕ). Findings x) (found shown (omega (arith, can)) spelled)
list_found (Push (Add r)) words read found first can spelled = absurd (omega (arith, ap (λ w. get_or w 0 0) first))
list_found c words read found first can spelled = absurd (omega (arith, ap (λ w. get_or w 0 0) first))

pub guard_found : (c : Command) (words : List ℕ) (read : RecName) → ((n : RecName) → IsNameOfWidth n → words ≡ spaced_words (name_words n) → read ≡ n)
    → first_word c ≡ codes "guard" → IsCommand c → words ≡ spaced_words (other_words c) → Guard read ≡ c
guard_found (Push (Add r)) words read found first can spelled = absurd (omega (arith, ap (λ w. get_or w 0 0) first))
guard_found (Guard n) words read found first can spelled = ap (λ (x : RecName). Guard x) (found n (name_of_width n can.1) spelled)
guard_found c words read found first can spelled = absurd (omega (arith, ap (λ w. get_or w 0 0) first))

abbrev pub IsEditFound : List ℕ → List ℕ → Edit → Type 0
IsEditFound first words read = (edit : Edit) → IsCommand (Push edit) → first ≡ first_word (Push edit)
    → words ≡ spaced_words (other_words (Push edit)) → read ≡ edit

pub push_found : (c : Command) (first words : List ℕ) (read : Edit) → IsEditFound first words read
    → (first ≡ codes "view" → ⊥) → (first ≡ codes "commit" → ⊥) → (first ≡ codes "drop" → ⊥) → (first ≡ codes "list" → ⊥) → (first ≡ codes "guard" → ⊥)
    → IsCommand c → first ≡ first_word c → words ≡ spaced_words (other_words c) → Push read ≡ c
push_found View first words read found not_view not_commit not_drop not_list not_guard can first_is spelled = absurd (not_view first_is)
push_found Commit first words read found not_view not_commit not_drop not_list not_guard can first_is spelled = absurd (not_commit first_is)
push_found Drop first words read found not_view not_commit not_drop not_list not_guard can first_is spelled = absurd (not_drop first_is)
push_found (Findings shown) first words read found not_view not_commit not_drop not_list not_guard can first_is spelled = absurd (not_list first_is)
push_found (Guard n) first words read found not_view not_commit not_drop not_list not_guard can first_is spelled = absurd (not_guard first_is)
push_found (Push edit) first words read found not_view not_commit not_drop not_list not_guard can first_is spelled =
    ap (λ (x : Edit). Push x) (found edit can first_is spelled)

-- a line is its words and a line feed
pub line_is : (c : Command) → command_line c ≡ command_text c ++ 10 ∷ []
line_is (Push (Add r)) = refl
line_is c = refl

pub free_first : (c : Command) → IsFree 32 (first_word c)
free_first (Push (Add r)) = record { free = refl }
free_first c = record { free = refl }

pub text_cut : (c : Command) (text : List ℕ) → text ≡ command_text c → IsCut 32 text (first_word c) (spaced_words (other_words c))
text_cut c text same = cut_of 32 text (first_word c) (spaced_words (other_words c)) same (free_first c).free (from_parts 32 (other_words c))

pub command_cut : (c : Command) (line text : List ℕ) (end : ℕ) → line ≡ text ++ end ∷ [] → command_line c ≡ line
    → IsCut 32 text (first_word c) (spaced_words (other_words c))
command_cut c line text end parts spelled = text_cut c text (same_from_push text (command_text c) end 10 (sym parts ∙ sym spelled ∙ line_is c)).0

can_of : (c : Command) → IsCommand c → can_stand c ≡ true
can_of View can = refl
can_of Commit can = refl
can_of Drop can = refl
can_of (Findings shown) can = le-leb shown shown_limit can
can_of (Push edit) can = can.0
can_of (Guard n) can = can.0

pub read_by : (line : List ℕ) (c : Command) (same : Bool) → ((same ≡ true) ↔ HasLine line c) → (can_stand c ≡ true → IsCommand c)
    → ((d : Command) → IsCommand d → command_line d ≡ line → c ≡ d) → IsReadOf line (then_some same c)
read_by line c true both width found =
    let is = both.0 refl in
    record { spelled = (width is.0, is.1); found = λ d can spelled. ap Some (found d can spelled) }
read_by line c false both width found = record {
  spelled = tt;
  found = λ d can spelled.
      let same = found d can spelled in
      absurd (false≢true (both.1 (ap can_stand same ∙ can_of d can, ap command_line same ∙ spelled)));
}

pub edit_width : (r : Rec) → IsRecordOfWidth r → record_has_line r ≡ true → (record_has_line r ≡ true) × All IsOfWidth (record_subfields r)
edit_width r width own = (own, width_of_record r width)

pub guard_width : (n : RecName) → IsNameOfWidth n → guard_has_line n ≡ true → IsCommand (Guard n)
guard_width n width own = (own, width_of_name n width)

-- the words of commands
abbrev some_vector : Vector
some_vector = record { name = record { kind = Vi; id = 0 }; rver = 0; attrs = []; ends = []; plane = []; deep = [] }

pub view_known : (word : List ℕ) → word ≡ codes "view" → IsCommandWord word
view_known word is = (View, sym is)

pub commit_known : (word : List ℕ) → word ≡ codes "commit" → IsCommandWord word
commit_known word is = (Commit, sym is)

pub drop_known : (word : List ℕ) → word ≡ codes "drop" → IsCommandWord word
drop_known word is = (Drop, sym is)

pub list_known : (word : List ℕ) → word ≡ codes "list" → IsCommandWord word
list_known word is = (Findings 0, sym is)

pub guard_known : (word : List ℕ) → word ≡ codes "guard" → IsCommandWord word
guard_known word is = (Guard (record { kind = Vi; id = 0 }), sym is)

pub del_known : (word : List ℕ) → word ≡ codes "del" → IsCommandWord word
del_known word is = (Push (Del (record { kind = Vi; id = 0 })), sym is)

pub add_known : (word : List ℕ) → word ≡ codes "add" → IsCommandWord word
add_known word is = (Push (Add (V some_vector)), sym is)

pub set_known : (word : List ℕ) → word ≡ codes "set" → IsCommandWord word
set_known word is = (Push (Set (V some_vector)), sym is)

pub record IsLastWord (word : List ℕ) : Type 0 where
  pub no_view : word ≡ codes "view" → ⊥
  pub no_commit : word ≡ codes "commit" → ⊥
  pub no_drop : word ≡ codes "drop" → ⊥
  pub no_list : word ≡ codes "list" → ⊥
  pub no_guard : word ≡ codes "guard" → ⊥
  pub no_del : word ≡ codes "del" → ⊥
  pub no_add : word ≡ codes "add" → ⊥

set_by : (c : Command) (word : List ℕ) → IsLastWord word → first_word c ≡ word → word ≡ codes "set"
set_by View word last is = absurd (last.no_view (sym is))
set_by Commit word last is = absurd (last.no_commit (sym is))
set_by Drop word last is = absurd (last.no_drop (sym is))
set_by (Findings shown) word last is = absurd (last.no_list (sym is))
set_by (Push (Add r)) word last is = absurd (last.no_add (sym is))
set_by (Push (Set r)) word last is = sym is
set_by (Push (Del n)) word last is = absurd (last.no_del (sym is))
set_by (Push (Head e)) word last is = sym is
set_by (Guard n) word last is = absurd (last.no_guard (sym is))

pub set_last : (word : List ℕ) → IsLastWord word → IsCommandWord word → word ≡ codes "set"
set_last word last known = set_by known.0 word last known.1

-- the line of an edit is read as it
pub written : {R : Type 0} (result : Result (Option Command) R) (line : List ℕ) (edit : Edit) → IfOk result (IsReadOf line)
    → line ≡ edit_line edit → IsCommand (Push edit)
    → IfOk result (λ read. read ≡ Some (Push edit))
written (Ok read) line edit is line_is can = is.found (Push edit) can (sym line_is)
written (Err _) line edit is line_is can = tt
