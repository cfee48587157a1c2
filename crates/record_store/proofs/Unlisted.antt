-- A key that no record answers.
use Rattle.std.proofs.Common.{◌≡◌, ℕ, ◌+◌, Bool, true, false, ◌||◌, List, [], ◌∷◌, ◌++◌, cond, filter, map, refl, sym, ap, ◌∙◌}
use Rattle.std.specs.Prelude.{flat_map}
use Rattle.std.specs.List.{enumerate_from, list_any}
use Rattle.std.proofs.lemmas.List.Folds.{list_any-append}
use Rattle.s57_types.specs.declared.name.RecName.{RecName}
use Rattle.s57_types.specs.declared.name.Lnam.{Lnam}
use Rattle.s57_types.specs.declared.record.Rec.{Rec}
use Rattle.s57_types.specs.declared.record.Rec.TheVariants.{V, F, H}
use Rattle.s57_types.specs.declared.cell.Cell.{Cell}
use Rattle.cell_spec.specs.declared.key.Key.{Key}
use Rattle.cell_spec.specs.declared.key.Key.TheVariants.{Refs, Foid}
use Rattle.cell_spec.specs.declared.key.Ref.{Ref}
use Rattle.cell_spec.specs.Ascending.{ascending}
use Rattle.cell_spec.specs.Edits.{keys_answered_by}
use Rattle.cell_spec.specs.Lookup.{all_records, bears, identities_of, lookup_identity, lookup_pointers, name_of, pointers_at, pointers_in, targets_of}
use Rattle.cell_spec.specs.Names.{identity_order, key_order, name_order, ref_order, same_key, same_name}
use Rattle.cell_spec.proofs.Ascending.{holds-ascending}
use Rattle.cell_spec.proofs.Orders.{exact_keys, identities_tie, names_tie, same_from_either}
use Rattle.chain_topo.specs.Listed.{values_at}
use Rattle.chain_topo.specs.Listed.{AreBearersOf, ArePointersOf}
use Rattle.record_store.specs.Stores.{AreAnswersOf, ArePut}
use Rattle.edit_answers.proofs.Ties.{identities_flip}

neither : (a b : Bool) → (a || b) ≡ false → (a ≡ false) × (b ≡ false)
neither true b h = cc
neither false b h = (refl, h)

none_at : (n : RecName) (r : Rec) (first : ℕ) (ts : List RecName) → list_any (same_key (Refs n)) (map Refs ts) ≡ false → pointers_at n r first ts ≡ []
none_at n r first [] none = refl
none_at n r first (t ∷ ts) none =
    let both = neither (same_key (Refs n) (Refs t)) (list_any (same_key (Refs n)) (map Refs ts)) none in
    let other : same_name n t ≡ false = same_from_either n t ∙ sym (names_tie n t) ∙ both.0 in
    ap (λ b. map (λ (p : ℕ × RecName). record { from = name_of r; place = p.0 })
    (cond b ((first, t) ∷ filter (λ (p : ℕ × RecName). same_name n p.1) (enumerate_from (first + 1) ts))
    (filter (λ (p : ℕ × RecName). same_name n p.1) (enumerate_from (first + 1) ts)))) other
    ∙ none_at n r (first + 1) ts both.1

none_in : (n : RecName) (r : Rec) → list_any (same_key (Refs n)) (keys_answered_by r) ≡ false → pointers_in n r ≡ []
none_in n r none =
    none_at n r 1 (targets_of r) (neither (list_any (same_key (Refs n)) (map Refs (targets_of r))) (list_any (same_key (Refs n)) (map Foid (identities_of r)))
    (sym (list_any-append (same_key (Refs n)) (map Refs (targets_of r)) (map Foid (identities_of r))) ∙ none)).0

none_pointed : (n : RecName) (rs : List Rec) → list_any (same_key (Refs n)) (flat_map keys_answered_by rs) ≡ false → flat_map (pointers_in n) rs ≡ []
none_pointed n [] none = refl
none_pointed n (r ∷ rs) none =
    let both = neither (list_any (same_key (Refs n)) (keys_answered_by r)) (list_any (same_key (Refs n)) (flat_map keys_answered_by rs))
    (sym (list_any-append (same_key (Refs n)) (keys_answered_by r) (flat_map keys_answered_by rs)) ∙ none) in
    λ i. none_in n r both.0 i ++ none_pointed n rs both.1 i

bearer_by : (l : Lnam) (r : Rec) → list_any (same_key (Foid l)) (keys_answered_by r) ≡ false → bears l r ≡ false
bearer_by l (V v) none = refl
bearer_by l (F f) none =
    let both = neither (list_any (same_key (Foid l)) (map Refs (targets_of (F f)))) (list_any (same_key (Foid l)) (Foid f.foid ∷ []))
    (sym (list_any-append (same_key (Foid l)) (map Refs (targets_of (F f))) (Foid f.foid ∷ [])) ∙ none) in
    sym (identities_tie f.foid l) ∙ identities_flip f.foid l ∙ (neither (same_key (Foid l) (Foid f.foid)) false both.1).0
bearer_by l (H h) none = refl

none_borne : (l : Lnam) (rs : List Rec) → list_any (same_key (Foid l)) (flat_map keys_answered_by rs) ≡ false → map name_of (filter (bears l) rs) ≡ []
none_borne l [] none = refl
none_borne l (r ∷ rs) none =
    let both = neither (list_any (same_key (Foid l)) (keys_answered_by r)) (list_any (same_key (Foid l)) (flat_map keys_answered_by rs))
    (sym (list_any-append (same_key (Foid l)) (keys_answered_by r) (flat_map keys_answered_by rs)) ∙ none) in
    ap (λ b. map name_of (cond b (r ∷ filter (bears l) rs) (filter (bears l) rs))) (bearer_by l r both.0) ∙ none_borne l rs both.1

module _ (c : Cell) (keys : List Key) (pairs : List (RecName × Ref)) (others : List (Lnam × RecName)) (now : List (RecName × List Ref))
    (held : List (Lnam × List RecName))
    (listed : keys ≡ ascending key_order (flat_map keys_answered_by (all_records c))) (pointers : ArePointersOf (all_records c) pairs)
    (bearers : AreBearersOf (all_records c) others)
    (put : ArePut keys (values_at name_order pairs) (values_at identity_order others) [] now [] held) where
  answered : (k : Key) → list_any (same_key k) keys ≡ list_any (same_key k) (flat_map keys_answered_by (all_records c))
  answered k = ap (list_any (same_key k)) listed ∙ holds-ascending key_order exact_keys k (flat_map keys_answered_by (all_records c))

  pointers_by : (n : RecName) (hit : Bool) → list_any (same_key (Refs n)) keys ≡ hit → cond hit (values_at name_order pairs n) [] ≡ lookup_pointers c n
  pointers_by n true is = pointers n
  pointers_by n false is = sym (ap (ascending ref_order) (none_pointed n (all_records c) (sym (answered (Refs n)) ∙ is)))

  bearers_by : (l : Lnam) (hit : Bool) → list_any (same_key (Foid l)) keys ≡ hit → cond hit (values_at identity_order others l) [] ≡ lookup_identity c l
  bearers_by l true is = bearers l
  bearers_by l false is = sym (ap (ascending name_order) (none_borne l (all_records c) (sym (answered (Foid l)) ∙ is)))

  pub all_answered : AreAnswersOf c now held
  all_answered = record {
    pointers_are = λ n. put.pointers_are n ∙ pointers_by n (list_any (same_key (Refs n)) keys) refl;
    bearers_are = λ l. put.bearers_are l ∙ bearers_by l (list_any (same_key (Foid l)) keys) refl;
  }
