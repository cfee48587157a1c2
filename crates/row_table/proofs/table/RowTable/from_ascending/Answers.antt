use Rattle.std.proofs.Common.{◌≡◌, List, Option, None, Ordering, arith, ap, subst, sym, ◌∙◌, ◌++◌, ◌∷◌, [], reverse}
use Rattle.std.specs.Cmp.{IsTotalOrder}
use Rattle.std.proofs.lemmas.List.{reverse-append}
use Rattle.row_spec.specs.Rows.{IsAscending, value_of, with_row}
use Rattle.row_spec.proofs.Found.{with_row-last, value_of-last}
use Rattle.row_table.proofs.table.RowTable.from_ascending.Goals as goal

-- the last of the rows that are left in reverse goes to the end, and nothing stood at its key
goes_last : {K V : Type 0} (cmp : K → K → Ordering) → IsTotalOrder cmp → (key : K) (value : V) (rows before left all after : List (K × V)) (old : Option V)
    → rows ++ reverse before ≡ all → before ≡ left ++ ((key, value) ∷ []) → IsAscending cmp all → after ≡ with_row cmp rows key value
    → old ≡ value_of cmp rows key → (after ++ reverse left ≡ all) × (old ≡ None)
goes_last cmp total key value rows before left all after old split last ascending put is_old =
    let joined : rows ++ (key, value) ∷ reverse left ≡ all = ap (λ items. rows ++ items) (sym (reverse-append left ((key, value) ∷ [])))
    ∙ ap (λ items. rows ++ reverse items) (sym last) ∙ split in
    let in_order : IsAscending cmp (rows ++ (key, value) ∷ reverse left) = subst (λ those. IsAscending cmp those) (sym joined) ascending in (
      ap (λ those. those ++ reverse left) put ∙ with_row-last cmp total key rows value (reverse left) in_order ∙ joined,
      is_old ∙ value_of-last cmp total key rows value (reverse left) in_order,
    )

-- the next row goes to the end, whether a value comes back (it does not) or none
pub loop-key-preserved : goal.loop-key-preserved
loop-key-preserved g c =
    let next = goes_last g.K.Ord.cmp g.met.K.Ord.total c.in-Some.key c.in-Some.value c.loop-key.table.rows c.loop-key.left.items c.pop.new.self.items
    c.args.rows.items _ _ c.loop-key.invariant.rows c.in-Some.ensures.items c.requires c.put.ensures.rows c.put.ensures.old in
    let spare = rw next.1 at c.put.ensures.spare in
    record { rows = next.0; spare = omega (arith, spare, c.loop-key.invariant.spare, c.in-Some.ensures.len) }

pub loop-key-preserved-in-Some : goal.loop-key-preserved-in-Some
loop-key-preserved-in-Some g c =
    let next = goes_last g.K.Ord.cmp g.met.K.Ord.total c.in-Some.key c.in-Some.value c.loop-key.table.rows c.loop-key.left.items c.pop.new.self.items
    c.args.rows.items _ _ c.loop-key.invariant.rows c.in-Some.ensures.items c.requires c.put.ensures.rows c.put.ensures.old in
    let spare = rw next.1 at c.put.ensures.spare in
    record { rows = next.0; spare = omega (arith, spare, c.loop-key.invariant.spare, c.in-Some.ensures.len) }
