use Rattle.std.proofs.Common.{◌≡◌, All, List, map, filter, flat_map, subst, sym, ap, ◌∙◌}
use Rattle.std.specs.Borrow.{Bor}
use Rattle.std.specs.List.Sorted.{IsPermutation, IsSortedByKey}
use Rattle.std.proofs.lemmas.List.Sorted.{IsPermutation-map}
use Rattle.s57_types.specs.declared.name.RecName.{RecName}
use Rattle.s57_types.specs.declared.name.Lnam.{Lnam}
use Rattle.s57_types.specs.declared.record.Rec.{Rec}
use Rattle.s57_types.specs.declared.record.Rec.TheVariants.{H}
use Rattle.s57_types.specs.declared.cell.Cell.{Cell}
use Rattle.cell_spec.specs.declared.key.Ref.{Ref}
use Rattle.cell_spec.specs.Ascending.{ascending, order_by}
use Rattle.cell_spec.specs.Lookup.{all_records, name_of, bears, pointers_in}
use Rattle.cell_spec.specs.Names.{name_order, ref_order, identity_parts}
use Rattle.chain_topo.specs.Answers.{Answers}
use Rattle.chain_topo.specs.Listed.{HasFewPointers, values_at}
use Rattle.chain_topo.specs.Readable.{IsReadable}
use Rattle.chain_topo.proofs.Named.{found-moved, distinct-moved}
use Rattle.chain_topo.proofs.PointerCounts.{all_have_few_pointers}
use Rattle.chain_topo.proofs.sorted.ListLook.make.Goals as goal

pub pointers_with_starts-requires : goal.pointers_with_starts-requires
pointers_with_starts-requires c =
    subst (All (λ (r : Bor Rec). HasFewPointers r.now)) (sym c.deref.ensures.value)
    (all_have_few_pointers c.args.cell.now.head.nall (all_records c.args.cell.now) c.in_ok-records.records.items c.in_ok-records.ensures c.requires.fit)

-- lists of the records of a cell, sorted and grouped, answer as the cell does
answers : (c : Cell) (held moved : List (Bor Rec)) (pointers : List (RecName × Ref)) (identities : List (Lnam × RecName)) → IsReadable c
    → map (λ (r : Bor Rec). r.now) held ≡ all_records c → IsPermutation held moved → IsSortedByKey (λ (r : Bor Rec). name_of r.now) name_order moved
    → ((n : RecName) → values_at name_order pointers n ≡ ascending ref_order (flat_map (pointers_in n) (map (λ (r : Bor Rec). r.now) held)))
    → ((l : Lnam) → values_at (order_by identity_parts) identities l ≡ ascending name_order
    (map name_of (filter (bears l) (map (λ (r : Bor Rec). r.now) held))))
    → Answers c moved pointers identities
answers c held moved pointers identities readable all same rises refs bearers =
    let same_records : IsPermutation (all_records c) (map (λ (r : Bor Rec). r.now) moved) =
    subst (λ rs. IsPermutation rs (map (λ (r : Bor Rec). r.now) moved)) all (IsPermutation-map (λ (r : Bor Rec). r.now) held moved same) in
    let distinct = distinct-moved (all_records c) (map (λ (r : Bor Rec). r.now) moved) same_records readable.distinct in
    record {
      readable = readable;
      by_name = record { rises = rises; distinct = distinct };
      get = λ n. found-moved n (all_records c) (map (λ (r : Bor Rec). r.now) moved) same_records readable.distinct distinct;
      refs = λ n. refs n ∙ ap (λ rs. ascending ref_order (flat_map (pointers_in n) rs)) all;
      bearers = λ l. bearers l ∙ ap (λ rs. ascending name_order (map name_of (filter (bears l) rs))) all;
    }

pub invariant_of-result : goal.invariant_of-result
invariant_of-result c =
    let held : c.deref.result.now ≡ c.in_ok-records.records.items = c.deref.ensures.value in
    let again : c.deref-2.result.now ≡ c.in_ok-records.records.items = c.deref-2.ensures.value in (
      answers c.args.cell.now c.in_ok-records.records.items c.sorted_by_name.result.items c.in_ok-pointers.pointers c.in_ok-identities.identities c.requires
          c.in_ok-records.ensures c.sorted_by_name.ensures.same c.sorted_by_name.ensures.rises
          (λ n. c.in_ok-pointers.ensures n ∙ ap (λ rs. ascending ref_order (flat_map (pointers_in n) (map (λ (r : Bor Rec). r.now) rs))) held)
          (λ l. c.in_ok-identities.ensures l ∙ ap (λ rs. ascending name_order (map name_of (filter (bears l) (map (λ (r : Bor Rec). r.now) rs)))) again),
      c.in_ok-head.ensures ∙ ap H c.in_ok-copy.ensures,
    )
