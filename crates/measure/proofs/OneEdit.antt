-- A writable cell takes an edit that replaces a feature of it.
use Rattle.std.proofs.Common.{◌≡◌, subst, Bool, Option, List, ◌≤◌, ◌&&◌, true, false, Some, is_some, [], ◌∷◌, length, find, sym, ap, ◌∙◌, arith}
use Rattle.std.specs.Prelude.{◌==◌, nat_le, if◌then◌else◌, IsTrue}
use Rattle.std.specs.Borrow.{Bor}
use Rattle.std.specs.Option.{option_copied}
use Rattle.row_spec.proofs.Runs.{is_some-copied}
use Rattle.std.proofs.lemmas.Bool.Decides.{nat_tests}
use Rattle.s57_types.specs.declared.name.Kind.TheVariants.{Fe}
use Rattle.s57_types.specs.declared.name.RecName.{RecName}
use Rattle.s57_types.specs.declared.record.Rec.{Rec}
use Rattle.s57_types.specs.declared.record.Rec.TheVariants.{H}
use Rattle.s57_types.specs.declared.cell.Cell.{Cell}
use Rattle.s57_types.specs.Heads.{head_name}
use Rattle.cell_spec.specs.declared.edit.Edit.{Edit}
use Rattle.cell_spec.specs.declared.edit.Edit.TheVariants.{Set}
use Rattle.cell_spec.specs.Edits.{apply_edits, find_their_records, is_applicable}
use Rattle.cell_spec.specs.Lookup.{all_records, is_named, listed_record, lookup_record, name_of}
use Rattle.cell_spec.specs.Names.{same_name, kind_rank}
use Rattle.cell_spec.specs.Readable.{WritableCellsAreReadable}
use Rattle.cell_spec.specs.Writable.{IsWritable, record_limit}
use Rattle.edit_sets.specs.FormFault.{IsFormed}
use Rattle.answer_laws.specs.EditedCells.{CountsAfter, FormedEditsFindTheirRecords}

-- a feature is no head
listed_when : (c : Cell) (n : RecName) → n.kind ≡ Fe → lookup_record c n ≡ listed_record c n
listed_when c n feature =
    let other : same_name n head_name ≡ false = ap (λ k. kind_rank k == kind_rank head_name.kind && n.id == head_name.id) feature in
    λ i. if other i then Some (H c.head) else find (is_named n) (all_records c)

is_found : (c : Cell) (r : Rec) → (name_of r).kind ≡ Fe → is_some (lookup_record c (name_of r)) ≡ true → find_their_records (Set r ∷ []) c ≡ true
is_found c r feature some = ap (λ b. b && true) (sym (ap is_some (listed_when c (name_of r) feature)) ∙ some)

one_is_taken : (c : Cell) (r : Rec) (guards : List RecName) → IsWritable c → IsFormed c.head.nall (Set r ∷ []) guards
    → FormedEditsFindTheirRecords → WritableCellsAreReadable → CountsAfter
    → (name_of r).kind ≡ Fe → is_some (lookup_record c (name_of r)) ≡ true → is_applicable (Set r ∷ []) c ≡ true
one_is_taken c r guards w formed find readable counts feature some =
    let found = find c (Set r ∷ []) guards (readable c w) formed (is_found c r feature some) in
    let after = counts (Set r ∷ []) c found in
    let few = w.not_too_many in
    let room : length (all_records (apply_edits (Set r ∷ []) c)) ≤ record_limit = omega (arith, after, few) in
    let within : nat_le (length (all_records (apply_edits (Set r ∷ []) c))) record_limit ≡ true = grind (arith, nat_tests) in
    λ i. is_found c r feature some i && (within i && true)

-- a set of one edit, which replaces a feature that a look-up finds
pub one_edit_is_taken : (c : Cell) (edits : List Edit) (edit : Edit) (r : Rec) (guards : List RecName) → edits ≡ edit ∷ [] → edit ≡ Set r
    → IsWritable c → IsFormed c.head.nall edits guards → FormedEditsFindTheirRecords → WritableCellsAreReadable → CountsAfter
    → (name : RecName) → name ≡ name_of r → name.kind ≡ Fe → (found : Option (Bor Rec)) → option_copied found ≡ lookup_record c name
    → (some : Bool) → some ≡ is_some found → IsTrue some → is_applicable edits c ≡ true
one_edit_is_taken c edits edit r guards only is w formed find readable counts name named feature found looked_up some is_found taken =
    let same : edits ≡ Set r ∷ [] = only ∙ ap (λ e. e ∷ []) is in
    let there : is_some (lookup_record c (name_of r)) ≡ true = ap (λ n. is_some (lookup_record c n)) (sym named)
    ∙ sym (ap is_some looked_up) ∙ is_some-copied found ∙ sym is_found ∙ taken in
    let kind : (name_of r).kind ≡ Fe = ap (λ n. n.kind) (sym named) ∙ feature in
    subst (λ es. is_applicable es c ≡ true) (sym same)
    (one_is_taken c r guards w (subst (λ es. IsFormed c.head.nall es guards) same formed) find readable counts kind there)
