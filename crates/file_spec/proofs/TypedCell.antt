-- What is known of the items of a record in memory, which is shown of parts that are lent.
use Rattle.std.proofs.Common.{◌≡◌, ℕ, List, subst}
use Rattle.std.specs.List.{AllByRecursion}
use Rattle.s57_types.specs.FieldRows.{attribute_forms, attribute_row}
use Rattle.s57_types.specs.declared.record.Attr.{Attr}
use Rattle.s57_types.specs.declared.record.Rec.{Rec}
use Rattle.file_spec.specs.RoundTrip.{HasForms, AttributeHasForms, RecordHasForms}
use Rattle.cell_spec.proofs.EachItem.{each_weaker}

-- what was shown of a part that was lent
pub of_lent : {X : Type 0} (P : X → Type 0) (lent items : List X) → lent ≡ items → AllByRecursion P lent → AllByRecursion P items
of_lent P lent items is all = subst (AllByRecursion P) is all

pub attributes_at : (level : ℕ) (lent attrs : List Attr) → lent ≡ attrs → AllByRecursion AttributeHasForms lent
    → AllByRecursion (λ a. HasForms (attribute_forms level) (attribute_row level a)) attrs
attributes_at level lent attrs is all = each_weaker AttributeHasForms (λ a. HasForms (attribute_forms level) (attribute_row level a))
    (λ a has. has level) attrs (of_lent AttributeHasForms lent attrs is all)

pub records_at : (nall : ℕ) (lent records : List Rec) → lent ≡ records → AllByRecursion (λ rec. (level : ℕ) → RecordHasForms level rec) lent
    → AllByRecursion (RecordHasForms nall) records
records_at nall lent records is all =
    each_weaker (λ rec. (level : ℕ) → RecordHasForms level rec) (RecordHasForms nall) (λ rec has. has nall) records
    (of_lent (λ rec. (level : ℕ) → RecordHasForms level rec) lent records is all)
