-- A record of which the rows are kept serves as the whole record: both are too long when they are written, or it is the record.
use Rattle.std.proofs.Common.{◌≡◌, Bool, true, false, ℕ, nat_le, refl, sym, ap, ◌∙◌}
use Rattle.std.proofs.Common.{Option, Some, None, Result}
use Rattle.std.specs.Option.{option_or}
use Rattle.s57_types.specs.RecordFields.{written_length, length_limit}
use Rattle.s57_types.specs.declared.record.Rec.{Rec}
use Rattle.file_spec.specs.RecordFaults.{◌>>◌, demand}
use Rattle.cell_read.specs.KeptRecords.{IsKeptOf, same, long}

-- what is kept is as short as the record, and is the record where it is short
pub same_length : (nall : ℕ) (kept whole : Rec) → IsKeptOf nall kept whole → nat_le (written_length nall kept) length_limit ≡ nat_le
    (written_length nall whole) length_limit
same_length nall kept whole (same is) = ap (λ r. nat_le (written_length nall r) length_limit) is
same_length nall kept whole (long name k w) = k ∙ sym w

pub short_is : (nall : ℕ) (kept whole : Rec) → IsKeptOf nall kept whole → nat_le (written_length nall kept) length_limit ≡ true → kept ≡ whole
short_is nall kept whole (same is) short = is
short_is nall kept whole (long name k w) short = absurd cc

-- a test that is passed
pub passed_test : {E : Type 0} (b : Bool) (fault : E) → None ≡ demand b fault → b ≡ true
passed_test true fault is = refl
passed_test false fault is = absurd cc

-- two tests that are passed
pub past_two : {E X : Type 0} (a b : Option E) (x : Result X E) → option_or a b ≡ None → (a >> (b >> x)) ≡ x
past_two None None x is = refl
past_two None (Some e) x is = absurd cc
past_two (Some e) b x is = absurd cc
