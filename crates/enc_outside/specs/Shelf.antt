-- What a file store answers to a read.
use Rattle.std.specs.Prelude.{◌≡◌, ℕ, ◌+◌, ◌≤◌, List, length, take, Option, None, IsSomeAnd, slice_range}
use Rattle.enc_outside.specs.declared.shelf.Got.{Got}
use Rattle.enc_outside.specs.declared.shelf.Got.TheVariants.{Bytes, End, Absent}

-- the first n bytes that were read are those of the content from a place on
pub record HasBytes (content : List ℕ) (at n : ℕ) (into : List ℕ) : Type 0 where
  pub within : at + n ≤ length content
  pub same : take n into ≡ slice_range content at (at + n)

-- what was got from a name at a place, by the file of that name
abbrev pub TellsFile : Option (List ℕ) → ℕ → List ℕ → Got → Type 0
TellsFile file at into (Bytes n) = IsSomeAnd file (λ content. HasBytes content at n into)
TellsFile file at into End = IsSomeAnd file (λ content. length content ≤ at)
TellsFile file at into Absent = file ≡ None

-- a number of bytes is one that was asked for
abbrev pub FitsGot : List ℕ → Got → Type 0
FitsGot into (Bytes n) = (1 ≤ n) × (n ≤ length into)
FitsGot into End = Unit {0}
FitsGot into Absent = Unit {0}
