-- The cell of a file by the windows in which its records are decoded.
use Rattle.std.proofs.Common.{◌≡◌, ◌≤◌, ◌+◌, ℕ, false, All, List, [], ◌∷◌, ◌++◌, length, map, Ok, Err, refl, sym, ap, subst}
use Rattle.std.proofs.Common.{◌∙◌, Vec, Global, arith}
use Rattle.std.specs.Prelude.{Contains, IfOk, MatchResult, Result}
use Rattle.std.specs.List.{AllZip}
use Rattle.std.proofs.lemmas.List.Elements.{All-cons, All-head, All-nil, All-tail}
use Rattle.frame_spec.specs.FrameDecision.{frame_at}
use Rattle.frame_spec.specs.RecordFrame.{FrameView}
use Rattle.s57_types.specs.declared.cell.Cell.{Cell}
use Rattle.s57_types.specs.declared.name.Kind.{Kind}
use Rattle.s57_types.specs.declared.name.Kind.TheVariants.{Vi, Vc, Ve, Fe, Head}
use Rattle.s57_types.specs.declared.record.Rec.{Rec}
use Rattle.cell_spec.specs.Lookup.{name_of}
use Rattle.file_spec.specs.CellRecords.{with_record, with_record_of_kind}
use Rattle.file_spec.specs.DecodedCell.{with_following}
use Rattle.file_spec.specs.FileRecords.{records_after}
use Rattle.cell_read.specs.RecordsFrom.{record_said}
use Rattle.cell_read.specs.Windows.{AreAdded, AreKeptFrom, AreListed, AreWindows, IsKeptOfFrame, IsListed, IsShort, records_in}
use Rattle.cell_read.specs.declared.threads.Window.{Window}
use Rattle.cell_read.proofs.FileSteps.{following-added, following-end, found_before}
use Rattle.cell_read.proofs.KeptRecords.{kept_is_listed, kept_of, whole_following}

-- the level of national attributes stays that of the head
level_by : (kind : Kind) (r : Rec) (c : Cell) → (with_record_of_kind kind r c).head.nall ≡ c.head.nall
level_by Vi r c = refl
level_by Vc r c = refl
level_by Ve r c = refl
level_by Fe r c = refl
level_by Head r c = refl

pub added_level : (c d : Cell) (recs : List Rec) → AreAdded c recs d → d.head.nall ≡ c.head.nall
added_level c d [] added = ap (λ (x : Cell). x.head.nall) added
added_level c d (r ∷ recs) added = added_level (with_record r c) d recs added.1 ∙ level_by (name_of r).kind r c

-- the records up to the end, each of which may follow, make the cell
pub followed : (nall number at : ℕ) (b : List ℕ) (c d : Cell) (recs : List Rec) → c.head.nall ≡ nall → AreKeptFrom nall b at (length b) recs
    → AreAdded c recs d → with_following number c (records_after b at false) ≡ Ok d
followed nall number at b c d [] level kept added = following-end number c b at (omega (arith, kept)) ∙ ap Ok (sym added)
followed nall number at b c d (r ∷ recs) level kept added =
    let frame = kept.0 in
    let one = kept_of c.head.nall r (record_said c.head.nall frame.fields) (subst (λ n. IsKeptOfFrame n frame r) (sym level) kept.2) in
    following-added number c b at frame r (found_before b at false frame kept.1) kept.1
    (one.is ∙ ap Ok (sym (whole_following c r one.whole one.of_it added.0))) added.0
    ∙ followed nall (number + 1) (at + frame.length) b (with_record r c) d recs (level_by (name_of r).kind r c ∙ level) kept.4 added.1

-- they stand in the lists of a cell
pub listed : (nall from to : ℕ) (b : List ℕ) (recs : List Rec) → AreKeptFrom nall b from to recs → AreListed nall recs
listed nall from to b [] kept = All-nil (IsListed nall)
listed nall from to b (r ∷ recs) kept =
    All-cons (IsListed nall) r recs (kept_is_listed nall (kept.0).fields r kept.2, kept.3)
    (listed nall (from + (kept.0).length) to b recs kept.4)

-- records are added one window after the other
pub added_behind : (c d e : Cell) (recs more : List Rec) → AreAdded c recs d → AreAdded d more e → AreAdded c (recs ++ more) e
added_behind c d e [] more first then_ = subst (λ x. AreAdded x more e) first then_
added_behind c d e (r ∷ recs) more first then_ = (first.0, added_behind (with_record r c) d e recs more first.1 then_)

-- ---- records that stand in the lists of a cell
module _ (nall : ℕ) where
  listed_tail : (r : Rec) (recs : List Rec) → AreListed nall (r ∷ recs) → AreListed nall recs
  listed_tail r recs all = All-tail (IsListed nall) r recs all

  listed_head : (r : Rec) (recs : List Rec) → AreListed nall (r ∷ recs) → IsListed nall r
  listed_head r recs all = All-head (IsListed nall) r recs all

  -- the first, and those behind it
  pub listed_next : {all : List Rec} (r : Rec) (recs : List Rec) → all ≡ r ∷ recs → AreListed nall all → IsListed nall r × AreListed nall recs
  listed_next r recs is all = let parts = subst (AreListed nall) is all in (listed_head r recs parts, listed_tail r recs parts)

  pub listed_front : (recs more : List Rec) → AreListed nall (recs ++ more) → AreListed nall recs
  listed_front [] more all = All-nil (IsListed nall)
  listed_front (r ∷ recs) more all =
      All-cons (IsListed nall) r recs (listed_head r (recs ++ more) all) (listed_front recs more (listed_tail r (recs ++ more) all))

  pub listed_back : (recs more : List Rec) → AreListed nall (recs ++ more) → AreListed nall more
  listed_back [] more all = all
  listed_back (r ∷ recs) more all = listed_back recs more (listed_tail r (recs ++ more) all)

-- ---- windows
-- each lies within the whole
pub within : (from to : ℕ) (windows : List Window) → AreWindows from to windows → All (λ (w : Window). w.to ≤ to) windows
within from to [] are = All-nil (λ (w : Window). w.to ≤ to)
within from to (w ∷ windows) are = All-cons (λ (w : Window). w.to ≤ to) w windows are.1 (within w.to to windows are.2)

-- one window more
pub windows_more : (from at to : ℕ) (windows : List Window) → AreWindows from at windows → at ≤ to
    → AreWindows from to (windows ++ record { from = at; to = to } ∷ [])
windows_more from at to [] are le = (sym are, omega arith, refl)
windows_more from at to (w ∷ windows) are le =
    let less : w.to ≤ at = are.1 in
    (are.0, omega (arith, less), windows_more w.to at to windows are.2 le)

-- ---- what is kept of the records of windows
module _ (nall : ℕ) (b : List ℕ) where
  joined : (from mid to : ℕ) (recs more : List Rec) → AreKeptFrom nall b from mid recs → AreKeptFrom nall b mid to more → AreKeptFrom nall b from to (recs ++ more)
  joined from mid to [] more kept then_ = subst (λ at. AreKeptFrom nall b at to more) (sym kept) then_
  joined from mid to (r ∷ recs) more kept then_ = (kept.0, kept.1, kept.2, kept.3, joined (from + (kept.0).length) mid to recs more kept.4 then_)

  -- of one record more
  pub kept_more : (from at : ℕ) (recs : List Rec) (frame : FrameView) (r : Rec) → AreKeptFrom nall b from at recs → frame_at b at false ≡ Ok frame
      → IsKeptOfFrame nall frame r → IsShort nall r → AreKeptFrom nall b from (at + frame.length) (recs ++ r ∷ [])
  kept_more from at recs frame r kept is one short = joined from at (at + frame.length) recs (r ∷ []) kept (frame, is, one, short, refl)

  module _ (E : Type 0) where
    abbrev IsReadOf : Window → Result (Vec Rec Global) E → Type 0
    IsReadOf window answer = IfOk answer (λ recs. AreKeptFrom nall b window.from window.to recs.items)

    values_kept : (from to : ℕ) (windows : List Window) (read : List (Vec Rec Global)) → AreWindows from to windows → AllZip IsReadOf windows (map Ok read)
        → AreKeptFrom nall b from to (records_in read)
    values_kept from to [] [] are each = are
    values_kept from to [] (recs ∷ read) are each = absurd each
    values_kept from to (window ∷ windows) [] are each = absurd each
    values_kept from to (window ∷ windows) (recs ∷ read) are each =
        joined from window.to to recs.items (records_in read) (subst (λ at. AreKeptFrom nall b at window.to recs.items) are.0 each.0)
        (values_kept window.to to windows read are.2 each.1)

    -- of windows, where all are read
    pub windows_kept : (windows : List Window) (answers : List (Result (Vec Rec Global) E)) → AllZip IsReadOf windows answers
        → (all : Result (Vec (Vec Rec Global) Global) E)
        → MatchResult all (λ v. (ys : List (Vec Rec Global)) × (answers ≡ map Ok ys) × (v.items ≡ ys)) (λ e. Contains answers (Err e))
        → IfOk all (λ v. (from to : ℕ) → AreWindows from to windows → AreKeptFrom nall b from to (records_in v.items))
    windows_kept windows answers each (Ok v) told = λ from to are.
        subst (λ read. AreKeptFrom nall b from to (records_in read)) (sym told.2)
        (values_kept from to windows told.0 are (subst (AllZip IsReadOf windows) told.1 each))
    windows_kept windows answers each (Err e) told = tt
