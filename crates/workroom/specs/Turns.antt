-- What a desk asks in a turn at the log, and what the turn does. This project's own rules.
use Rattle.std.specs.Prelude.{◌≡◌, ℕ, ◌≤◌, List, [], ◌∷◌, ◌++◌, length, IfSome, Result, Ok, Err}
use Rattle.s57_types.specs.declared.cell.Cell.{Cell}
use Rattle.history_spec.specs.declared.entry.Asked.{Asked}
use Rattle.history_spec.specs.declared.entry.Asked.TheVariants as asked
use Rattle.history_spec.specs.declared.entry.Entry.{Entry}
use Rattle.history_spec.specs.Entries.{AreTold, brief_of, event_asked, replayed}
use Rattle.history_spec.specs.Steps.{answer}
use Rattle.cell_bench.specs.Benches.{PreparedCommit}
use Rattle.commit_book.specs.declared.refusal.BookRefusal.{BookRefusal}
use Rattle.commit_book.specs.Books.{IsBookRefusal, entry_of}
use Rattle.commit_book.specs.Prepared.{AreRight, IsAheadRight}
use Rattle.workroom.specs.declared.turn.Ask.{Ask}
use Rattle.workroom.specs.declared.turn.Ask.TheVariants.{View, Faulty, Commit}
use Rattle.workroom.specs.declared.turn.Turned.{Turned}

-- the number of the desk that made an entry
abbrev pub desk_of : Entry → ℕ
desk_of e = e.desk

-- what is entered of what is asked
abbrev pub asked_of : Ask → Asked
asked_of View = asked.View
asked_of (Faulty fault) = asked.Faulty fault
asked_of (Commit prepared) = asked.Commit prepared.base prepared.edits

-- a commit that can be put to a history: its base is that of an accepted commit, it is at the opening's level of national texts, and what was
-- prepared is right on the cell of its base
pub record IsReady (c : Cell) (entries : List Entry) (prepared : PreparedCommit) : Type 0 where
  pub base : prepared.base ≤ length (replayed c entries).commits
  pub level : prepared.edits.nall ≡ c.head.nall
  pub rows : AreRight c entries prepared
  pub ahead : IsAheadRight c entries prepared

abbrev pub CanAsk : Cell → List Entry → Ask → Type 0
CanAsk c entries View = Unit {0}
CanAsk c entries (Faulty fault) = Unit {0}
CanAsk c entries (Commit prepared) = IsReady c entries prepared

-- what is asked in a turn, beside the opening cell and the beginning of the history that the desk knows
pub record TurnState : Type 0 where
  pub ask : Ask
  pub opening : Cell
  pub seen : List Entry

-- a turn that was answered: one entry more with the answer at this point, and a bench that is handed out is that of the cell after it
pub record IsActed (c : Cell) (ask : Ask) (before : List Entry) (turned : Turned) (after : List Entry) : Type 0 where
  pub desk : ℕ
  pub entries : after ≡ before ++ entry_of desk (asked_of ask) (brief_of turned.reply) ∷ []
  pub reply_is : turned.reply ≡ answer (replayed c before) (event_asked (asked_of ask))
  pub told : AreTold c after
  pub bench_is : IfSome turned.bench (λ cell. cell ≡ (replayed c after).cell)

-- a turn that was refused
pub record IsRefused (c : Cell) (before : List Entry) (why : BookRefusal) (after : List Entry) : Type 0 where
  pub same : after ≡ before
  pub why_is : IsBookRefusal after why
  pub told : AreTold c after

abbrev pub IsTurn : Cell → Ask → List Entry → Result Turned BookRefusal → List Entry → Type 0
IsTurn c ask before (Ok turned) after = IsActed c ask before turned after
IsTurn c ask before (Err why) after = IsRefused c before why after
