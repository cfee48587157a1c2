-- What a turn tells a desk.
use mathlib.Core.List.{IsPrefix}
use Rattle.std.proofs.Common.{◌≡◌, ℕ, List, [], ◌∷◌, ◌++◌, map, refl, sym, ap, subst, ◌∙◌, Option, Some, Result, Ok, Err, arith}
use Rattle.std.specs.Prelude.{IfSome}
use Rattle.s57_types.specs.declared.cell.Cell.{Cell}
use Rattle.history_spec.specs.declared.entry.Entry.{Entry}
use Rattle.history_spec.specs.declared.reply.Reply.{Reply}
use Rattle.history_spec.specs.Entries.{AreTold, base_told, brief_of, event_asked, replayed}
use Rattle.history_spec.specs.Steps.{answer}
use Rattle.turn_gate.specs.Handles.{HandleState, TakesTurn}
use Rattle.turn_gate.specs.Histories.{extended}
use Rattle.turn_gate.proofs.Additions.{added_none, added_one}
use Rattle.turn_gate.proofs.Prefixes.{prefix_trans}
use Rattle.commit_book.specs.declared.refusal.BookRefusal.{BookRefusal}
use Rattle.commit_book.specs.Books.{BookState, IsBookRefusal, IsEntered, entry_of, history_of}
use Rattle.workroom.specs.declared.turn.Ask.{Ask}
use Rattle.workroom.specs.declared.turn.Turned.{Turned}
use Rattle.workroom.specs.Desks.{IsDesk, IsLeftBehind, IsTurned, IsUnasked, desk_of_handle}
use Rattle.workroom.specs.Turns.{IsActed, IsRefused, IsTurn, asked_of, desk_of}
use Rattle.room_laws.proofs.Bases.{base_stays}
use Rattle.workroom.proofs.Moves.{copy_moves, copy_stays, newest_base, number_above}

-- what the book entered is what the turn does
pub acted : (c : Cell) (ask : Ask) (old : BookState) (desk : ℕ) (new : BookState) (turned : Turned) → old.opening ≡ c
    → IsEntered old desk (asked_of ask) new turned.reply
    → AreTold new.opening new.entries → IfSome turned.bench (λ cell. cell ≡ (history_of new).cell) → IsActed c ask old.entries turned new.entries
acted c ask old desk new turned is entered told copied = record {
  desk = desk;
  entries = entered.entries;
  reply_is = entered.reply_is ∙ ap (λ (o : Cell). answer (replayed o old.entries) (event_asked (asked_of ask))) is;
  told = subst (λ (o : Cell). AreTold o new.entries) (entered.opening ∙ is) told;
  bench_is = subst (λ (o : Cell). IfSome turned.bench (λ cell. cell ≡ (replayed o new.entries).cell)) (entered.opening ∙ is) copied;
}

pub refused : (c : Cell) (old new : BookState) (why : BookRefusal) → old.opening ≡ c → IsBookRefusal old.entries why → new ≡ old
    → AreTold new.opening new.entries → IsRefused c old.entries why new.entries
refused c old new why is because same told = record {
  same = ap (λ (b : BookState). b.entries) same;
  why_is = subst (λ (b : BookState). IsBookRefusal b.entries why) (sym same) because;
  told = subst (λ (o : Cell). AreTold o new.entries) (ap (λ (b : BookState). b.opening) same ∙ is) told;
}

module _ (old new : HandleState Entry Cell) (ask : Ask) (r : Result Turned BookRefusal)
    (turn : TakesTurn desk_of (λ before after. IsTurn old.origin ask before r after) old new) where
  pub answered : (turned : Turned) → r ≡ Ok turned → TakesTurn desk_of (λ before after. IsActed old.origin ask before turned after) old new
  answered turned is = subst (λ (r : Result Turned BookRefusal). TakesTurn desk_of (λ before after. IsTurn old.origin ask before r after) old new) is turn

  pub unanswered : (why : BookRefusal) → r ≡ Err why → TakesTurn desk_of (λ before after. IsRefused old.origin before why after) old new
  unanswered why is = subst (λ (r : Result Turned BookRefusal). TakesTurn desk_of (λ before after. IsTurn old.origin ask before r after) old new) is turn

-- an answered turn
module _ (old new : HandleState Entry Cell) (ask : Ask) (turned : Turned)
    (t : TakesTurn desk_of (λ before after. IsActed old.origin ask before turned after) old new) where
  abbrev entry_by : ℕ → Entry
  entry_by n = entry_of n (asked_of ask) (brief_of turned.reply)

  grown : IsPrefix old.observed new.observed
  grown = prefix_trans old.observed t.before new.observed t.begins (entry_by t.relation.desk ∷ [], sym t.relation.entries)

  pub call_entered : (reply : Reply) (base base' : ℕ) (cell cell' : Cell) → reply ≡ turned.reply
      → IsTurned (desk_of_handle old cell base) (asked_of ask) reply (desk_of_handle new cell' base')
  call_entered reply base base' cell cell' is =
      let acted = t.relation in
      let one = added_one desk_of (λ before after. IsActed old.origin ask before turned after) old new t (entry_by acted.desk) acted.entries in
      let entered : IsTurned (desk_of_handle old cell base) (asked_of ask) turned.reply (desk_of_handle new cell' base') = record {
        before = t.before;
        begins = t.begins;
        seen = acted.entries ∙ ap (λ n. t.before ++ entry_by n ∷ []) one.0;
        reply_is = acted.reply_is;
        own = one.1 ∙ ap (λ n. map (extended old.number (entry_by n ∷ [])) old.own) one.0;
      } in
      subst (λ (r : Reply). IsTurned (desk_of_handle old cell base) (asked_of ask) r (desk_of_handle new cell' base')) (sym is) entered

  pub copy_kept : (base : ℕ) (cell : Cell) → IsDesk old.origin old.observed base cell → new.origin ≡ old.origin → IsDesk new.origin new.observed base cell
  copy_kept base cell d same = subst (λ (c : Cell). IsDesk c new.observed base cell) (sym same)
      (copy_stays old.origin old.observed new.observed base cell d grown t.relation.told)

  pub copy_taken : (base base' : ℕ) (cell' : Cell) → base' ≡ base_told (brief_of turned.reply) base → (base' ≡ base → ⊥)
      → turned.bench ≡ Some cell' → new.origin ≡ old.origin → IsDesk new.origin new.observed base' cell'
  copy_taken base base' cell' told moved copied same =
      let acted = t.relation in
      let last = told ∙ newest_base old.origin ask t.before turned new.observed acted base (λ is. moved (told ∙ is)) in
      let newest = subst (λ (bench : Option Cell). IfSome bench (λ cell. cell ≡ (replayed old.origin new.observed).cell)) copied acted.bench_is in
      subst (λ (c : Cell). IsDesk c new.observed base' cell') (sym same) (copy_moves old.origin new.observed base' cell' acted.told last newest)

  pub left_behind : (base base' : ℕ) (cell : Cell) → IsDesk old.origin old.observed base cell → base' ≡ base_told (brief_of turned.reply) base
      → (base' ≡ base → ⊥)
      → IsLeftBehind (desk_of_handle old cell base) (asked_of ask) (desk_of_handle new cell base)
  left_behind base base' cell d told moved = record {
    reply = turned.reply;
    turned = call_entered turned.reply base base cell cell refl;
    base = omega arith;
    behind = number_above old.origin ask t.before turned new.observed t.relation base
        (base_stays old.origin old.observed t.before base t.begins d.base_is) (λ is. moved (told ∙ is));
  }

-- a turn that was refused
module _ (old new : HandleState Entry Cell) (why : BookRefusal) (t : TakesTurn desk_of (λ before after. IsRefused old.origin before why after) old new) where
  grown_without : IsPrefix old.observed new.observed
  grown_without = subst (λ (es : List Entry). IsPrefix old.observed es) (sym t.relation.same) t.begins

  pub call_refused : (base : ℕ) (cell : Cell) → IsUnasked (desk_of_handle old cell base) (desk_of_handle new cell base)
  call_refused base cell = record {
    begins = grown_without;
    own = added_none desk_of (λ before after. IsRefused old.origin before why after) old new t t.relation.same;
    base = refl;
    cell = refl;
  }

  pub copy_left : (base : ℕ) (cell : Cell) → IsDesk old.origin old.observed base cell → new.origin ≡ old.origin → IsDesk new.origin new.observed base cell
  copy_left base cell d same = subst (λ (c : Cell). IsDesk c new.observed base cell) (sym same)
      (copy_stays old.origin old.observed new.observed base cell d grown_without t.relation.told)
