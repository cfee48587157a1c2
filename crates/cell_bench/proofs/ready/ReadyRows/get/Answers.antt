use Rattle.std.proofs.Common.{◌≡◌, true, sym, ap, ◌∙◌, subst}
use Rattle.std.specs.Prelude.{MatchOption, not}
use Rattle.std.specs.List.{IsDistinct}
use Rattle.cell_spec.specs.Names.{same_subject}
use Rattle.std.proofs.lemmas.Option.{same_Some, slice_get_within}
use Rattle.std.specs.Option.{is_some}
use Rattle.rule_spec.specs.Affected.{has_valid_row, is_still_valid}
use Rattle.cell_bench.specs.Ready.{ArePlaces, IsValidRowOf, Ready, subjects_of}
use Rattle.cell_bench.proofs.ValidRows.{contained_at, only_one, row_as, row_in, some_as}
use Rattle.cell_bench.proofs.ready.ReadyRows.get.Goals as goal

-- the rows stand in order
in_order : (c : goal.In_default) → c.args.self.now.in_order ≡ true
in_order c = sym (ap (λ (r : Ready). r.in_order) c.self.view_is) ∙ ap (λ places. not (is_some places)) c.in_default.is

-- no two are about one subject
apart : (c : goal.In_default) → IsDistinct same_subject (subjects_of c.args.self.now.rows)
apart c =
    let own = c.self.inside in
    subst (λ (r : Ready). IsDistinct same_subject (subjects_of r.rows)) c.self.view_is
    (subst (λ places. MatchOption places (IsDistinct same_subject (subjects_of own.rows.now)) (ArePlaces own.stale.now own.rows.now own.rows.now))
    c.in_default.is c.self.invariant.by)

pub valid_at-requires : goal.valid_at-requires
valid_at-requires c =
    let now = c.args.self.now in
    let there = row_in now.rows c.args.place c.args.subject (c.requires (in_order c)) in
    slice_get_within now.rows c.args.place there.row there.at

pub returns-in_default-clause-some : goal.returns-in_default-clause-some
returns-in_default-clause-some c =
    let now = c.args.self.now in
    let there = row_in now.rows c.args.place c.args.subject (c.requires (in_order c.before)) in
    some_as c.valid_at.result (is_still_valid now.stale there.row) there.row (c.valid_at.ensures there.row there.at)
    ∙ sym (only_one now.stale now.rows c.args.place there.row (apart c.before) there.at)
    ∙ ap (has_valid_row now.stale now.rows) there.is

pub returns-in_default-clause-row : goal.returns-in_default-clause-row
returns-in_default-clause-row c =
    let now = c.args.self.now in
    let there = row_in now.rows c.args.place c.args.subject (c.requires (in_order c.before)) in
    row_as (IsValidRowOf now.stale now.rows c.args.subject) c.valid_at.result (is_still_valid now.stale there.row) there.row
    (c.valid_at.ensures there.row there.at)
    (λ valid. record { contained = contained_at now.rows c.args.place there.row there.at; about = there.is; valid = valid })

-- the places by which rows are found
by_places : (c : goal.In_ok-found) → ArePlaces c.self.inside.stale.now c.self.inside.rows.now c.self.inside.rows.now c.in-Some.places
by_places c =
    let own = c.self.inside in
    subst (λ places. MatchOption places (IsDistinct same_subject (subjects_of own.rows.now)) (ArePlaces own.stale.now own.rows.now own.rows.now)) c.in-Some.is
    c.self.invariant.by

pub at-requires : goal.at-requires
at-requires c =
    let valid = (by_places c).valid c.args.subject c.in_ok-found.found (sym c.in_ok-found.ensures) in
    slice_get_within c.self.inside.rows.now c.in_ok-found.found valid.row valid.at

pub returns-clause-some : goal.returns-clause-some
returns-clause-some c =
    ap is_some c.in_ok-found.ensures ∙ (by_places c.before).found c.args.subject
    ∙ ap (λ (r : Ready). has_valid_row r.stale r.rows c.args.subject) c.self.view_is

pub returns-clause-row : goal.returns-clause-row
returns-clause-row c =
    let own = c.self.inside in
    let rows = own.rows.now in
    let valid = (by_places c.before).valid c.args.subject c.in_ok-found.found (sym c.in_ok-found.ensures) in
    let is : IsValidRowOf own.stale.now rows c.args.subject valid.row = record {
      contained = contained_at rows c.in_ok-found.found valid.row valid.at;
      about = valid.about;
      valid = valid.valid;
    } in
    subst (λ (r : Ready). IsValidRowOf r.stale r.rows c.args.subject c.at.result.now) c.self.view_is
    (subst (IsValidRowOf own.stale.now rows c.args.subject) (same_Some valid.row c.at.result.now (sym valid.at ∙ c.at.ensures)) is)
