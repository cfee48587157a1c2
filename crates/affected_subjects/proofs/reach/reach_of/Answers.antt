use Rattle.std.proofs.Common.{◌≡◌, ◌++◌, subst, sym, ◌∙◌}
use Rattle.cell_spec.specs.Edits.{apply_edits, touched_keys}
use Rattle.rule_spec.specs.Affected.{change_by, considered, each_once}
use Rattle.edit_sets.specs.FormFault.{IsFormed}
use Rattle.finding_laws.specs.Tables.{IsCoveringsOf}
use Rattle.answer_laws.specs.EditedAnswers.{FindTheirRecords}
use Rattle.affected_subjects.proofs.Reaching.{gone_is, judged_is, list_is, tiles_are}
use Rattle.affected_subjects.proofs.reach.reach_of.Goals as goal
use Rattle.affected_subjects.proofs.reach.reach_of.Goals.{In_ok-rounds}

-- what is asked for are the keys that the edits touch
keys_are : (g : _) (c : In_ok-rounds g) → c.as_slice-keys.result.now ≡ touched_keys c.args.edits.now.edits c.args.store.now
keys_are g c = c.as_slice-keys.ensures ∙ c.in_ok-touched.ensures.keys

-- the edits find their records in the store
all_found : (g : _) (c : In_ok-rounds g) → FindTheirRecords c.args.edits.now.edits c.args.store.now
all_found g c =
    let store = c.args.store.now in
    let edits = c.args.edits.now.edits in
    let formed = subst (λ nall. IsFormed nall edits c.args.edits.now.guards) c.requires.level c.known.ensures.parts in
    c.formed_edits_find_their_records.ensures store edits c.args.edits.now.guards
    (c.writable_cells_are_readable.ensures store c.known-2.ensures) formed c.requires.found

-- the tiles after the first round are those of the edited cell
edited_tiles : (g : _) (c : In_ok-rounds g) → IsCoveringsOf (apply_edits c.args.edits.now.edits c.args.store.now) c.in_ok-rounds.rounds.tiles
edited_tiles g c =
    tiles_are c.args.edits.now.edits c.args.store.now c.in_ok-edited.edited c.in_ok-edited.ensures.edited c.as_slice-keys.result.now (keys_are g c)
    c.args.map.now c.args.tiles.now c.in_ok-rounds.rounds.tiles c.requires.reads c.requires.tiles c.in_ok-rounds.ensures.tiles
    c.changes_give_the_tiles.ensures (all_found g c)

-- what is looked at is what the edits let be considered
all_considered : (g : _) (c : In_ok-rounds g)
    → c.in_ok-rounds.rounds.first ++ c.in_ok-rounds.rounds.pairs.items ≡ each_once (considered (change_by c.args.edits.now.edits c.args.store.now))
all_considered g c =
    list_is c.args.edits.now.edits c.args.store.now c.in_ok-edited.edited c.in_ok-edited.ensures.edited c.as_slice-keys.result.now (keys_are g c)
    c.args.map.now c.args.tiles.now c.in_ok-rounds.rounds.tiles c.requires.reads c.requires.tiles c.in_ok-rounds.ensures.tiles
    c.changes_give_the_tiles.ensures c.rounds_are_considered.ensures (all_found g c)
    (c.in_ok-rounds.rounds.first ++ c.in_ok-rounds.rounds.pairs.items) (λ i. c.in_ok-rounds.ensures.first i ++ c.in_ok-rounds.ensures.pairs i)

pub split-requires : goal.split-requires
split-requires g c =
    let here = (goal.at.split-requires g c).In_ok-rounds in
    λ stay. c.in_ok-rounds.ensures.known
    (subst (λ cell. IsCoveringsOf cell c.in_ok-rounds.rounds.tiles) (sym c.in_ok-edited.ensures.edited) (edited_tiles g here)) stay

pub returns-clause-tiles : goal.returns-clause-tiles
returns-clause-tiles g c = edited_tiles g (goal.at.returns-clause-tiles g c).In_ok-rounds

pub returns-clause-judged : goal.returns-clause-judged
returns-clause-judged g c =
    judged_is c.args.edits.now.edits c.args.store.now c.in_ok-edited.edited c.in_ok-edited.ensures.edited
    (c.in_ok-rounds.rounds.first ++ c.in_ok-rounds.rounds.pairs.items)
    (all_considered g (goal.at.returns-clause-judged g c).In_ok-rounds) _ (c.of_vec.ensures ∙ c.in_ok-parts.ensures.judged)

pub returns-clause-gone : goal.returns-clause-gone
returns-clause-gone g c =
    gone_is c.args.edits.now.edits c.args.store.now c.in_ok-edited.edited c.in_ok-edited.ensures.edited
    (c.in_ok-rounds.rounds.first ++ c.in_ok-rounds.rounds.pairs.items)
    (all_considered g (goal.at.returns-clause-gone g c).In_ok-rounds) _ (c.of_vec-2.ensures ∙ c.in_ok-parts.ensures.gone)
