use Rattle.std.proofs.Common.{take, ap, ◌∙◌, sym}
use Rattle.std.specs.List.{list_any}
use Rattle.std.proofs.lemmas.List.{take_more}
use Rattle.cell_spec.specs.Names.{same_name}
use Rattle.commit_book.proofs.Noted.{noted_name_more}
use Rattle.commit_book.proofs.commit_places.CommitPlaces.note.Goals as goal

pub loop-name-preserved : goal.loop-name-preserved
loop-name-preserved c =
    let i = c.loop-name.name-index in
    let names = c.args.names.now in
    record {
      kept = λ n k was. c.note_at.ensures.kept n k (c.loop-name.invariant.kept n k was);
      noted = λ n among.
          noted_name_more c.loop-name.self c.note_at.new.self c.args.place (take i names) _ c.note_at.ensures.kept c.loop-name.invariant.noted
          (c.in_ok-note_at.ensures.noted) n (sym (ap (list_any (λ name. same_name n name)) (take_more names i _ c.loop-name-test.true)) ∙ among);
    }
