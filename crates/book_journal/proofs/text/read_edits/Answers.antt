use Rattle.std.proofs.Common.{◌≡◌, ◌∙◌, List, Option, Vec, All, true, sym, subst}
use Rattle.std.specs.Option.{option_map}
use Rattle.std.specs.declared.alloc.Global.{Global}
use Rattle.cell_spec.specs.declared.edit.Edit.{Edit}
use Rattle.text_spec.specs.EditLine.{has_line}
use Rattle.book_journal.specs.Texts.{AreEditsRead}
use Rattle.book_journal.proofs.Texts.{lines_stand, no_pushes, no_script, none_read, not_told, pushes_read, script_lines}
use Rattle.book_journal.proofs.text.read_edits.Goals as goal

pub returns-in_default : goal.returns-in_default
returns-in_default c =
    none_read c.args.text.now (no_script c.args.text.now c.in_ok-script.field-0 c.in_ok-script.ensures c.in_default.not-Some)

pub returns-in_default-2 : goal.returns-in_default-2
returns-in_default-2 c =
    let is = rw c.in-Some.is at c.in_ok-script.ensures in
    none_read c.args.text.now (no_pushes c.args.text.now c.in-Some.script is (λ edits pushes.
    not_told c.commands.result.now c.in_ok-edits.field-0 c.in_ok-edits.ensures c.in_default-2.not-Some edits (c.commands.ensures ∙ pushes)))

pub is_text_of-requires : goal.is_text_of-requires
is_text_of-requires c =
    let is = rw c.in-Some.is at c.in_ok-script.ensures in
    let pushes = rw c.in-Some-2.is at c.in_ok-edits.ensures in
    subst (λ (l : List Edit). All (λ (edit : Edit). has_line edit ≡ true) l) (sym c.deref.ensures.value)
    (lines_stand c.in-Some-2.edits.items (script_lines c.args.text.now c.in-Some.script c.in-Some-2.edits.items is.is (sym c.commands.ensures ∙ pushes)))

pub returns : goal.returns
returns c =
    let is = rw c.in-Some.is at c.in_ok-script.ensures in
    let pushes = rw c.in-Some-2.is at c.in_ok-edits.ensures in
    let same = rw c.deref.ensures.value at c.in_ok-same.ensures in
    subst (λ (o : Option (Vec Edit Global)). AreEditsRead c.args.text.now (option_map (λ (v : Vec Edit Global). v.items) o)) (sym c.then_some.ensures)
    (pushes_read c.args.text.now c.in-Some.script c.in-Some-2.edits c.in_ok-same.same is (sym c.commands.ensures ∙ pushes) same)
