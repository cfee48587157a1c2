use Rattle.std.proofs.Common.{◌≡◌, Option, None, Err, length, map, refl, rules, sym, ap, ◌∙◌, string_bytes, subst, arith}
use Rattle.std.specs.Prelude.{IfSome, codes}
use Rattle.crash_disk.specs.Disk.{LeavesOnly}
use Rattle.report_text.specs.declared.status.Status.TheVariants.{Usage}
use Rattle.call_files.specs.Words.{is_word}
use Rattle.keep_run.specs.Causes.{IsAskedIn, IsImageIn}
use Rattle.keep_run.specs.Words.{KeepForm, form_of}
use Rattle.keep_run.proofs.Answers.{not_asked}
use Rattle.keep_run.proofs.Words.{fewer, more, other_word, told_words}
use Rattle.keep_run.proofs.top.asked_keep.Goals as goal
use Rattle.keep_run.proofs.top.asked_keep.Goals.{in_default-via-then-words-lt5, in_default-via-else-words-lt5+else-words-lt6}

pub returns-in_default-clause-asked : goal.returns-in_default-clause-asked
returns-in_default-clause-asked g c =
    let files = g.H.Shelf.files c.args.shelf.now in
    let reads = g.H.Shelf.read_faults c.args.shelf.now in
    let disk = c.args.disk.now in
    let content = g.D.Disk.content disk in
    let faults = g.D.Disk.faults disk in
    let images = g.D.Disk.images disk in
    let asked : form_of (map string_bytes c.args.words.now) ≡ None
    → IsAskedIn (form_of (map string_bytes c.args.words.now)) files reads reads content content faults faults images (Err Usage) =
    λ none. subst (λ (f : Option KeepForm). IsAskedIn f files reads reads content content faults faults images (Err Usage)) (sym none) refl in
    elim c.in_default.branch [
      | in_default-via-then-words-lt5 w ↦ asked (fewer c.args.words.now (search rules))
      | in_default-via-else-words-lt5+else-words-lt6 w ↦ asked (more c.args.words.now (search rules))
    ]

pub returns-in_default-clause-moments : goal.returns-in_default-clause-moments
returns-in_default-clause-moments g c =
    let disk = c.args.disk.now in
    not_asked g.D.Disk.moment g.D.Disk.left_since g.D.Disk.images (form_of (map string_bytes c.args.words.now)) (g.H.Shelf.files c.args.shelf.now)
    (g.D.Disk.content disk) disk (g.met.D.Disk.only_now disk)

pub returns-clause-asked : goal.returns-clause-asked
returns-clause-asked g c =
    let reads = g.H.Shelf.read_faults c.args.shelf.now in
    let disk = c.args.disk.now in
    let five : length c.args.words.now ≡ 5 = omega (arith, c.in-len5.len_at_least, c.in-len5.len_below) in
    let other = ap (is_word (codes "keep")) (sym c.as_str.ensures.value) ∙ sym c.if-eq.ensures in
    let none = other_word c.args.words.now c.first-item.result c.cell-item.result c.out-item.result c.script-item.result five c.first-item.is c.cell-item.is
    c.out-item.is
    c.script-item.is other in
    subst (λ (f : Option KeepForm). IsAskedIn f (g.H.Shelf.files c.args.shelf.now) reads reads (g.D.Disk.content disk) (g.D.Disk.content disk)
    (g.D.Disk.faults disk) (g.D.Disk.faults disk) (g.D.Disk.images disk) (Err Usage)) (sym none) refl

pub returns-clause-moments : goal.returns-clause-moments
returns-clause-moments g c =
    let disk = c.args.disk.now in
    not_asked g.D.Disk.moment g.D.Disk.left_since g.D.Disk.images (form_of (map string_bytes c.args.words.now)) (g.H.Shelf.files c.args.shelf.now)
    (g.D.Disk.content disk) disk (g.met.D.Disk.only_now disk)

pub returns-then-eq-clause-asked : goal.returns-then-eq-clause-asked
returns-then-eq-clause-asked g c =
    let old = c.args.shelf.now in
    let disk = c.args.disk.now in
    let new = c.kept_work.new.disk in
    let five : length c.args.words.now ≡ 5 = omega (arith, c.in-len5.len_at_least, c.in-len5.len_below) in
    let form = told_words c.args.words.now c.first-item.result c.cell-item.result c.out-item.result c.script-item.result five c.first-item.is c.cell-item.is
    c.out-item.is c.script-item.is c.as_str.result.now c.as_str-then-eq.result.now c.as_str-then-eq-2.result.now c.as_str-then-eq-3.result.now
    c.as_str.ensures.value c.if-eq.ensures c.as_str-then-eq.ensures.value c.as_str-then-eq-2.ensures.value c.as_str-then-eq-3.ensures.value in
    subst (λ (f : Option KeepForm). IsAskedIn f (g.H.Shelf.files old) (g.H.Shelf.read_faults old) (g.H.Shelf.read_faults c.kept_work.new.shelf)
    (g.D.Disk.content disk) (g.D.Disk.content new) (g.D.Disk.faults disk) (g.D.Disk.faults new) (g.D.Disk.images new) c.kept_work.result) (sym form)
    c.kept_work.ensures.asked

pub returns-then-eq-clause-moments : goal.returns-then-eq-clause-moments
returns-then-eq-clause-moments g c =
    let disk = c.args.disk.now in
    let five : length c.args.words.now ≡ 5 = omega (arith, c.in-len5.len_at_least, c.in-len5.len_below) in
    let form = told_words c.args.words.now c.first-item.result c.cell-item.result c.out-item.result c.script-item.result five c.first-item.is c.cell-item.is
    c.out-item.is c.script-item.is c.as_str.result.now c.as_str-then-eq.result.now c.as_str-then-eq-2.result.now c.as_str-then-eq-3.result.now
    c.as_str.ensures.value c.if-eq.ensures c.as_str-then-eq.ensures.value c.as_str-then-eq-2.ensures.value c.as_str-then-eq-3.ensures.value in
    subst (λ (f : Option KeepForm). IfSome (g.D.Disk.content disk) (λ file. LeavesOnly g.D.Disk.moment g.D.Disk.left_since disk c.kept_work.new.disk
    (IsImageIn f (g.H.Shelf.files c.args.shelf.now) file (g.D.Disk.images disk)))) (sym form) c.kept_work.ensures.moments
