use Rattle.std.proofs.Common.{◌≡◌, ℕ, ◌+◌, ◌<◌, ◌||◌, ◌++◌, ◌∷◌, [], Bool, List, length, get_or, take, sym, ap, ◌∙◌}
use Rattle.std.specs.List.{flat_map}
use Rattle.std.specs.Ordering.{is_eq}
use Rattle.std.proofs.Math.Bool.{or_assoc}
use Rattle.std.proofs.lemmas.Grind.{flat_map-append}
use Rattle.std.proofs.lemmas.List.{take_more}
use Rattle.std.proofs.lemmas.List.{append-nil}
use Rattle.std.proofs.lemmas.List.Folds.{list_any-append}
use Rattle.s57_types.specs.declared.name.Kind.TheVariants.{Vi}
use Rattle.s57_types.specs.declared.name.RecName.{RecName}
use Rattle.cell_spec.specs.declared.key.Subject.{Subject}
use Rattle.cell_spec.specs.declared.key.Subject.TheVariants.{Rec}
use Rattle.cell_spec.specs.Names.{name_order}
use Rattle.subject_rows.specs.Names.{is_among, names_of_pair}
use Rattle.subject_rows.proofs.names.push_pair_names.Goals as goal

abbrev default : Subject
default = Rec (record { kind = Vi; id = 0 })

-- the names of one subject more
one_more : (n : RecName) (there : Bool) (subjects : List Subject) (i : ℕ) → i < length subjects
    → ((there || is_among (flat_map names_of_pair (take i subjects)) n) || is_among (names_of_pair (get_or subjects i default)) n)
    ≡ (there || is_among (flat_map names_of_pair (take (i + 1) subjects)) n)
one_more n there subjects i within =
    let s = get_or subjects i default in
    or_assoc there (is_among (flat_map names_of_pair (take i subjects)) n) (is_among (names_of_pair s) n)
    ∙ ap (λ b. there || b)
    (sym (list_any-append (λ m. is_eq (name_order n m)) (flat_map names_of_pair (take i subjects)) (names_of_pair s))
    ∙ ap (λ names. is_among (flat_map names_of_pair (take i subjects) ++ names) n) (sym (append-nil (names_of_pair s)))
    ∙ ap (λ names. is_among names n) (sym (flat_map-append names_of_pair (take i subjects) (s ∷ [])) ∙ ap (flat_map names_of_pair)
    (sym (take_more subjects i default within))))

pub loop-subject-preserved : goal.loop-subject-preserved
loop-subject-preserved c = (
  λ n.
      c.in_ok-push_names_of.ensures.names n
      ∙ ap (λ b. b || is_among (names_of_pair (get_or c.args.subjects.now c.loop-subject.subject-index default)) n) (c.loop-subject.invariant.0 n)
      ∙ one_more n (is_among c.args.names.now.items n) c.args.subjects.now c.loop-subject.subject-index c.loop-subject-test.true,
  c.in_ok-push_names_of.ensures.there,
)
