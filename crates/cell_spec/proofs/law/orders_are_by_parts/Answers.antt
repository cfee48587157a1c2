-- Two subjects are compared by their variants first, then by their parts.
use Rattle.std.proofs.Common.{◌≡◌, refl, rules}
use Rattle.std.specs.declared.cmp.Ordering.{Ordering}
use Rattle.std.specs.declared.cmp.Ordering.TheVariants.{Less, Equal, Greater}
use Rattle.std.specs.Ordering.{nat_cmp, ordering_then}
use Rattle.cell_spec.specs.Names.{kind_rank}
use Rattle.cell_spec.specs.declared.key.Subject.TheVariants.{Rec, Side, Pair, Ident}
use Rattle.cell_spec.proofs.law.orders_are_by_parts.Goals as goal

-- two comparisons, each of two parts, are the comparison of four parts
four_parts : (a b c d : Ordering) → ordering_then (ordering_then a (ordering_then b Equal)) (ordering_then c (ordering_then d Equal)) ≡
    ordering_then a (ordering_then b (ordering_then c (ordering_then d Equal)))
four_parts Less b c d = refl
four_parts Greater b c d = refl
four_parts Equal Less c d = refl
four_parts Equal Greater c d = refl
four_parts Equal Equal c d = refl

pub returns-clause-names : goal.returns-clause-names
returns-clause-names c = search rules

pub returns-clause-subjects : goal.returns-clause-subjects
returns-clause-subjects c (Rec n1) (Rec n2) = search rules
returns-clause-subjects c (Rec n1) (Side n2) = refl
returns-clause-subjects c (Rec n1) (Pair p2 q2) = refl
returns-clause-subjects c (Rec n1) (Ident l2) = refl
returns-clause-subjects c (Side n1) (Rec n2) = refl
returns-clause-subjects c (Side n1) (Side n2) = search rules
returns-clause-subjects c (Side n1) (Pair p2 q2) = refl
returns-clause-subjects c (Side n1) (Ident l2) = refl
returns-clause-subjects c (Pair p1 q1) (Rec n2) = refl
returns-clause-subjects c (Pair p1 q1) (Side n2) = refl
returns-clause-subjects c (Pair p1 q1) (Pair p2 q2) =
    rw (returns-clause-names c p1 p2) (rw (returns-clause-names c q1 q2)
    (four_parts (nat_cmp (kind_rank p1.kind) (kind_rank p2.kind)) (nat_cmp p1.id p2.id) (nat_cmp (kind_rank q1.kind) (kind_rank q2.kind))
    (nat_cmp q1.id q2.id)))
returns-clause-subjects c (Pair p1 q1) (Ident l2) = refl
returns-clause-subjects c (Ident l1) (Rec n2) = refl
returns-clause-subjects c (Ident l1) (Side n2) = refl
returns-clause-subjects c (Ident l1) (Pair p2 q2) = refl
returns-clause-subjects c (Ident l1) (Ident l2) = search rules
