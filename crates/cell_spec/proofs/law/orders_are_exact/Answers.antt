use Rattle.cell_spec.proofs.Orders.{exact_names, exact_identities, exact_refs, exact_keys, total_names, total_identities, total_refs, total_keys}
use Rattle.cell_spec.proofs.SubjectOrder.{exact_subjects, total_subjects}
use Rattle.cell_spec.proofs.law.orders_are_exact.Goals as goal

pub returns-clause-names : goal.returns-clause-names
returns-clause-names c = record { total = total_names; exact = exact_names }

pub returns-clause-identities : goal.returns-clause-identities
returns-clause-identities c = record { total = total_identities; exact = exact_identities }

pub returns-clause-refs : goal.returns-clause-refs
returns-clause-refs c = record { total = total_refs; exact = exact_refs }

pub returns-clause-keys : goal.returns-clause-keys
returns-clause-keys c = record { total = total_keys; exact = exact_keys }

pub returns-clause-subjects : goal.returns-clause-subjects
returns-clause-subjects c = record { total = total_subjects; exact = exact_subjects }
