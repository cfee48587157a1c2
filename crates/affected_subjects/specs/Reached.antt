-- What edits reach and the edited cell hasn't. This project's own rule.
use Rattle.std.specs.Prelude.{not, List, filter}
use Rattle.cell_spec.specs.declared.key.Subject.{Subject}
use Rattle.rule_spec.specs.Affected.{Change, considered, each_once}
use Rattle.rule_spec.specs.Findings.{is_subject}

-- what is looked at after edits and is no subject of the edited cell, each once, at the place where it first comes
abbrev pub gone_list : Change → List Subject
gone_list ch = filter (λ s. not (is_subject ch.after s)) (each_once (considered ch))
