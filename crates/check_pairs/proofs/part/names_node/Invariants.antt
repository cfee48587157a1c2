use Rattle.std.proofs.Common.{◌≡◌, drop}
use Rattle.std.specs.List.{list_any}
use Rattle.s57_types.specs.declared.record.End.{End}
use Rattle.cell_spec.specs.Names.{same_name}
use Rattle.rule_spec.specs.Contacts.{names_node}
use Rattle.check_pairs.proofs.part.names_node.Given as goal

abbrev pub invariant-loop-end : goal.invariant-loop-end
invariant-loop-end l = list_any (λ (end : End). same_name l.name end.to) (drop l.end-index l.end-items) ≡ names_node l.edge l.name
