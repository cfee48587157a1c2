use Rattle.std.proofs.Common.{◌≡◌, drop}
use Rattle.std.specs.List.{list_any}
use Rattle.rule_spec.specs.Features.{says_covered}
use Rattle.check_words.proofs.area.one_says_covered.Given as goal

abbrev pub invariant-loop-attr : goal.invariant-loop-attr
invariant-loop-attr l = list_any says_covered (drop l.attr-index l.attrs) ≡ list_any says_covered l.attrs
