-- What is wrong with the numbers of edits and guards. This project's own rules.
use Rattle.std.specs.Prelude.{ℕ, ◌==◌, nat_lt, Option, None, Some, if◌then◌else◌}
use Rattle.edit_sets.specs.FormFault.{edit_limit, guard_limit}
use Rattle.edit_sets.specs.declared.fault.FormFault.{FormFault}
use Rattle.edit_sets.specs.declared.fault.FormFault.TheVariants.{Empty, TooMany, TooManyGuards}

-- there is no edit, or there are too many edits, or too many guards
abbrev pub count_fault : ℕ → ℕ → Option FormFault
count_fault edits guards =
    if edits == 0 then Some Empty else
    (if nat_lt edit_limit edits then Some (TooMany edits) else (if nat_lt guard_limit guards then Some (TooManyGuards guards) else None))
