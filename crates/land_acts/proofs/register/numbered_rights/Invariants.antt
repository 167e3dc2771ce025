use Rattle.std.proofs.Common.{◌≡◌, ◌+◌, ◌≤◌, ◌++◌, length, drop}
use Rattle.std.specs.Prelude.{map as map_list}
use Rattle.land_acts.specs.Mutations.Numbering.{with_numbers_from}
use Rattle.land_acts.specs.Registering.{new_right_record}
use Rattle.land_acts.proofs.register.numbered_rights.Given as goal
use Rattle.land_core.specs.Numbers.{last_next}

-- the rights so far, followed by the remaining ones under the next numbers
abbrev pub invariant-loop-right : goal.invariant-loop-right
invariant-loop-right l =
    (l.placed ++ with_numbers_from l.number (map_list (new_right_record l.unit l.source) (drop l.right-index l.rights)) ≡ with_numbers_from l.first (map_list (new_right_record l.unit l.source) l.rights))
    × (l.number + length (drop l.right-index l.rights) ≤ last_next)
