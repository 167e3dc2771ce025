use Rattle.std.proofs.Common.{◌≡◌, ◌++◌, drop}
use Rattle.land_acts.specs.FirstRights.{listed_of_type}
use Rattle.land_acts.proofs.first_rights.listed_of_type.Given as goal

-- the shares so far, followed by those of the remaining rights
abbrev pub invariant-loop-right : goal.invariant-loop-right
invariant-loop-right l = l.shares.items ++ listed_of_type l.right_type (drop l.right-index l.rights) ≡ listed_of_type l.right_type l.rights
