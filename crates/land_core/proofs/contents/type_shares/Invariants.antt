use Rattle.std.proofs.Common.{◌≡◌, ◌++◌}
use Rattle.std.specs.List.{filter_map}
use Rattle.land_core.specs.Units.{share_in_unit, type_shares}
use Rattle.land_core.proofs.contents.type_shares.Given as goal

-- the shares collected, followed by those of the remaining entries, are the result
abbrev pub invariant-loop-entry : goal.invariant-loop-entry
invariant-loop-entry l = l.shares ++ filter_map (λ e. share_in_unit l.unit l.right_type e.1) l.entry-iterator ≡ type_shares l.register l.unit l.right_type
