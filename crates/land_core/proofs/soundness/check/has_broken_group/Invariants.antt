use Rattle.std.proofs.Common.{◌≡◌, not, ◌&&◌}
use Rattle.std.specs.List.{list_any}
use Rattle.land_core.specs.Members.{are_group_shares}
use Rattle.land_core.specs.Register.{is_single, shares_of}
use Rattle.land_core.specs.Soundness.{has_broken_group}
use Rattle.land_core.proofs.soundness.check.has_broken_group.Given as goal

-- a group is broken if and only if one of the remaining ones is
abbrev pub invariant-loop-number : goal.invariant-loop-number
invariant-loop-number l = list_any (λ e. not (is_single e.1.kind) && not (are_group_shares (shares_of l.register e.0))) l.number-iterator ≡ has_broken_group l.register
