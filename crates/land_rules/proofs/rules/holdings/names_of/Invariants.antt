use Rattle.std.proofs.Common.{◌≡◌, ℕ, ◌||◌}
use Rattle.std.specs.FinMap as map
use Rattle.std.specs.List.{list_any}
use Rattle.land_rules.proofs.Interests.{is_group_where}
use Rattle.land_rules.specs.Holdings.{has_member_among, has_number}
use Rattle.land_rules.proofs.rules.holdings.names_of.Given as goal

-- a group of which one of the parties is a member is in the set, or has not been read yet
abbrev pub invariant-loop-group : goal.invariant-loop-group
invariant-loop-group l = (named : ℕ) → (has_number l.names named || list_any (is_group_where (has_member_among (has_number l.parties)) named) l.group-iterator)
    ≡ (has_number l.parties named || list_any (is_group_where (has_member_among (has_number l.parties)) named) (map.entries l.at.members))
