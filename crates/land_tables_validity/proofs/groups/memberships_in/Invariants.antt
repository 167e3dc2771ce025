use Rattle.std.proofs.Common.{◌≡◌, ◌++◌, drop, take}
use Rattle.land_tables_validity.specs.Memberships.{group_live_spans, member_live_spans}
use Rattle.land_tables_validity.proofs.groups.memberships_in.Given as goal

-- the groups of the prefix, and the remaining ones
abbrev pub invariant-loop-party : goal.invariant-loop-party
invariant-loop-party l = l.live_spans.items ++ group_live_spans (drop l.party-index l.parties) ≡ group_live_spans l.parties

abbrev pub invariant-loop-member : goal.invariant-loop-member
invariant-loop-member l = l.live_spans.items ≡ group_live_spans l.parties ++ member_live_spans (take l.member-index l.members)
