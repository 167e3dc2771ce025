use Rattle.std.proofs.Common.{◌≡◌, ◌+◌, ◌≤◌, length, drop}
use Rattle.land_tables_validity.specs.LiveSpan.{span_values}
use Rattle.land_tables_validity.specs.Memberships.{member_shares}
use Rattle.land_tables_validity.proofs.groups.is_group_size.Given as goal

-- the members of the prefix and the remaining ones are all; the prefix has at most 64
abbrev pub invariant-loop-one : goal.invariant-loop-one
invariant-loop-one l =
    (l.members + length (member_shares (span_values (drop l.one-index l.there))) ≡ length (member_shares (span_values l.there)))
    × (l.members ≤ 64)
