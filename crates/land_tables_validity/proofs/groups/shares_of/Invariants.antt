use Rattle.std.proofs.Common.{◌≡◌, ◌++◌, drop}
use Rattle.land_tables_validity.specs.LiveSpan.{span_values}
use Rattle.land_tables_validity.specs.Memberships.{member_shares}
use Rattle.land_tables_validity.proofs.groups.shares_of.Given as goal

-- the shares of the prefix, and the remaining ones
abbrev pub invariant-loop-one : goal.invariant-loop-one
invariant-loop-one l = l.shares.items ++ member_shares (span_values (drop l.one-index l.there)) ≡ member_shares (span_values l.there)
