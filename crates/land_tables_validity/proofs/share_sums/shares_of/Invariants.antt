use Rattle.std.proofs.Common.{◌≡◌, ◌++◌, drop}
use Rattle.land_tables_validity.specs.Holdings.{holding_shares}
use Rattle.land_tables_validity.specs.LiveSpan.{span_values}
use Rattle.land_tables_validity.proofs.share_sums.shares_of.Given as goal

-- the shares of the prefix, and the remaining ones
abbrev pub invariant-loop-one : goal.invariant-loop-one
invariant-loop-one l =
    l.shares.items ++ holding_shares l.right_type (span_values (drop l.one-index l.there))
    ≡ holding_shares l.right_type (span_values l.there)
