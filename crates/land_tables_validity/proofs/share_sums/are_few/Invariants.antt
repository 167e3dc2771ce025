use Rattle.std.proofs.Common.{◌≡◌, ◌+◌, ◌≤◌, length, drop, filter}
use Rattle.land_tables_validity.specs.Holdings.{is_entry, is_parcel_holding}
use Rattle.land_tables_validity.specs.LiveSpan.{span_values}
use Rattle.land_tables_validity.proofs.share_sums.are_few.Given as goal

-- the counts of the prefix plus those of the remainder are the whole counts; the prefix is within limits
abbrev pub invariant-loop-one : goal.invariant-loop-one
invariant-loop-one l =
    (l.parcels + length (filter is_parcel_holding (span_values (drop l.one-index l.there))) ≡ length (filter is_parcel_holding (span_values l.there)))
    × (l.entries + length (filter is_entry (span_values (drop l.one-index l.there))) ≡ length (filter is_entry (span_values l.there)))
    × (l.parcels ≤ 256)
    × (l.entries ≤ 256)
