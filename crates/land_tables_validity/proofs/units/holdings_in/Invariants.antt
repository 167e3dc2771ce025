use Rattle.std.proofs.Common.{◌≡◌, ◌++◌, take}
use Rattle.land_tables_validity.specs.Holdings.{entry_spans, parcel_spans, unit_spans}
use Rattle.land_tables_validity.proofs.units.holdings_in.Given as goal

abbrev pub invariant-loop-unit : goal.invariant-loop-unit
invariant-loop-unit l = l.live_spans.items ≡ unit_spans (take l.unit-index l.units)

abbrev pub invariant-loop-parcel : goal.invariant-loop-parcel
invariant-loop-parcel l = l.live_spans.items ≡ unit_spans l.units ++ parcel_spans (take l.parcel-index l.parcels)

abbrev pub invariant-loop-entry : goal.invariant-loop-entry
invariant-loop-entry l = l.live_spans.items ≡ (unit_spans l.units ++ parcel_spans l.parcels) ++ entry_spans (take l.entry-index l.entries)
