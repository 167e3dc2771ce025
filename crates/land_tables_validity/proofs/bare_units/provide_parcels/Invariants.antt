use Rattle.std.proofs.Common.{◌≡◌, ◌++◌, take, map as map_list}
use Rattle.land_tables_validity.specs.BareUnits.{parcel_unit}
use Rattle.land_tables_validity.specs.CoverageSpans.{provided_span}
use Rattle.land_tables_validity.proofs.bare_units.provide_parcels.Given as goal

abbrev pub invariant-loop-parcel : goal.invariant-loop-parcel
invariant-loop-parcel l = l.coverage_spans.items ≡ l.fn.coverage_spans.items ++ map_list (provided_span parcel_unit) (take l.parcel-index l.parcels)
