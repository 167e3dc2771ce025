use Rattle.std.proofs.Common.{◌≡◌, ◌≤◌, ◌+◌, ◌*◌, drop}
use Rattle.land_sheet.specs.Areas.{doubled_parcel_areas}
use Rattle.land_sheet.proofs.areas.doubled_areas.Given as goal

-- the sum so far, and the areas that follow; each is at most 10^18
abbrev pub invariant-loop-parcel : goal.invariant-loop-parcel
invariant-loop-parcel l =
    (l.area + doubled_parcel_areas (drop l.parcel-index l.parcels) ≡ doubled_parcel_areas l.parcels)
    × (l.area ≤ l.parcel-index * 1000000000000000000)
