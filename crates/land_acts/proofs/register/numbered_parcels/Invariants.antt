use Rattle.std.proofs.Common.{◌≡◌, ◌+◌, ◌≤◌, ◌++◌, length, drop}
use Rattle.std.specs.Prelude.{map as map_list}
use Rattle.land_acts.specs.Mutations.Numbering.{with_numbers_from}
use Rattle.land_acts.specs.Registering.{new_parcel_record}
use Rattle.land_acts.proofs.register.numbered_parcels.Given as goal
use Rattle.land_core.specs.Numbers.{last_next}

-- the parcels so far, followed by the remaining ones under the next numbers
abbrev pub invariant-loop-parcel : goal.invariant-loop-parcel
invariant-loop-parcel l =
    (l.placed ++ with_numbers_from l.number (map_list (new_parcel_record l.unit l.source) (drop l.parcel-index l.parcels)) ≡ with_numbers_from l.first (map_list (new_parcel_record l.unit l.source) l.parcels))
    × (l.number + length (drop l.parcel-index l.parcels) ≤ last_next)
