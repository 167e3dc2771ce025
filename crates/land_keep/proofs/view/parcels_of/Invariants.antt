use Rattle.std.proofs.Common.{◌≡◌, ◌++◌}
use Rattle.std.specs.Prelude.{filter, nat_eq, map as map_list}
use Rattle.land_keep.specs.Sheets.{parcels_at, numbered_parcel}
use Rattle.land_keep.proofs.view.parcels_of.Given as goal

-- the parcels collected, followed by the remaining ones, are the result
abbrev pub invariant-loop-number : goal.invariant-loop-number
invariant-loop-number l =
    l.parcels ++ map_list (λ e. numbered_parcel e.0 e.1) (filter (λ e. nat_eq e.1.unit l.unit) l.number-iterator) ≡ parcels_at l.register l.unit
