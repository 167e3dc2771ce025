use Rattle.std.proofs.Common.{◌≡◌, ◌++◌}
use Rattle.std.specs.FinMap as map
use Rattle.std.specs.Prelude.{map as map_list}
use Rattle.land_keep.specs.Sheets.{numbered_parcel}
use Rattle.land_select.proofs.view.shown_parcels.Given as goal

-- the parcels at this point, followed by the remaining ones
abbrev pub invariant-loop-number : goal.invariant-loop-number
invariant-loop-number l = l.parcels ++ map_list (λ e. numbered_parcel e.0 e.1) l.number-iterator ≡ map_list (λ e. numbered_parcel e.0 e.1) (map.entries l.found)
