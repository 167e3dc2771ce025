-- Areas in square metres.
use Rattle.std.specs.Prelude.{ℕ, ◌+◌, ◌*◌, ◌/◌, ◌%◌, ◌++◌, List, [], ◌∷◌, codes, decimal}
use Rattle.land_core.specs.declared.parcel.Parcel.{Parcel}
use Rattle.land_shape.specs.Outline.{doubled_area}
use Rattle.land_sheet.specs.Widths.{zeros}

-- twice the total area of parcels, in square millimetres
abbrev pub doubled_parcel_areas : List Parcel → ℕ
doubled_parcel_areas [] = 0
doubled_parcel_areas (parcel ∷ parcels) = doubled_area parcel.outline + doubled_parcel_areas parcels

-- an area in square metres, from twice the area in square millimetres: five times that number counts units of
-- 10^-7 square metres; the result is the integral part, a point, and seven digits
unfoldable pub square_metres : (doubled : ℕ) → List ℕ
square_metres doubled = decimal (5 * doubled / 10000000) ++ (codes "." ++ zeros 7 (5 * doubled % 10000000))
