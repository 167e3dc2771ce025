-- The total area of outlines.
use Rattle.std.specs.Prelude.{ℕ, ◌+◌, List, [], ◌∷◌, Some, None}
use Rattle.std.specs.List.{filter_map}
use Rattle.std.specs.Option.{option_map_or}
use Rattle.std.specs.FinMap as map
use Rattle.land_core.specs.declared.register.Register.{Register}
use Rattle.land_shape.specs.Outline.{doubled_area}
use Rattle.land_shape.specs.Place.{Place}

-- twice the total area of outlines, in square millimetres
abbrev pub doubled_areas : List (List Place) → ℕ
doubled_areas [] = 0
doubled_areas (ring ∷ rings) = doubled_area ring + doubled_areas rings

-- the outlines of the parcels that exist at these numbers
abbrev pub outlines_at : Register → (numbers : List ℕ) → List (List Place)
outlines_at r numbers =
    filter_map (λ n. option_map_or (λ p. Some p.outline) (map.get r.parcels n) None) numbers
