-- Subdivisions: a parcel of a unit is divided into parts. The first part stays in the unit; each other part
-- stays too, or becomes the parcel of a new unit.
use Rattle.std.specs.Prelude.{ℕ, Bool, true, false, ◌&&◌, nat_eq, nat_le, List, length, Option, Some, None}
use Rattle.std.specs.Cmp.Lexicographic.{pointwise}
use Rattle.std.specs.List.{list_all}
use Rattle.std.specs.Str.{bytes_eq}
use Rattle.land_core.specs.Numbers.{is_number}
use Rattle.land_core.specs.Texts.{is_label, is_name}
use Rattle.land_core.specs.declared.act.NewParcel.{NewParcel}
use Rattle.land_core.specs.declared.subdivision.Part.{Part}
use Rattle.land_core.specs.declared.subdivision.Subdivision.{Subdivision}
use Rattle.land_shape.specs.Place.{is_same_ring}

-- ---- limits

-- the name of a new unit, if any, is valid
abbrev pub is_new_name : Option (List ℕ) → Bool
is_new_name None = true
is_new_name (Some name) = is_name name

abbrev pub is_part : Part → Bool
is_part part = is_label part.label && is_new_name part.unit

-- there are 1 to 15 further parts
abbrev pub is_further_part_count : ℕ → Bool
is_further_part_count count = nat_le 1 count && nat_le count 15

abbrev pub have_names : List Part → Bool
have_names parts = list_all is_part parts

abbrev pub are_further_parts : List Part → Bool
are_further_parts parts = is_further_part_count (length parts) && have_names parts

-- a subdivision has valid numbers of a unit and a parcel, and valid parts
abbrev pub is_subdivision : Subdivision → Bool
is_subdivision it = is_number it.unit && is_number it.parcel && is_label it.first.label
    && are_further_parts it.rest

-- ---- which subdivisions are the same

-- equal outlines have the same points in the same order, from the same first point
abbrev pub is_same_parcel : NewParcel → NewParcel → Bool
is_same_parcel it other = bytes_eq it.label other.label && is_same_ring it.outline other.outline

abbrev pub is_same_name : Option (List ℕ) → Option (List ℕ) → Bool
is_same_name None None = true
is_same_name None (Some other) = false
is_same_name (Some name) None = false
is_same_name (Some name) (Some other) = bytes_eq name other

abbrev pub is_same_part : Part → Part → Bool
is_same_part it other = bytes_eq it.label other.label && is_same_ring it.outline other.outline
    && is_same_name it.unit other.unit

abbrev pub are_same_parts : List Part → List Part → Bool
are_same_parts parts others = pointwise is_same_part parts others

abbrev pub is_same_subdivision : Subdivision → Subdivision → Bool
is_same_subdivision it other =
    nat_eq it.unit other.unit && nat_eq it.parcel other.parcel && is_same_parcel it.first other.first
    && are_same_parts it.rest other.rest
