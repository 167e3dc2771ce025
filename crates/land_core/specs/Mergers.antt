-- Mergers: parcels of a unit and of other units, which end, become one parcel.
use Rattle.std.specs.Prelude.{ℕ, Bool, true, not, ◌&&◌, nat_eq, nat_le, nat_lt, List, [], ◌∷◌, length}
use Rattle.std.specs.Cmp.Lexicographic.{pointwise}
use Rattle.std.specs.List.{list_all, list_any}
use Rattle.std.specs.Str.{bytes_eq}
use Rattle.land_core.specs.Numbers.{is_number}
use Rattle.land_core.specs.Texts.{is_label}
use Rattle.land_core.specs.declared.merger.Merger.{Merger}
use Rattle.land_shape.specs.Place.{is_same_ring}

-- ---- limits

-- the numbers are strictly ascending and the first is above `last`
abbrev pub all_above : (last : ℕ) → List ℕ → Bool
all_above last [] = true
all_above last (n ∷ ns) = nat_lt last n && all_above n ns

-- valid numbers of objects, strictly ascending
abbrev pub are_ascending_numbers : List ℕ → Bool
are_ascending_numbers numbers = all_above 0 numbers && list_all is_number numbers

abbrev pub lists_number : List ℕ → (number : ℕ) → Bool
lists_number numbers n = list_any (λ it. nat_eq it n) numbers

-- there are at most 15 other units, strictly ascending, without the unit itself
abbrev pub are_other_units : (unit : ℕ) → (others : List ℕ) → Bool
are_other_units unit others = nat_le (length others) 15 && are_ascending_numbers others
    && not (lists_number others unit)

-- 2 to 16 parcels are merged
abbrev pub are_merged_parcels : (parcels : List ℕ) → Bool
are_merged_parcels parcels = nat_le 2 (length parcels) && nat_le (length parcels) 16
    && are_ascending_numbers parcels

-- a merger has valid numbers of a unit, other units and parcels, and a valid label
abbrev pub is_merger : Merger → Bool
is_merger it = is_number it.unit && are_other_units it.unit it.others && are_merged_parcels it.parcels
    && is_label it.label

-- ---- which mergers are the same

abbrev pub are_same_numbers : List ℕ → List ℕ → Bool
are_same_numbers numbers others = pointwise nat_eq numbers others

abbrev pub is_same_merger : Merger → Merger → Bool
is_same_merger it other =
    nat_eq it.unit other.unit && are_same_numbers it.others other.others
    && are_same_numbers it.parcels other.parcels && bytes_eq it.label other.label
    && is_same_ring it.outline other.outline
