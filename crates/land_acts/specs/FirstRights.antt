-- The checks of the rights with which a unit is registered.
use Rattle.std.specs.Prelude.{ℕ, Bool, not, ◌&&◌, ◌||◌, List, Option, Some, None, nat_eq, if◌then◌else◌}
use Rattle.std.specs.List.{list_any, filter_map}
use Rattle.land_acts.specs.Sharing.{is_too_fine}
use Rattle.land_core.specs.Entries.{has, are_distinct}
use Rattle.land_core.specs.Units.{is_type, are_whole_or_none}
use Rattle.land_core.specs.declared.act.NewRight.{NewRight}
use Rattle.land_core.specs.declared.register.Register.{Register}
use Rattle.land_core.specs.declared.rrr.RightType.{RightType}
use Rattle.land_core.specs.declared.rrr.RightType.TheVariants.{Ownership, Lease, Usufruct}
use Rattle.land_fraction.specs.Ratio.{Ratio}
use Rattle.land_fraction.specs.Wholeness.{wholeness}

-- whether one of the rights is of this party
abbrev pub rights_list_party : List NewRight → ℕ → Bool
rights_list_party rights n = list_any (λ right. nat_eq n right.party) rights

-- whether one of the rights is of a party that does not exist
abbrev pub lists_absent_party : Register → List NewRight → Bool
lists_absent_party r rights = list_any (λ right. not (has r.parties right.party)) rights

-- the share of a right if it has this type
abbrev pub share_listed : RightType → NewRight → Option Ratio
share_listed type right = if is_type right.right_type type then Some right.share else None

-- the shares of the rights of a type, in their order
abbrev pub listed_of_type : RightType → List NewRight → List Ratio
listed_of_type type rights = filter_map (share_listed type) rights

-- whether the shares of some type are too fine
abbrev pub are_types_too_fine : List NewRight → Bool
are_types_too_fine rights =
    is_too_fine (wholeness (listed_of_type Ownership rights))
    || is_too_fine (wholeness (listed_of_type Lease rights))
    || is_too_fine (wholeness (listed_of_type Usufruct rights))

-- whether the shares of each type that occurs sum to one
abbrev pub are_types_whole : List NewRight → Bool
are_types_whole rights =
    are_whole_or_none (listed_of_type Ownership rights)
    && are_whole_or_none (listed_of_type Lease rights)
    && are_whole_or_none (listed_of_type Usufruct rights)

-- whether two rights have the same party and the same type
abbrev pub is_same_right : NewRight → NewRight → Bool
is_same_right right other = nat_eq right.party other.party && is_type right.right_type other.right_type

-- whether a party has two rights of one type
abbrev pub has_right_twice : List NewRight → Bool
has_right_twice rights = not (are_distinct is_same_right rights)
