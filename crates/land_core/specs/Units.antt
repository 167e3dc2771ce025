-- Units (LA_BAUnit) with their parcels and their entries.
use Rattle.std.specs.Prelude.{ℕ, Bool, true, false, ◌&&◌, ◌||◌, nat_eq, List, [], ◌∷◌, Option, Some, None}
use Rattle.std.specs.Prelude.{if◌then◌else◌}
use Rattle.std.specs.List.{filter_map}
use Rattle.std.specs.FinMap as map
use Rattle.land_core.specs.Entries.{some, count_where}
use Rattle.land_core.specs.Members.{is_yes}
use Rattle.land_core.specs.declared.register.Register.{Register}
use Rattle.land_core.specs.declared.rrr.Class.{Class}
use Rattle.land_core.specs.declared.rrr.Class.TheVariants.{Right, Restriction, Responsibility, Mortgage}
use Rattle.land_core.specs.declared.rrr.RightType.{RightType}
use Rattle.land_core.specs.declared.rrr.RightType.TheVariants.{Ownership, Lease, Usufruct}
use Rattle.land_core.specs.declared.rrr.RrrRecord.{RrrRecord}
use Rattle.land_fraction.specs.Ratio.{Ratio}
use Rattle.land_fraction.specs.Wholeness.{wholeness}

-- the types of rights, in their order (LA_RightType)
abbrev pub all_types : List RightType
all_types = Ownership ∷ Lease ∷ Usufruct ∷ []

-- whether two types of right are equal
abbrev pub is_type : RightType → RightType → Bool
is_type Ownership Ownership = true
is_type Ownership Lease = false
is_type Ownership Usufruct = false
is_type Lease Ownership = false
is_type Lease Lease = true
is_type Lease Usufruct = false
is_type Usufruct Ownership = false
is_type Usufruct Lease = false
is_type Usufruct Usufruct = true

-- the type of an entry that is a right
abbrev pub type_of : Class → Option RightType
type_of (Right type share) = Some type
type_of (Restriction words) = None
type_of (Responsibility words) = None
type_of (Mortgage amount currency rank) = None

-- the rank of an entry that is a mortgage
abbrev pub rank_of : Class → Option ℕ
rank_of (Right type share) = None
rank_of (Restriction words) = None
rank_of (Responsibility words) = None
rank_of (Mortgage amount currency rank) = Some rank

-- the share of an entry that is a right of a type
abbrev pub share_of : RightType → Class → Option Ratio
share_of type (Right other share) = if is_type other type then Some share else None
share_of type (Restriction words) = None
share_of type (Responsibility words) = None
share_of type (Mortgage amount currency rank) = None

-- whether an entry is a right of a type
abbrev pub is_right_of : RightType → Class → Bool
is_right_of type (Right other share) = is_type other type
is_right_of type (Restriction words) = false
is_right_of type (Responsibility words) = false
is_right_of type (Mortgage amount currency rank) = false

-- whether an entry is a right of a type in a unit
abbrev pub is_right_in : (unit : ℕ) → RightType → RrrRecord → Bool
is_right_in unit type e = nat_eq e.unit unit && is_right_of type e.class

-- the share of an entry that is a right of a type in a unit
abbrev pub share_in_unit : (unit : ℕ) → RightType → RrrRecord → Option Ratio
share_in_unit unit type e = if nat_eq e.unit unit then share_of type e.class else None

-- the shares of the rights of a type in a unit, by ascending numbers of the rights
abbrev pub type_shares : Register → (unit : ℕ) → RightType → List Ratio
type_shares r unit type = filter_map (λ e. share_in_unit unit type e.1) (map.entries r.rrrs)

-- the shares sum to 1, or there are none
abbrev pub are_whole_or_none : List Ratio → Bool
are_whole_or_none [] = true
are_whole_or_none (share ∷ shares) = is_yes (wholeness (share ∷ shares))

-- whether the shares of each type of right that occurs in a unit sum to 1
abbrev pub has_whole_shares : Register → (unit : ℕ) → Bool
has_whole_shares r unit =
    are_whole_or_none (type_shares r unit Ownership)
    && are_whole_or_none (type_shares r unit Lease)
    && are_whole_or_none (type_shares r unit Usufruct)

-- whether a unit has a parcel
abbrev pub has_parcel : Register → (unit : ℕ) → Bool
has_parcel r unit = some (λ n p. nat_eq p.unit unit) r.parcels

abbrev pub has_owner : Register → (unit : ℕ) → Bool
has_owner r unit = some (λ n e. is_right_in unit Ownership e) r.rrrs

-- the number of parcels of a unit
abbrev pub parcel_count : Register → (unit : ℕ) → ℕ
parcel_count r unit = count_where (λ n p. nat_eq p.unit unit) r.parcels

abbrev pub rrr_count : Register → (unit : ℕ) → ℕ
rrr_count r unit = count_where (λ n e. nat_eq e.unit unit) r.rrrs

-- whether two entries are rights of the same type
abbrev pub are_of_one_type : Option RightType → Option RightType → Bool
are_of_one_type (Some type) (Some other) = is_type type other
are_of_one_type (Some type) None = false
are_of_one_type None other = false

-- whether two entries are mortgages of the same rank
abbrev pub are_of_one_rank : Option ℕ → Option ℕ → Bool
are_of_one_rank (Some rank) (Some other) = nat_eq rank other
are_of_one_rank (Some rank) None = false
are_of_one_rank None other = false

-- whether two entries of a unit clash: two rights of the same type and party, or two mortgages of the same
-- rank
abbrev pub do_clash : RrrRecord → RrrRecord → Bool
do_clash e f =
    nat_eq e.unit f.unit
    && (nat_eq e.party f.party && are_of_one_type (type_of e.class) (type_of f.class)
    || are_of_one_rank (rank_of e.class) (rank_of f.class))
