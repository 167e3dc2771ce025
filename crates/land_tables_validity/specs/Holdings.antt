-- The values that are current together in a unit: the unit itself, its parcels and its entries.
use Rattle.std.specs.Prelude.{ℕ, Bool, true, false, not, ◌&&◌, ◌||◌, nat_lt, List, ◌++◌, length, filter}
use Rattle.std.specs.Prelude.{Option, Some, None}
use Rattle.std.specs.List.{filter_map}
use Rattle.land_core.specs.Units.{are_whole_or_none}
use Rattle.land_core.specs.declared.parcel.ParcelRecord.{ParcelRecord}
use Rattle.land_core.specs.declared.rrr.Class.{Class}
use Rattle.land_core.specs.declared.rrr.Class.TheVariants as class
use Rattle.land_core.specs.declared.rrr.RightType.{RightType}
use Rattle.land_core.specs.declared.rrr.RightType.TheVariants.{Ownership, Lease, Usufruct}
use Rattle.land_core.specs.declared.rrr.RrrRecord.{RrrRecord}
use Rattle.land_core.specs.declared.unit.UnitRecord.{UnitRecord}
use Rattle.land_fraction.specs.Ratio.{Ratio}
use Rattle.land_tables_history.specs.declared.history.History.{History}
use Rattle.land_tables_history.specs.declared.version.Version.{Version}
use Rattle.land_tables_validity.specs.LiveSpan.{live_spans_of, if_any_marked}
use Rattle.land_tables_validity.specs.declared.share_sums.Holding.{Holding}
use Rattle.land_tables_validity.specs.declared.share_sums.Holding.TheVariants as held
use Rattle.land_tables_history.specs.declared.sweeps.sweep.LiveSpan.{LiveSpan}

-- ---- values of a unit

-- a unit, with its flag `checked`
abbrev pub unit_holding : ℕ × UnitRecord → Holding
unit_holding e = held.Unit e.1.checked

-- a parcel
abbrev pub parcel_holding : ℕ × ParcelRecord → Holding
parcel_holding e = held.Parcel

-- a right with its share, by its type
abbrev pub right_holding : RightType → Ratio → Holding
right_holding Ownership share = held.Ownership share
right_holding Lease share = held.Lease share
right_holding Usufruct share = held.Usufruct share

-- a right, or another entry
abbrev pub class_holding : Class → Holding
class_holding (class.Right type share) = right_holding type share
class_holding (class.Restriction words) = held.Other
class_holding (class.Responsibility words) = held.Other
class_holding (class.Mortgage amount currency rank) = held.Other

-- an entry, by its class
abbrev pub entry_holding : ℕ × RrrRecord → Holding
entry_holding e = class_holding e.1.class

-- units, parcels and entries, each under its unit during its lifespan
abbrev pub unit_spans : List (Version (ℕ × UnitRecord)) → List (LiveSpan Holding)
unit_spans vs = live_spans_of (λ e. e.0) unit_holding vs

abbrev pub parcel_spans : List (Version (ℕ × ParcelRecord)) → List (LiveSpan Holding)
parcel_spans vs = live_spans_of (λ e. e.1.unit) parcel_holding vs

abbrev pub entry_spans : List (Version (ℕ × RrrRecord)) → List (LiveSpan Holding)
entry_spans vs = live_spans_of (λ e. e.1.unit) entry_holding vs

-- all values of units, over time
abbrev pub holdings_in : History → List (LiveSpan Holding)
holdings_in h = (unit_spans h.units ++ parcel_spans h.parcels) ++ entry_spans h.rrrs

-- ---- the kinds of values

-- the unit itself
abbrev pub is_unit_holding : Holding → Bool
is_unit_holding (held.Unit checked) = true
is_unit_holding held.Parcel = false
is_unit_holding (held.Ownership share) = false
is_unit_holding (held.Lease share) = false
is_unit_holding (held.Usufruct share) = false
is_unit_holding held.Other = false

-- the unit itself, if it is checked
abbrev pub is_checked_unit : Holding → Bool
is_checked_unit (held.Unit checked) = checked
is_checked_unit held.Parcel = false
is_checked_unit (held.Ownership share) = false
is_checked_unit (held.Lease share) = false
is_checked_unit (held.Usufruct share) = false
is_checked_unit held.Other = false

-- a parcel of the unit
abbrev pub is_parcel_holding : Holding → Bool
is_parcel_holding (held.Unit checked) = false
is_parcel_holding held.Parcel = true
is_parcel_holding (held.Ownership share) = false
is_parcel_holding (held.Lease share) = false
is_parcel_holding (held.Usufruct share) = false
is_parcel_holding held.Other = false

-- an entry of the unit: a right or another one
abbrev pub is_entry : Holding → Bool
is_entry (held.Unit checked) = false
is_entry held.Parcel = false
is_entry (held.Ownership share) = true
is_entry (held.Lease share) = true
is_entry (held.Usufruct share) = true
is_entry held.Other = true

-- the share of a right of this type
abbrev pub holding_share : RightType → Holding → Option Ratio
holding_share Ownership (held.Ownership share) = Some share
holding_share Lease (held.Lease share) = Some share
holding_share Usufruct (held.Usufruct share) = Some share
holding_share type holding = None

-- ---- conditions on all values together

-- the shares of the rights of this type
abbrev pub holding_shares : RightType → List Holding → List Ratio
holding_shares type xs = filter_map (holding_share type) xs

-- the shares of each type of right that occurs sum to one
abbrev pub are_shares_whole : List Holding → Bool
are_shares_whole xs =
    are_whole_or_none (holding_shares Ownership xs)
    && are_whole_or_none (holding_shares Lease xs)
    && are_whole_or_none (holding_shares Usufruct xs)

-- at most 256 parcels, and at most 256 entries
abbrev pub are_few : List Holding → Bool
are_few xs =
    not (nat_lt 256 (length (filter is_parcel_holding xs)) || nat_lt 256 (length (filter is_entry xs)))

-- in a checked unit the shares sum to one, and each unit is within limits
abbrev pub is_unit_sound : List Holding → Bool
is_unit_sound xs =
    if_any_marked is_unit_holding are_few xs && if_any_marked is_checked_unit are_shares_whole xs
