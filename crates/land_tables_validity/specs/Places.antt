-- Keys of entries that must be unique in a unit.
use Rattle.std.specs.Prelude.{ℕ, Option, Some, None}
use Rattle.land_core.specs.declared.rrr.Class.{Class}
use Rattle.land_core.specs.declared.rrr.Class.TheVariants.{Right, Restriction, Responsibility, Mortgage}
use Rattle.land_core.specs.declared.rrr.RightType.{RightType}
use Rattle.land_core.specs.declared.rrr.RightType.TheVariants.{Ownership, Lease, Usufruct}
use Rattle.land_core.specs.declared.rrr.RrrRecord.{RrrRecord}
use Rattle.land_tables_validity.specs.declared.duplicate_rights.Place.{Place}

-- types of right as numbers
abbrev pub right_type_index : RightType → ℕ
right_type_index Ownership = 0
right_type_index Lease = 1
right_type_index Usufruct = 2

-- the key of a right is its type and its party, that of a mortgage its rank; other entries have none
abbrev pub place_in : (unit party : ℕ) → Class → Option Place
place_in unit party (Right type share) =
    Some (record { kind = right_type_index type; unit = unit; holder = party })
place_in unit party (Restriction words) = None
place_in unit party (Responsibility words) = None
place_in unit party (Mortgage amount currency rank) = Some (record { kind = 3; unit = unit; holder = rank })

-- the key of an entry
abbrev pub entry_place : RrrRecord → Option Place
entry_place e = place_in e.unit e.party e.class
