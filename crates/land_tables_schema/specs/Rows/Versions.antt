-- Versions of records, each with a lifespan (LADM: VersionedObject).
use Rattle.std.specs.Prelude.{ℕ, suc, ℤ, pos, Bool, ◌&&◌, [], ◌∷◌, ◌++◌, if◌then◌else◌}
use Rattle.std.specs.Ordering.{int_eq}
use Rattle.land_tables_schema.specs.Rows.Forms.{Form}
use Rattle.sqlite_schema.specs.declared.schema.Table.{Table}
use Rattle.sqlite_value.specs.Order.{Row}
use Rattle.sqlite_value.specs.declared.value.Value.{Value}
use Rattle.sqlite_value.specs.declared.value.Value.TheVariants.{Int}

-- a value that is current from `since`, up to but not including `until`, both in Unix milliseconds
pub record Version (C : Type 0) : Type 0 where
  pub what : C
  pub since : ℤ
  pub until : ℤ

-- the `until` of a current version: the first millisecond of the year 2100, after all moments
abbrev pub never : ℤ
never = pos 4102444800000

-- a new version, which is current from this moment
abbrev pub opened_version : {C : Type 0} → C → ℤ → Version C
opened_version c since = record { what = c; since = since; until = never }

-- ends a version at `stamp` if it is current and meant; leaves other versions unchanged
abbrev pub closed_version : {C : Type 0} → (C → Bool) → ℤ → Version C → Version C
closed_version meant stamp v = if meant v.what && int_eq v.until never then record v { until = stamp } else v

-- a number as a cell
abbrev pub whole : ℕ → Value
whole n = Int (pos n)

-- a truth value as a cell: 1 or 0
abbrev pub flag : Bool → Value
flag b = Int (if b then pos 1 else pos 0)

-- how versions are stored in the rows of a versioned table: the cells of the value, then the two ends of the
-- lifespan
abbrev pub versions_in : {C : Type 0} → Table → (count : ℕ) → (C → Row) → Form (Version C)
versions_in table count cells =
    record {
      table = table;
      width = suc (suc count);
      cells = λ v. cells v.what ++ Int v.since ∷ Int v.until
          ∷ [];
    }
