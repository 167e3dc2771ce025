-- Records that are looked up by number.
use Rattle.std.specs.FinMap.{FinMap}
use Rattle.std.specs.Ordering.{nat_cmp}
use Rattle.std.specs.Prelude.{ℕ, ℤ, nat_eq, List, map, IsPermutation, Result, Ok}
use Rattle.land_core.specs.declared.kind.Kind.{Kind}
use Rattle.land_core.specs.declared.register.Register.{Register}
use Rattle.land_select_queries.specs.Joins.Execution.{HoldsOfHistory}
use Rattle.land_select_queries.specs.Lookups.RecordRows.{AreRowsOf, matching_versions}
use Rattle.land_select_queries.specs.Lookups.Ranges.{AreRowsWithin, is_within}
use Rattle.land_select_queries.specs.declared.lookups.record_lookup.RecordLookup.{RecordLookup}
use Rattle.land_tables_history.specs.History.{IsRegisterAt}
use Rattle.land_tables_history.specs.Standing.{IsPartAt}
use Rattle.land_tables_history.specs.declared.history.History.{History}
use Rattle.land_tables_history.specs.declared.version.Version.{Version}
use Rattle.land_wire_json.specs.declared.bodies.wire_fault.WireFault.{WireFault}
use Rattle.sqlite_trees.specs.Tree.{Trees}
use Rattle.sqlite_value.specs.Order.{Row}

-- In a history that the tables hold, there are versions that represent a part of the register, and the lookup
-- by number returns those with that number.
pub record KeepsNumbered {V : Type 0} (said : Row → Result (Version (ℕ × V)) WireFault) (l : RecordLookup)
    (part : Register → FinMap nat_cmp V) (db : Trees) (history : History) : Type 0 where
  pub versions : List (Version (ℕ × V))
  pub stand : (t : ℤ) (r : Register) → IsRegisterAt t history r → IsPartAt t versions (part r)
  pub found : (number : ℕ) (t : ℤ) (rows : List Row) → AreRowsOf l number t db rows
      → IsPermutation (map said rows)
      (map (λ v. Ok v) (matching_versions (λ e. nat_eq e.0 number) t versions))

-- A lookup by number returns what represents a part of the register, in each history that the tables hold.
abbrev pub IsFoundBy : {V : Type 0} → (Row → Result (Version (ℕ × V)) WireFault) → RecordLookup
    → (Register → FinMap nat_cmp V) → Type 0
IsFoundBy said l part = (db : Trees) → HoldsOfHistory db (KeepsNumbered said l part db)

-- The same versions, of which the statement of their kind returns those in a range of numbers.
pub record KeepsRanges {V : Type 0} (said : Row → Result (Version (ℕ × V)) WireFault) (k : Kind)
    (part : Register → FinMap nat_cmp V) (db : Trees) (history : History) : Type 0 where
  pub versions : List (Version (ℕ × V))
  pub stand : (t : ℤ) (r : Register) → IsRegisterAt t history r → IsPartAt t versions (part r)
  pub found : (first last : ℕ) (t : ℤ) (rows : List Row) → AreRowsWithin k first last t db rows
      → IsPermutation (map said rows)
      (map (λ v. Ok v) (matching_versions (λ e. is_within first last e.0) t versions))

-- The statement of a kind returns the records in a range of numbers, in each history that the tables hold.
abbrev pub IsFoundWithin : {V : Type 0} → (Row → Result (Version (ℕ × V)) WireFault) → Kind
    → (Register → FinMap nat_cmp V) → Type 0
IsFoundWithin said k part = (db : Trees) → HoldsOfHistory db (KeepsRanges said k part db)
