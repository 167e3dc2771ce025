-- The numbers that a lookup of one column returns.
use Rattle.std.specs.Prelude.{◌≡◌, ℕ, ℤ, List}
use Rattle.land_core.specs.declared.mutation.MutationRecord.{MutationRecord}
use Rattle.land_select_queries.specs.Joins.Meaning.{AreNumberRows}
use Rattle.land_select_queries.specs.Joins.Execution.{AreExactly, HoldsOfHistory}
use Rattle.land_select_queries.specs.Sights.Selections.{LodgedPending, IsCurrent}
use Rattle.land_select_queries.specs.declared.lookups.column_lookup.ColumnLookup.{ColumnLookup}
use Rattle.land_select_queries.specs.declared.lookups.column_lookup.ColumnLookup.TheVariants as record_lookup
use Rattle.land_tables_history.specs.declared.history.History.{History}
use Rattle.land_tables_history.specs.declared.version.Version.{Version}
use Rattle.sqlite_trees.specs.Tree.{Trees}
use Rattle.sqlite_value.specs.Order.{Row}

-- the number is the given one, and a current record has it
abbrev pub IsOwnNumber : {V : Type 0} → ℤ → List (Version (ℕ × V)) → (given number : ℕ) → Type 0
IsOwnNumber {V = V} t versions given number =
    (it : ℕ × V) × IsCurrent t versions it × (it.0 ≡ given) × (it.0 ≡ number)

-- whether a lookup returns a number for the given one
abbrev pub yields : ColumnLookup → (t : ℤ) → History → (given : ℕ) → (number : ℕ) → Type 0
yields record_lookup.Party t h given number = IsOwnNumber t h.parties given number
yields record_lookup.Unit t h given number = IsOwnNumber t h.units given number
yields record_lookup.LodgerOfMutation t h given number =
    (it : ℕ × MutationRecord) × IsCurrent t h.mutations it × (it.0 ≡ given) × (it.1.lodger ≡ number)
yields record_lookup.LodgersOnUnit t h given number = LodgedPending t h number given

-- the rows that a lookup returns for a number at a time
abbrev pub AreColumnRows : ColumnLookup → (given : ℕ) → (t : ℤ) → Trees → List Row → Type 0
AreColumnRows l given t db rows = HoldsOfHistory db (λ h. AreNumberRows rows (yields l t h given))

-- the numbers that a lookup returns for a number at a time
abbrev pub AreColumnNumbers : ColumnLookup → (given : ℕ) → (t : ℤ) → Trees → List ℕ → Type 0
AreColumnNumbers l given t db numbers = HoldsOfHistory db (λ h. AreExactly numbers (yields l t h given))
