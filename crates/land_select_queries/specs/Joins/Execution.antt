-- The results of running the statements of selections.
use Rattle.std.specs.Prelude.{◌≡◌, ◌⊎◌, ◌↔◌, ℕ, ℤ, List, [], ◌∷◌, if◌then◌else◌}
use Rattle.std.specs.List.{Contains}
use Rattle.land_core.specs.Numbers.{is_number}
use Rattle.land_core.specs.declared.kind.Kind.{Kind}
use Rattle.land_select_queries.specs.Joins.Meaning.{AreNumberRows}
use Rattle.land_select_queries.specs.Sights.{AnySelects}
use Rattle.land_select_queries.specs.Sights.Selections.{all_selects, selects}
use Rattle.land_select_queries.specs.declared.sights.selection.Selection.{Selection}
use Rattle.land_tables_history.specs.declared.history.History.{History}
use Rattle.land_tables_history.specs.declared.moment.Moment.{Moment}
use Rattle.land_tables_rows.specs.Writing.History.{HoldsHistory}
use Rattle.land_tables_rows.specs.declared.listing.fault.ReadFault.{ReadFault}
use Rattle.land_tables_rows.specs.declared.listing.fault.ReadFault.TheVariants.{Unreadable}
use Rattle.sqlite_trees.specs.Tree.{Trees}
use Rattle.sqlite_value.specs.Order.{Row}

-- The number that a query uses for a caller: its own, or 0, which no object has, if it is out of range.
abbrev pub known_or_zero : (caller : ℕ) → ℕ
known_or_zero caller = if is_number caller then caller else 0

-- the list has exactly the wanted numbers, in any order
abbrev pub AreExactly : List ℕ → (ℕ → Type 0) → Type 0
AreExactly numbers Wanted = (n : ℕ) → Contains numbers n ↔ Wanted n

-- P holds of each history that the tables hold
abbrev pub HoldsOfHistory : Trees → (History → Type 0) → Type 0
HoldsOfHistory db P = (moments : List Moment) (history : History) → HoldsHistory db moments history
    → P history

-- the rows that a selection returns for a caller at a time
abbrev pub AreRowsOf : Selection → (t : ℤ) → (caller : ℕ) → Trees → List Row → Type 0
AreRowsOf s t caller db rows = HoldsOfHistory db (λ h. AreNumberRows rows (selects s t h caller))

-- the numbers that a selection returns for a caller at a time
abbrev pub AreNumbersOf : Selection → (t : ℤ) → (caller : ℕ) → Trees → List ℕ → Type 0
AreNumbersOf s t caller db numbers = HoldsOfHistory db (λ h. AreExactly numbers (selects s t h caller))

-- a selection returns all objects of a kind at a time
abbrev pub SelectsAll : Selection → Kind → (t : ℤ) → Trees → Type 0
SelectsAll s kind t db = HoldsOfHistory db
    (λ h. (caller number : ℕ) → selects s t h caller number ↔ all_selects kind t h number)

-- the numbers that at least one of these selections returns for a caller at a time
abbrev pub AreNumbersOfAny : List Selection → (t : ℤ) → (caller : ℕ) → Trees → List ℕ → Type 0
AreNumbersOfAny ss t caller db numbers =
    HoldsOfHistory db (λ h. AreExactly numbers (AnySelects ss t h caller))

-- at least one of these selections returns the number for at least one of the callers
abbrev pub AnySelectsFor : List Selection → (t : ℤ) → History → (callers : List ℕ) → (number : ℕ) → Type 0
AnySelectsFor ss t h [] number = ⊥
AnySelectsFor ss t h (caller ∷ callers) number = AnySelects ss t h caller number
    ⊎ AnySelectsFor ss t h callers number

-- the numbers that at least one of these selections returns at a time for at least one of the callers
abbrev pub AreNumbersForAny : List Selection → (t : ℤ) → (callers : List ℕ) → Trees → List ℕ → Type 0
AreNumbersForAny ss t callers db numbers = HoldsOfHistory db
    (λ h. AreExactly numbers (AnySelectsFor ss t h callers))

-- the fault `Unreadable` is returned only if the tables hold no history
abbrev pub HoldsNoHistory : Trees → ReadFault → Type 0
HoldsNoHistory db fault = fault ≡ Unreadable → HoldsOfHistory db (λ h. ⊥)
