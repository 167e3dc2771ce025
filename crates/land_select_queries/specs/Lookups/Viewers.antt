-- The viewers of a party: the callers that see it by one of its entries.
use Rattle.std.specs.List.{sum_by, count_by}
use Rattle.std.specs.Prelude.{ℕ, ℤ, ◌≤◌, ◌<◌, nat_eq, Bool, ◌&&◌, ◌||◌, not, List, length, Option, Some, None}
use Rattle.land_core.specs.Mutations.{is_undecided}
use Rattle.land_core.specs.Units.{is_right_of}
use Rattle.land_core.specs.declared.mutation.MutationRecord.{MutationRecord}
use Rattle.land_core.specs.declared.rrr.RightType.TheVariants.{Ownership}
use Rattle.land_rules.specs.Relations.{is_mortgage_class, is_right}
use Rattle.land_select_queries.specs.Joins.Meaning.{AreNumberRows}
use Rattle.land_select_queries.specs.Joins.Execution.{AreExactly, HoldsOfHistory, known_or_zero}
use Rattle.land_select_queries.specs.Sights.Selections.{Entry, selects}
use Rattle.land_select_queries.specs.declared.lookups.relation.Relation.{Relation}
use Rattle.land_select_queries.specs.declared.lookups.relation.Relation.TheVariants as relation
use Rattle.land_select_queries.specs.declared.sights.selection.Selection.{Selection}
use Rattle.land_select_queries.specs.declared.sights.selection.Selection.TheVariants.{HeldParties}
use Rattle.land_select_queries.specs.declared.sights.selection.Selection.TheVariants.{CreditParties}
use Rattle.land_select_queries.specs.declared.sights.selection.Selection.TheVariants.{LodgedParties}
use Rattle.land_tables_history.specs.Standing.{current_values}
use Rattle.land_tables_history.specs.declared.history.History.{History}
use Rattle.land_tables_history.specs.declared.naming.Naming.{Naming}
use Rattle.sqlite_trees.specs.Tree.{Trees}
use Rattle.sqlite_value.specs.Order.{Row}

-- the selection that shows parties to a caller with this relation to the units of their entries
abbrev pub parties_by : Relation → Selection
parties_by relation.Holding = HeldParties
parties_by relation.Crediting = CreditParties
parties_by relation.Awaiting = LodgedParties

-- a viewer of a party: a caller for which that selection returns the party
abbrev pub IsViewer : Relation → (t : ℤ) → History → (party seer : ℕ) → Type 0
IsViewer relation t h party seer = selects (parties_by relation) t h seer party

-- An entry is visible to the holder of a right in its unit; a mortgage only if that right is ownership.
abbrev pub is_shown_to_holder : (party : ℕ) → (seen held : Entry) → Bool
is_shown_to_holder party seen held =
    nat_eq held.1.unit seen.1.unit && (nat_eq seen.1.party party
    && (is_right held.1.class
    && (not (is_mortgage_class seen.1.class) || is_right_of Ownership held.1.class)))

-- An entry is visible to the creditor of a mortgage on its unit; a mortgage only if it is its own.
abbrev pub is_shown_to_creditor : (party : ℕ) → (seen held : Entry) → Bool
is_shown_to_creditor party seen held =
    nat_eq held.1.unit seen.1.unit && (nat_eq seen.1.party party
    && (is_mortgage_class held.1.class
    && (not (is_mortgage_class seen.1.class) || nat_eq seen.1.party held.1.party)))

-- An entry is visible to the lodger of a pending mutation that refers to its unit.
abbrev pub is_told_to_lodger : (party : ℕ) → (seen : Entry) → Naming → ℕ × MutationRecord → Bool
is_told_to_lodger party seen naming mutation =
    nat_eq naming.unit seen.1.unit && (nat_eq mutation.0 naming.mutation
    && (nat_eq seen.1.party party && is_undecided mutation.1))

-- The number of pairs of an entry of the party and a right, a mortgage or a pending mutation that makes this
-- entry visible: an upper bound of the number of viewers.
abbrev pub count_ways : Relation → (t : ℤ) → History → (party : ℕ) → ℕ
count_ways relation.Holding t h party = sum_by
    (λ seen. count_by (is_shown_to_holder party seen) (current_values t h.rrrs))
    (current_values t h.rrrs)
count_ways relation.Crediting t h party =
    sum_by (λ seen. count_by (is_shown_to_creditor party seen) (current_values t h.rrrs))
    (current_values t h.rrrs)
count_ways relation.Awaiting t h party =
    sum_by (λ seen. sum_by (λ naming. count_by (is_told_to_lodger party seen naming)
    (current_values t h.mutations)) (current_values t h.namings)) (current_values t h.rrrs)

-- These rows are the viewers, if they are at most sixteen; if there are more rows, there are more than
-- sixteen pairs.
pub record AreViewerRows (relation : Relation) (party : ℕ) (t : ℤ) (db : Trees)
    (rows : List Row) : Type 0 where
  pub few : length rows ≤ 16 → HoldsOfHistory db (λ h. AreNumberRows rows (IsViewer relation t h party))
  pub many : 16 < length rows → HoldsOfHistory db (λ h. 16 < count_ways relation t h (known_or_zero party))

-- These are the numbers of the viewers; `None` only if there are more than sixteen pairs.
abbrev pub AreViewers : Relation → (party : ℕ) → (t : ℤ) → Trees → Option (List ℕ) → Type 0
AreViewers relation party t db (Some viewers_of_party) = HoldsOfHistory db
    (λ h. AreExactly viewers_of_party (IsViewer relation t h party))
AreViewers relation party t db None = HoldsOfHistory db
    (λ h. 16 < count_ways relation t h (known_or_zero party))
