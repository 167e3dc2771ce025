-- Mutations with the units that they refer to.
use Rattle.std.specs.Prelude.{◌≡◌, ℕ, true, List, [], ◌∷◌, map as map_list}
use Rattle.std.specs.List.{All}
use Rattle.land_core.specs.declared.mutation.MutationRecord.{MutationRecord}
use Rattle.land_tables_history.specs.History.{named_units, namings_of, register_of_history}
use Rattle.land_tables_history.specs.ValidHistory.{are_same_namings}
use Rattle.land_tables_history.specs.Standing.{current_values}
use Rattle.land_tables_history.specs.declared.history.History.{History}
use Rattle.land_tables_history.specs.declared.moment.Moment.{Moment}
use Rattle.land_tables_history.specs.declared.naming.Naming.{Naming}

-- a mutation with each of these units
abbrev pub with_units : (mutation : ℕ) → (units : List ℕ) → List (ℕ × ℕ)
with_units mutation units = map_list (λ unit. (mutation, unit)) units

-- a mutation with each unit that its content refers to
abbrev pub named_pairs : ℕ × MutationRecord → List (ℕ × ℕ)
named_pairs m = with_units m.0 (named_units m.1.content)

-- a row of `names` as a pair
abbrev pub naming_pair : Naming → List (ℕ × ℕ)
naming_pair n = (n.mutation, n.unit) ∷ []

-- at each commit, the current rows of `names` are the references of the register's mutations
abbrev pub NamingsAgree : List Moment → History → Type 0
NamingsAgree moments h =
    All (λ m. are_same_namings (current_values m.stamp h.namings)
    (namings_of (register_of_history m.stamp h m.next).mutations) ≡ true) moments
