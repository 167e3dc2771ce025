-- The valid histories: those that a register can have.
use Rattle.std.specs.Prelude.{◌≡◌, Bool, true, not, ◌&&◌, nat_eq, nat_lt, int_lt, List, length}
use Rattle.std.specs.FinMap as map
use Rattle.std.specs.FinMap.{FinMap}
use Rattle.std.specs.List.{All, list_all, list_any}
use Rattle.std.specs.Ordering.{int_eq, nat_cmp}
use Rattle.land_core.specs.Contents.{content_names_unit}
use Rattle.land_core.specs.Entries.{are_distinct}
use Rattle.land_core.specs.Soundness.{IsSound}
use Rattle.land_core.specs.declared.mutation.MutationRecord.{MutationRecord}
use Rattle.land_tables_history.specs.History.{namings_of, register_of_history}
use Rattle.land_tables_history.specs.Intervals.{is_same_naming}
use Rattle.land_tables_history.specs.Standing.{current_values}
use Rattle.land_tables_history.specs.declared.history.History.{History}
use Rattle.land_tables_history.specs.declared.moment.Moment.{Moment}
use Rattle.land_tables_history.specs.declared.naming.Naming.{Naming}

-- ---- moments

-- two commits have the same stamp
abbrev pub is_same_stamp : Moment → Moment → Bool
is_same_stamp a b = int_eq a.stamp b.stamp

-- the next number decreases from a commit to a later one
abbrev pub decreases : Moment → Moment → Bool
decreases a b = int_lt a.stamp b.stamp && nat_lt b.next a.next

abbrev pub never_decreases : List Moment → Bool
never_decreases moments = list_all (λ a. list_all (λ b. not (decreases a b)) moments) moments

-- there is a commit, stamps are distinct, and the next number never decreases
abbrev pub are_moments : List Moment → Bool
are_moments moments = nat_lt 0 (length moments) && are_distinct is_same_stamp moments
    && never_decreases moments

-- ---- current values

-- a reference to a unit is among these
abbrev pub is_naming_among : List Naming → Naming → Bool
is_naming_among namings n = list_any (is_same_naming n) namings

-- two lists have the same references
abbrev pub are_same_namings : List Naming → List Naming → Bool
are_same_namings ones others =
    list_all (is_naming_among others) ones && list_all (is_naming_among ones) others

-- some mutation has this reference to a unit
abbrev pub is_told : FinMap nat_cmp MutationRecord → Naming → Bool
is_told mutations n =
    list_any (λ e. nat_eq n.mutation e.0 && content_names_unit n.unit e.1.content) (map.entries mutations)

-- at a commit the register is sound, and the current rows of `names` are the references of its mutations
pub record IsValidAt (history : History) (m : Moment) : Type 0 where
  pub sound : IsSound (register_of_history m.stamp history m.next)
  pub named : are_same_namings (current_values m.stamp history.namings)
      (namings_of (register_of_history m.stamp history m.next).mutations) ≡ true

-- a history is valid if its commits are valid, and it is valid at each of them
pub record IsValidHistory (listed : List Moment) (history : History) : Type 0 where
  pub moments : are_moments listed ≡ true
  pub each : All (IsValidAt history) listed
