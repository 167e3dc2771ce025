-- How connections ended.
use Rattle.std.specs.Prelude.{◌≡◌, ℕ, nat_eq, Bool, List, [], ◌∷◌, ◌++◌, Option, Some, None, if◌then◌else◌}

-- A connection that ended: its number, whether it was served completely, and the bytes that its writer held
-- when it was accepted and when it ended.
pub record Ending : Type 0 where
  pub number : ℕ
  pub complete : Bool
  pub fresh : Option (List ℕ)
  pub written : Option (List ℕ)

-- The endings of one connection.
abbrev pub endings_of : ℕ → List Ending → List Ending
endings_of k [] = []
endings_of k (e ∷ es) = if nat_eq e.number k then e ∷ endings_of k es else endings_of k es

-- These endings were recorded, if endings are recorded.
abbrev pub RecordsAll : (old new : Option (List Ending)) → List Ending → Type 0
RecordsAll None new endings = Unit {0}
RecordsAll (Some all) None endings = ⊥
RecordsAll (Some all) (Some more) endings = more ≡ all ++ endings

-- This ending was recorded.
abbrev pub Records : (old new : Option (List Ending)) → (number : ℕ) → (complete : Bool)
    → (fresh written : Option (List ℕ)) → Type 0
Records old new number complete fresh written =
    RecordsAll old new
    (record { number = number; complete = complete; fresh = fresh; written = written } ∷ [])
