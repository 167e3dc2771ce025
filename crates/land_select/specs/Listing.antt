-- Lists of the objects in a range of numbers.
use Rattle.std.specs.List.{Contains}
use Rattle.std.specs.Prelude.{◌≡◌, ◌<◌, ℕ, ℤ, true, List, [], ◌∷◌}
use Rattle.land_core.specs.declared.kind.Kind.{Kind}
use Rattle.land_core.specs.declared.register.Register.{Register}
use Rattle.land_keep.specs.Named.{named_at}
use Rattle.land_select_queries.specs.Joins.Execution.{HoldsOfHistory}
use Rattle.land_select_queries.specs.Lookups.Ranges.{is_within}
use Rattle.land_tables_history.specs.Groups.{HaveMembers}
use Rattle.land_tables_history.specs.History.{IsRegisterAt}
use Rattle.sqlite_trees.specs.Tree.{Trees}

-- the range from the least to the greatest of some numbers; without any, a range that is empty
abbrev pub IsTightRange : List ℕ → (first last : ℕ) → Type 0
IsTightRange [] first last = last < first
IsTightRange (n ∷ ns) first last = Contains (n ∷ ns) first × Contains (n ∷ ns) last

-- two registers list the objects of a kind in a range alike
abbrev pub ListsAlike : Kind → (first last : ℕ) → (one other : Register) → Type 0
ListsAlike k first last one other =
    (number : ℕ) → is_within first last number ≡ true → named_at one k number ≡ named_at other k number

-- If the tables hold a history that at time t represents a register without empty groups, this register lists
-- the range like it.
abbrev pub ListsRange : Kind → (first last : ℕ) → (t : ℤ) → Trees → Register → Type 0
ListsRange k first last t db it = HoldsOfHistory db
    (λ h. (r : Register) → HaveMembers r.members → IsRegisterAt t h r → ListsAlike k first last it r)
