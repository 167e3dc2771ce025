-- Parts of the register at a time.
use Rattle.std.specs.List.{Contains}
use Rattle.std.specs.Prelude.{◌≡◌, ◌↔◌, ℕ, ℤ, List, IsPermutation}
use Rattle.land_core.specs.declared.register.Register.{Register}
use Rattle.land_rules.specs.Circles.{circle_of, principals_of}
use Rattle.land_select_queries.specs.Joins.Execution.{HoldsOfHistory}
use Rattle.land_tables_history.specs.Groups.{HaveMembers}
use Rattle.land_tables_history.specs.History.{IsRegisterAt}
use Rattle.sqlite_trees.specs.Tree.{Trees}

-- If the tables hold a history that at time t represents a register without empty groups, the value is this
-- part of that register.
abbrev pub ReadsPart : {T : Type 0} → (Register → T) → (t : ℤ) → Trees → T → Type 0
ReadsPart part t db it = HoldsOfHistory db (λ h. (r : Register) → HaveMembers r.members → IsRegisterAt t h r
    → it ≡ part r)

-- If the tables hold a history that at time t represents a register, the list has the principals of a party
-- in it, each once.
abbrev pub ArePrincipalsOf : (agent : ℕ) → (t : ℤ) → Trees → List ℕ → Type 0
ArePrincipalsOf agent t db numbers =
    HoldsOfHistory db (λ h. (r : Register) → IsRegisterAt t h r
    → IsPermutation numbers (principals_of r agent))

-- the list has the circle of a party in that register
abbrev pub IsCircleOf : (party : ℕ) → (t : ℤ) → Trees → List ℕ → Type 0
IsCircleOf party t db numbers = HoldsOfHistory db
    (λ h. (r : Register) → IsRegisterAt t h r → (number : ℕ) → Contains numbers number
    ↔ Contains (circle_of r party) number)
