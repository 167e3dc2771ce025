-- The parties that a caller sees, by its own names and by the viewers of a party.
use Rattle.std.specs.Prelude.{◌≡◌, ◌↔◌, ℕ, ℤ, Bool, true, false, nat_eq, List, None, Some, Option}
use Rattle.std.specs.Prelude.{if◌then◌else◌}
use Rattle.std.specs.List.{Contains, list_any}
use Rattle.land_core.specs.Role.{is_role}
use Rattle.land_core.specs.declared.caller.Caller.{Caller}
use Rattle.land_core.specs.declared.register.Register.{Register}
use Rattle.land_core.specs.declared.role.Role.{Role}
use Rattle.land_core.specs.declared.role.Role.TheVariants.{Citizen, Conveyancer, Notary, Bank}
use Rattle.land_core.specs.declared.role.Role.TheVariants.{CertifiedSurveyor, StateAdministrator}
use Rattle.land_rules.specs.Circles.{circle_of, is_name_of}
use Rattle.land_select_queries.specs.Joins.Execution.{HoldsOfHistory}
use Rattle.land_select_queries.specs.declared.lookups.relation.Relation.{Relation}
use Rattle.land_select_queries.specs.declared.lookups.relation.Relation.TheVariants.{Holding, Crediting}
use Rattle.land_select_queries.specs.declared.lookups.relation.Relation.TheVariants.{Awaiting}
use Rattle.land_tables_history.specs.History.{IsRegisterAt}
use Rattle.sqlite_trees.specs.Tree.{Trees}

-- The relation by which a role sees the parties of entries: a citizen by the rights that it holds, a bank by
-- its mortgages, a conveyancer by its pending mutations. A certified surveyor has none, and the other roles
-- see all parties anyway.
abbrev pub relation_of : Role → Option Relation
relation_of Citizen = Some Holding
relation_of Conveyancer = Some Awaiting
relation_of Notary = None
relation_of Bank = Some Crediting
relation_of CertifiedSurveyor = None
relation_of StateAdministrator = None

-- whether a party is a name of the caller: for a citizen, one of its circle or a group with a member in the
-- circle; for other roles, the caller itself
abbrev pub is_own_name : Register → Caller → (named : ℕ) → Bool
is_own_name r caller named = if is_role caller.role Citizen then is_name_of r (circle_of r caller.party) named
    else nat_eq named caller.party

-- the list has exactly the caller's names
abbrev pub AreOwnNames : Caller → List ℕ → Register → Type 0
AreOwnNames caller names r = (named : ℕ) → Contains names named ↔ (is_own_name r caller named ≡ true)

-- the same, and a party is not in the list
abbrev pub AreOtherNames : Caller → List ℕ → (party : ℕ) → Register → Type 0
AreOtherNames caller names party r = AreOwnNames caller names r × (list_any (nat_eq party) names ≡ false)

-- If the tables hold a history that at time t represents a register, the list has the caller's names in it.
abbrev pub AreOwnNamesAt : Caller → (t : ℤ) → Trees → List ℕ → Type 0
AreOwnNamesAt caller t db names = HoldsOfHistory db
    (λ h. (r : Register) → IsRegisterAt t h r → AreOwnNames caller names r)
