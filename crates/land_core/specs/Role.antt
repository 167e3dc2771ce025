-- Roles in their order.
use Rattle.std.specs.Prelude.{ℕ, zero, suc, ◌≡◌, refl, Bool, nat_eq, List, [], ◌∷◌}
use Rattle.std.specs.Ordering.{nat_cmp, on}
use Rattle.std.specs.declared.cmp.Ordering.{Ordering}
use Rattle.land_core.specs.declared.role.Role.{Role}
use Rattle.land_core.specs.declared.role.Role.TheVariants.{Citizen, Conveyancer, Notary, Bank}
use Rattle.land_core.specs.declared.role.Role.TheVariants.{CertifiedSurveyor, StateAdministrator}

-- the position of a role in the order of roles
abbrev pub role_index : Role → ℕ
role_index Citizen = 0
role_index Conveyancer = 1
role_index Notary = 2
role_index Bank = 3
role_index CertifiedSurveyor = 4
role_index StateAdministrator = 5

-- all roles, in their order
abbrev pub all_roles : List Role
all_roles = Citizen ∷ Conveyancer ∷ Notary ∷ Bank ∷ CertifiedSurveyor ∷ StateAdministrator ∷ []

abbrev pub role_cmp : Role → Role → Ordering
role_cmp = on role_index nat_cmp

-- whether two roles are equal
abbrev pub is_role : Role → Role → Bool
is_role a b = nat_eq (role_index a) (role_index b)

-- the role at a position
abbrev pub role_at : ℕ → Role
role_at zero = Citizen
role_at (suc zero) = Conveyancer
role_at (suc (suc zero)) = Notary
role_at (suc (suc (suc zero))) = Bank
role_at (suc (suc (suc (suc zero)))) = CertifiedSurveyor
role_at n = StateAdministrator

pub role_at_place : (r : Role) → role_at (role_index r) ≡ r
role_at_place Citizen = refl
role_at_place Conveyancer = refl
role_at_place Notary = refl
role_at_place Bank = refl
role_at_place CertifiedSurveyor = refl
role_at_place StateAdministrator = refl
