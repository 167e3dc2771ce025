-- The register at a moment, from a history.
use Rattle.std.specs.Prelude.{ℕ, ℤ, List, [], ◌∷◌, flat_map, map as map_list}
use Rattle.std.specs.FinMap as map
use Rattle.std.specs.FinMap.{FinMap}
use Rattle.std.specs.List.Sorted.{IsPermutation}
use Rattle.std.specs.Ordering.{nat_cmp}
use Rattle.land_core.specs.declared.content.Content.{Content}
use Rattle.land_core.specs.declared.content.Content.TheVariants as content
use Rattle.land_core.specs.declared.mutation.MutationRecord.{MutationRecord}
use Rattle.land_core.specs.declared.register.Register.{Register}
use Rattle.land_tables_history.specs.Groups.{AreGroupsAt, groups_at}
use Rattle.land_tables_history.specs.Standing.{AreMandatesAt, AreRolesAt, IsPartAt, mandates_at, part_at}
use Rattle.land_tables_history.specs.Standing.{roles_at, current_values}
use Rattle.land_tables_history.specs.declared.history.History.{History}
use Rattle.land_tables_history.specs.declared.naming.Naming.{Naming}

-- the units that a content refers to: its own, and for a merger the others too
abbrev pub named_units : Content → List ℕ
named_units (content.Transfer it) = it.unit ∷ []
named_units (content.Subdivision it) = it.unit ∷ []
named_units (content.Merger it) = it.unit ∷ it.others
named_units (content.Mortgage it) = it.unit ∷ []
named_units (content.Discharge it) = it.unit ∷ []

-- the references of mutations to units
abbrev pub namings_of : FinMap nat_cmp MutationRecord → List Naming
namings_of mutations =
    flat_map (λ m. map_list (λ unit. record { mutation = m.0; unit = unit }) (named_units m.1.content))
    (map.entries mutations)

-- The current versions are exactly the register's records, roles, members and mandates, and the units that
-- its mutations refer to.
pub record IsRegisterAt (t : ℤ) (history : History) (register : Register) : Type 0 where
  pub parties : IsPartAt t history.parties register.parties
  pub roles : AreRolesAt t history.roles register.roles
  pub members : AreGroupsAt t history.members register.members
  pub units : IsPartAt t history.units register.units
  pub parcels : IsPartAt t history.parcels register.parcels
  pub rrrs : IsPartAt t history.rrrs register.rrrs
  pub sources : IsPartAt t history.sources register.sources
  pub mutations : IsPartAt t history.mutations register.mutations
  pub namings : IsPermutation (current_values t history.namings) (namings_of register.mutations)
  pub mandates : AreMandatesAt t history.mandates register.mandates

-- the register at a moment, with this next number
abbrev pub register_of_history : ℤ → History → (next : ℕ) → Register
register_of_history t history next = record {
  parties = part_at t history.parties;
  roles = roles_at t history.roles;
  members = groups_at t history.members;
  units = part_at t history.units;
  parcels = part_at t history.parcels;
  rrrs = part_at t history.rrrs;
  sources = part_at t history.sources;
  mutations = part_at t history.mutations;
  mandates = mandates_at t history.mandates;
  next = next;
}
