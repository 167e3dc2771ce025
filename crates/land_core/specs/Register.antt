-- The register: the current records, without lifespans.
use Rattle.std.specs.Prelude.{ℕ, Bool, true, false, not, List, [], filter, Option, codes}
use Rattle.std.specs.Option.{option_map, option_map_or}
use Rattle.std.specs.FinMap as map
use Rattle.land_core.specs.Entries.{has}
use Rattle.land_core.specs.Grants.{has_grant, grant_to}
use Rattle.land_core.specs.Members.{members_in, shares_in}
use Rattle.land_core.specs.Role.{all_roles}
use Rattle.land_core.specs.declared.kind.Kind.{Kind}
use Rattle.land_core.specs.declared.kind.Kind.TheVariants as kind
use Rattle.land_core.specs.declared.kind.PartyKind.{PartyKind}
use Rattle.land_core.specs.declared.kind.PartyKind.TheVariants.{NaturalPerson, NonNaturalPerson, Group}
use Rattle.land_core.specs.declared.member.Member.{Member}
use Rattle.land_core.specs.declared.mutation.Mutation.{Mutation}
use Rattle.land_core.specs.declared.mutation.MutationRecord.{MutationRecord}
use Rattle.land_core.specs.declared.object.Object.{Object}
use Rattle.land_core.specs.declared.object.Object.TheVariants as object
use Rattle.land_core.specs.declared.parcel.Parcel.{Parcel}
use Rattle.land_core.specs.declared.party.Party.{Party}
use Rattle.land_core.specs.declared.register.Register.{Register}
use Rattle.land_core.specs.declared.role.Role.{Role}
use Rattle.land_core.specs.declared.role.Role.TheVariants.{StateAdministrator}
use Rattle.land_core.specs.declared.rrr.Rrr.{Rrr}
use Rattle.land_core.specs.declared.source.Source.{Source}
use Rattle.land_core.specs.declared.unit.Unit.{Unit as UnitShown}
use Rattle.land_fraction.specs.Ratio.{Ratio}

-- the empty register, the state before the first commit
abbrev pub empty_register : Register
empty_register = record {
  parties = map.empty;
  roles = map.empty;
  members = map.empty;
  units = map.empty;
  parcels = map.empty;
  rrrs = map.empty;
  sources = map.empty;
  mutations = map.empty;
  mandates = map.empty;
  next = 2;
}

-- a new register: party 1 is the land office, a state administrator; the next number is 2
abbrev pub new_register : Register
new_register = record {
  parties = map.insert map.empty 1 (record { kind = NonNaturalPerson; name = codes "Land Office" });
  roles = map.insert map.empty (grant_to 1 StateAdministrator) tt;
  members = map.empty;
  units = map.empty;
  parcels = map.empty;
  rrrs = map.empty;
  sources = map.empty;
  mutations = map.empty;
  mandates = map.empty;
  next = 2;
}

-- whether an object of this kind and number exists
abbrev pub stands : Register → Kind → ℕ → Bool
stands r kind.Party n = has r.parties n
stands r kind.Unit n = has r.units n
stands r kind.Parcel n = has r.parcels n
stands r kind.Rrr n = has r.rrrs n
stands r kind.Source n = has r.sources n
stands r kind.Mutation n = has r.mutations n

-- whether a mutation exists at a number and satisfies a condition
abbrev pub is_mutation_where : (MutationRecord → Bool) → Register → (number : ℕ) → Bool
is_mutation_where passes r n = option_map_or passes (map.get r.mutations n) false

-- whether a party has a role
abbrev pub holds : Register → ℕ → Role → Bool
holds r party role = has_grant r.roles (grant_to party role)

-- a natural or non-natural person is a single party, a group is not (LA_Party, LA_GroupParty)
abbrev pub is_single : PartyKind → Bool
is_single NaturalPerson = true
is_single NonNaturalPerson = true
is_single Group = false

-- whether a single party of this number exists
abbrev pub has_single_party : Register → ℕ → Bool
has_single_party r n = option_map_or (λ p. is_single p.kind) (map.get r.parties n) false

-- whether a group of this number exists
abbrev pub has_group : Register → ℕ → Bool
has_group r n = option_map_or (λ p. not (is_single p.kind)) (map.get r.parties n) false

-- whether a party is a member of a group
abbrev pub is_member : Register → (group party : ℕ) → Bool
is_member r group party = option_map_or (λ members. has members party) (map.get r.members group) false

-- the members of a group, ordered by number; empty for a single party
abbrev pub members_of : Register → ℕ → List Member
members_of r n = option_map_or members_in (map.get r.members n) []

abbrev pub shares_of : Register → ℕ → List Ratio
shares_of r n = option_map_or shares_in (map.get r.members n) []

-- the roles of a party, in their order
abbrev pub roles_of : Register → ℕ → List Role
roles_of r n = filter (λ role. holds r n role) all_roles

-- the party of a number, if it exists: its record with its number
abbrev pub party_at : Register → ℕ → Option Party
party_at r n = option_map (λ p. record {
  number = n;
  kind = p.kind;
  name = p.name;
  members = members_of r n;
  roles = roles_of r n;
}) (map.get r.parties n)

abbrev pub unit_at : Register → ℕ → Option UnitShown
unit_at r n = option_map (λ u. record { number = n; name = u.name; checked = u.checked }) (map.get r.units n)

abbrev pub parcel_at : Register → ℕ → Option Parcel
parcel_at r n = option_map
    (λ p. record { number = n; unit = p.unit; label = p.label; outline = p.outline; source = p.source })
    (map.get r.parcels n)

abbrev pub rrr_at : Register → ℕ → Option Rrr
rrr_at r n = option_map
    (λ e. record { number = n; unit = e.unit; party = e.party; class = e.class; source = e.source })
    (map.get r.rrrs n)

abbrev pub source_at : Register → ℕ → Option Source
source_at r n = option_map (λ s. record { number = n; kind = s.kind; title = s.title }) (map.get r.sources n)

abbrev pub mutation_at : Register → ℕ → Option Mutation
mutation_at r n = option_map (λ m. record {
  number = n;
  lodger = m.lodger;
  reference = m.reference;
  source = m.source;
  lodged = m.lodged;
  state = m.state;
  content = m.content;
}) (map.get r.mutations n)

-- the object of this kind and number, if it exists
abbrev pub object_at : Register → Kind → ℕ → Option Object
object_at r kind.Party n = option_map object.Party (party_at r n)
object_at r kind.Unit n = option_map object.Unit (unit_at r n)
object_at r kind.Parcel n = option_map object.Parcel (parcel_at r n)
object_at r kind.Rrr n = option_map object.Rrr (rrr_at r n)
object_at r kind.Source n = option_map object.Source (source_at r n)
object_at r kind.Mutation n = option_map object.Mutation (mutation_at r n)
