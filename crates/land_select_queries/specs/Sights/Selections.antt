-- The selections that make up the sight of a role: the numbers that each returns for a caller.
use Rattle.std.specs.Prelude.{◌≡◌, ◌⊎◌, ℕ, ℤ, true, false, List, int_lt}
use Rattle.std.specs.List.{Contains}
use Rattle.land_core.specs.Mutations.{is_undecided}
use Rattle.land_core.specs.Units.{is_right_of}
use Rattle.land_core.specs.declared.kind.Kind.{Kind}
use Rattle.land_core.specs.declared.kind.Kind.TheVariants as kind
use Rattle.land_core.specs.declared.mutation.MutationRecord.{MutationRecord}
use Rattle.land_core.specs.declared.party.PartyRecord.{PartyRecord}
use Rattle.land_core.specs.declared.rrr.RightType.TheVariants.{Ownership}
use Rattle.land_core.specs.declared.rrr.RrrRecord.{RrrRecord}
use Rattle.land_core.specs.declared.unit.UnitRecord.{UnitRecord}
use Rattle.land_rules.specs.Relations.{is_mortgage_class, is_right}
use Rattle.land_select_queries.specs.declared.sights.selection.Selection.{Selection}
use Rattle.land_select_queries.specs.declared.sights.selection.Selection.TheVariants as selection
use Rattle.land_tables_history.specs.Standing.{current_values}
use Rattle.land_tables_history.specs.declared.group_member.GroupMember.{GroupMember}
use Rattle.land_tables_history.specs.declared.history.History.{History}
use Rattle.land_tables_history.specs.declared.naming.Naming.{Naming}
use Rattle.land_tables_history.specs.declared.version.Version.{Version}

-- ---- current versions

-- x is the value of a version that is valid at time t
abbrev pub IsCurrent : {X : Type 0} → ℤ → List (Version X) → X → Type 0
IsCurrent t versions x = Contains (current_values t versions) x

-- a current record has this number
abbrev pub IsCurrentUnder : {V : Type 0} → ℤ → List (Version (ℕ × V)) → (number : ℕ) → Type 0
IsCurrentUnder {V = V} t versions number = (it : ℕ × V) × IsCurrent t versions it × (it.0 ≡ number)

-- a version of a record with this number has not ended by time t
abbrev pub IsUnendedUnder : {V : Type 0} → ℤ → List (Version (ℕ × V)) → (number : ℕ) → Type 0
IsUnendedUnder {V = V} t versions number =
    (v : Version (ℕ × V)) × Contains versions v × (int_lt t v.until ≡ true) × (v.what.0 ≡ number)

-- an entry with its number
abbrev pub Entry : Type 0
Entry = ℕ × RrrRecord

-- ---- relations of a caller to an entry, and to a unit

-- holds a right itself: the entry is a right, and the caller is its party
pub record HoldsItself (t : ℤ) (h : History) (caller : ℕ) (held : Entry) : Type 0 where
  pub stands : IsCurrent t h.rrrs held
  pub party : held.1.party ≡ caller
  pub class : is_right held.1.class ≡ true

-- holds a right through a group: the entry is a right of a group, and the caller is a member of that group
pub record HoldsThrough (t : ℤ) (h : History) (caller : ℕ) (held : Entry) : Type 0 where
  pub joined : GroupMember
  pub joined_stands : IsCurrent t h.members joined
  pub stands : IsCurrent t h.rrrs held
  pub group : held.1.party ≡ joined.group
  pub member : joined.member.party ≡ caller
  pub class : is_right held.1.class ≡ true

-- is a creditor: the entry is a mortgage of the caller
pub record Credits (t : ℤ) (h : History) (caller : ℕ) (held : Entry) : Type 0 where
  pub stands : IsCurrent t h.rrrs held
  pub party : held.1.party ≡ caller
  pub class : is_mortgage_class held.1.class ≡ true

-- has a pending mutation that refers to the unit: lodged by the caller, neither approved nor refused
pub record LodgedPending (t : ℤ) (h : History) (caller unit : ℕ) : Type 0 where
  pub mutation : ℕ × MutationRecord
  pub mutation_stands : IsCurrent t h.mutations mutation
  pub naming : Naming
  pub naming_stands : IsCurrent t h.namings naming
  pub named_by : naming.mutation ≡ mutation.0
  pub lodger : mutation.1.lodger ≡ caller
  pub undecided : is_undecided mutation.1 ≡ true
  pub named : naming.unit ≡ unit

-- ---- what a unit shows

-- A holder sees the entries of its unit, but mortgages only if its right is ownership.
abbrev pub IsVisibleToHolder : (held seen : Entry) → Type 0
IsVisibleToHolder held seen =
    (is_mortgage_class seen.1.class ≡ false) ⊎ (is_right_of Ownership held.1.class ≡ true)

-- A creditor sees the entries of the unit, but only its own mortgages.
abbrev pub IsVisibleToCreditor : (caller : ℕ) → (seen : Entry) → Type 0
IsVisibleToCreditor caller seen = (is_mortgage_class seen.1.class ≡ false) ⊎ (seen.1.party ≡ caller)

-- an entry of a unit in which the caller has an interest, as far as that interest shows it
pub record IsVisibleEntry (t : ℤ) (h : History) (Interest : Entry → Type 0)
    (Tells : (held seen : Entry) → Type 0)
    (seen : Entry) : Type 0 where
  pub held : Entry
  pub interest : Interest held
  pub stands : IsCurrent t h.rrrs seen
  pub unit : seen.1.unit ≡ held.1.unit
  pub yields : Tells held seen

-- an entry of a unit to which a pending mutation of the caller refers
pub record IsPendingEntry (t : ℤ) (h : History) (caller : ℕ) (seen : Entry) : Type 0 where
  pub awaits : LodgedPending t h caller seen.1.unit
  pub stands : IsCurrent t h.rrrs seen

-- a reference of a mutation to a unit in which the caller has an interest
pub record IsReferenceTo (t : ℤ) (h : History) (Interest : Entry → Type 0) (naming : Naming) : Type 0 where
  pub held : Entry
  pub interest : Interest held
  pub stands : IsCurrent t h.namings naming
  pub unit : naming.unit ≡ held.1.unit

-- ---- the numbers of selections

-- of an entry with the property P: the number of its unit, its own number, the number of its party
abbrev pub UnitOf : (Entry → Type 0) → (number : ℕ) → Type 0
UnitOf P number = (e : Entry) × P e × (e.1.unit ≡ number)

abbrev pub EntryOf : (Entry → Type 0) → (number : ℕ) → Type 0
EntryOf P number = (e : Entry) × P e × (e.0 ≡ number)

abbrev pub PartyOf : (Entry → Type 0) → (number : ℕ) → Type 0
PartyOf P number = (e : Entry) × P e × (e.1.party ≡ number)

-- of a reference with the property P: the number of its mutation
abbrev pub MutationOf : (Naming → Type 0) → (number : ℕ) → Type 0
MutationOf P number = (n : Naming) × P n × (n.mutation ≡ number)

-- the numbers of all objects of a kind
abbrev pub all_selects : Kind → (t : ℤ) → History → (number : ℕ) → Type 0
all_selects kind.Party t h number = IsCurrentUnder t h.parties number
all_selects kind.Unit t h number = IsCurrentUnder t h.units number
all_selects kind.Parcel t h number = IsCurrentUnder t h.parcels number
all_selects kind.Rrr t h number = IsCurrentUnder t h.rrrs number
all_selects kind.Source t h number = IsCurrentUnder t h.sources number
all_selects kind.Mutation t h number = IsCurrentUnder t h.mutations number

-- whether a selection returns a number for a caller at a time
abbrev pub selects : Selection → (t : ℤ) → History → (caller : ℕ) → (number : ℕ) → Type 0
selects (selection.All k) t h caller number = all_selects k t h number
selects selection.UnendedUnits t h caller number = IsUnendedUnder t h.units number
selects selection.UnendedParcels t h caller number = IsUnendedUnder t h.parcels number
selects selection.Itself t h caller number =
    (it : ℕ × PartyRecord) × IsCurrent t h.parties it × (it.0 ≡ caller) × (it.0 ≡ number)
selects selection.ItsGroups t h caller number =
    (joined : GroupMember) × IsCurrent t h.members joined × (joined.member.party ≡ caller)
    × (joined.group ≡ number)
selects selection.ItsLodgings t h caller number =
    (it : ℕ × MutationRecord) × IsCurrent t h.mutations it × (it.1.lodger ≡ caller) × (it.0 ≡ number)
selects selection.HeldUnits t h caller number = UnitOf (HoldsItself t h caller) number
selects selection.GroupUnits t h caller number = UnitOf (HoldsThrough t h caller) number
selects selection.HeldEntries t h caller number =
    EntryOf (IsVisibleEntry t h (HoldsItself t h caller) IsVisibleToHolder) number
selects selection.GroupEntries t h caller number =
    EntryOf (IsVisibleEntry t h (HoldsThrough t h caller) IsVisibleToHolder) number
selects selection.HeldParties t h caller number =
    PartyOf (IsVisibleEntry t h (HoldsItself t h caller) IsVisibleToHolder) number
selects selection.GroupParties t h caller number =
    PartyOf (IsVisibleEntry t h (HoldsThrough t h caller) IsVisibleToHolder) number
selects selection.HeldMutations t h caller number = MutationOf
    (IsReferenceTo t h (HoldsItself t h caller)) number
selects selection.GroupMutations t h caller number = MutationOf
    (IsReferenceTo t h (HoldsThrough t h caller)) number
selects selection.CreditUnits t h caller number = UnitOf (Credits t h caller) number
selects selection.CreditEntries t h caller number =
    EntryOf (IsVisibleEntry t h (Credits t h caller) (λ held. IsVisibleToCreditor caller)) number
selects selection.CreditParties t h caller number =
    PartyOf (IsVisibleEntry t h (Credits t h caller) (λ held. IsVisibleToCreditor caller)) number
selects selection.LodgedUnits t h caller number =
    (it : ℕ × UnitRecord) × IsCurrent t h.units it × LodgedPending t h caller it.0 × (it.0 ≡ number)
selects selection.LodgedEntries t h caller number = EntryOf (IsPendingEntry t h caller) number
selects selection.LodgedParties t h caller number = PartyOf (IsPendingEntry t h caller) number
