-- Parts of a register, read number by number.
use Rattle.std.specs.Prelude.{◌≡◌, ℤ, ℕ, Bool, ◌&&◌, ◌||◌, nat_eq, List, [], ◌∷◌, Option, None, Some}
use Rattle.std.specs.Prelude.{if◌then◌else◌}
use Rattle.std.specs.FinMap as map
use Rattle.std.specs.FinMap.{FinMap}
use Rattle.std.specs.Ordering.{nat_cmp}
use Rattle.land_acts.specs.Slices.{all_parts, includes_party, includes_unit, mutations_in_slice}
use Rattle.land_acts.specs.Slices.{names_mandate}
use Rattle.land_acts.specs.Slices.{needed_parts, slice_with}
use Rattle.land_acts.specs.declared.slice_parts.SliceParts.{SliceParts}
use Rattle.land_core.specs.Entries.{entries_where, with_entries}
use Rattle.land_core.specs.declared.act.Act.{Act}
use Rattle.land_core.specs.declared.caller.Caller.{Caller}
use Rattle.land_core.specs.declared.mutation.MutationRecord.{MutationRecord}
use Rattle.land_core.specs.declared.register.Register.{Register}
use Rattle.land_select.specs.declared.slices.units_and_entries.UnitsAndEntries.{UnitsAndEntries}
use Rattle.land_select.specs.declared.slices.parties_and_roles.PartiesAndRoles.{PartiesAndRoles}
use Rattle.land_select.specs.declared.slices.slice.Known.{Known}
use Rattle.land_select_queries.specs.Joins.Execution.{HoldsOfHistory}
use Rattle.land_tables_history.specs.Groups.{HaveMembers}
use Rattle.land_tables_history.specs.History.{IsRegisterAt}
use Rattle.sqlite_trees.specs.Tree.{Trees}

-- a set of numbers with one more, or with those of a list
abbrev pub with_number : ℕ → (ℕ → Bool) → ℕ → Bool
with_number n asked k = nat_eq k n || asked k

abbrev pub with_numbers : List ℕ → (ℕ → Bool) → ℕ → Bool
with_numbers [] asked = asked
with_numbers (n ∷ ns) asked = with_numbers ns (with_number n asked)

-- the numbers of a list, if they are included
abbrev pub numbers_if : (is_included : Bool) → List ℕ → List ℕ
numbers_if is_included numbers = if is_included then numbers else []

-- at most one record, inserted with its number
abbrev pub put_one : {V : Type 0} → FinMap nat_cmp V → ℕ → Option V → FinMap nat_cmp V
put_one m n None = m
put_one m n (Some value) = map.insert m n value

-- all entries of another map, inserted
abbrev pub put_all : {K V : Type 0} {R : K → K → _} → FinMap R V → FinMap R V → FinMap R V
put_all m more = with_entries m (map.entries more)

-- the parts of a slice to read: those that the outcome of the act depends on, or all
abbrev pub parts_to_read : (needed_only : Bool) → FinMap nat_cmp MutationRecord → Act → SliceParts
parts_to_read needed_only mutations a = if needed_only then needed_parts mutations a else all_parts

-- the slice, or only the part that the outcome of the act depends on
abbrev pub read_slice_of : (needed_only : Bool) → Register → Caller → Act → Register
read_slice_of needed_only r caller a =
    slice_with (parts_to_read needed_only (mutations_in_slice r caller a) a) r caller a

-- the parties that some parts of a slice include, with their roles and members, are those of the register
pub record KnowsParties (parts : SliceParts) (r : Register) (a : Act) (known : PartiesAndRoles) : Type 0 where
  pub parties : known.parties ≡ entries_where (λ n p. includes_party parts r a n) r.parties
  pub roles : known.roles
      ≡ entries_where (λ grant u. parts.roles && includes_party parts r a grant.party) r.roles
  pub members : known.members
      ≡ entries_where (λ n members. parts.members && includes_party parts r a n) r.members

-- the units that they include, with their parcels and entries, are those of the register
pub record KnowsUnits (parts : SliceParts) (r : Register) (a : Act) (known : UnitsAndEntries) : Type 0 where
  pub units : known.units ≡ entries_where (λ n u. includes_unit parts r a n) r.units
  pub parcels : known.parcels
      ≡ entries_where (λ n p. parts.parcels && includes_unit parts r a p.unit) r.parcels
  pub rrrs : known.rrrs ≡ entries_where (λ n e. includes_unit parts r a e.unit) r.rrrs

-- ---- results of reads

-- If the tables hold a history that at time t represents a register without empty groups, the property holds
-- of that register.
abbrev pub HoldsOfRegister : (Register → Type 0) → (t : ℤ) → Trees → Type 0
HoldsOfRegister holds t db = HoldsOfHistory db (λ h. (r : Register) → HaveMembers r.members
    → IsRegisterAt t h r → holds r)

-- a part that is correct for a set of numbers is correct for a larger set after the read
abbrev pub KnowsMore : {T : Type 0} → (Register → (ℕ → Bool) → T → Type 0) → (more : (ℕ → Bool) → ℕ → Bool)
    → (from it : T) → (t : ℤ) → Trees → Type 0
KnowsMore knows more from it t db = HoldsOfRegister (λ r. (asked : ℕ → Bool) → knows r asked from
    → knows r (more asked) it)
    t db

-- the records of a slice that are read first, before its sources and the lifted entry, are those of the
-- register
pub record IsKnown (parts : SliceParts) (r : Register) (caller : Caller) (a : Act) (known : Known) : Type 0
  where
    pub mutations : known.mutations ≡ mutations_in_slice r caller a
    pub parties_and_roles : KnowsParties parts r a known.parties_and_roles
    pub units_and_entries : KnowsUnits parts r a known.units_and_entries
    pub mandates : known.mandates ≡ entries_where (λ m u. names_mandate caller a m) r.mandates
    pub next : r.next ≡ known.next
