-- Facts and views of the register at a time.
use Rattle.std.specs.FinMap as map
use Rattle.std.specs.Prelude.{◌≡◌, ◌↔◌, ℕ, ℤ, true, ◌&&◌, nat_eq, List, [], ◌∷◌, map as map_list, Option}
use Rattle.std.specs.Prelude.{if◌then◌else◌}
use Rattle.std.specs.FinMap.{FinMap}
use Rattle.std.specs.Ordering.{nat_cmp}
use Rattle.std.specs.List.{Contains}
use Rattle.std.specs.Option.{option_map}
use Rattle.land_core.specs.Entries.{entries_where}
use Rattle.land_core.specs.declared.caller.Caller.{Caller}
use Rattle.land_core.specs.declared.kind.Kind.TheVariants.{Rrr}
use Rattle.land_core.specs.declared.party.PartyRecord.{PartyRecord}
use Rattle.land_core.specs.declared.register.Register.{Register}
use Rattle.land_core.specs.declared.rrr.RrrRecord.{RrrRecord}
use Rattle.land_core.specs.declared.unit.UnitRecord.{UnitRecord}
use Rattle.land_keep.specs.Sheets.{visible_entries, parcels_at}
use Rattle.land_keep.specs.declared.view.NamedRrr.{NamedRrr}
use Rattle.land_keep.specs.declared.view.View.{View}
use Rattle.land_rules.specs.Circles.{circle_of, is_group_of, is_name_of}
use Rattle.land_rules.specs.Denials.Interests.{AreNamesOf, Entries, interest_of, shows_entry}
use Rattle.land_rules.specs.Laws.{IsSoundOrNothing}
use Rattle.land_rules.specs.Relations.{has_pending_mutation_on}
use Rattle.land_rules.specs.Rules.{sees}
use Rattle.land_select_queries.specs.Joins.Execution.{HoldsOfHistory}
use Rattle.land_tables_history.specs.History.{IsRegisterAt}
use Rattle.land_tables_history.specs.declared.version.Version.{Version}
use Rattle.sqlite_trees.specs.Tree.{Trees}

-- If the tables hold a history that at time t represents a register, sound or empty, the value is this fact
-- of it.
abbrev pub AgreesWithRegister : {T : Type 0} → (Register → T) → (t : ℤ) → Trees → T → Type 0
AgreesWithRegister shown t db it = HoldsOfHistory db (λ h. (r : Register) → IsSoundOrNothing r
    → IsRegisterAt t h r → it ≡ shown r)

-- the same, if a premise holds of that register
abbrev pub AgreesIfGiven : {T : Type 0} → (Given : Register → Type 0) → (Register → T) → (t : ℤ) → Trees → T
    → Type 0
AgreesIfGiven Given shown t db it = HoldsOfHistory db
    (λ h. (r : Register) → IsSoundOrNothing r → IsRegisterAt t h r → Given r → it ≡ shown r)

-- the name of a party in a list of versions; empty if it is not there
abbrev pub name_among : List (Version (ℕ × PartyRecord)) → (number : ℕ) → List ℕ
name_among [] number = []
name_among (v ∷ vs) number = if nat_eq v.what.0 number then v.what.1.name else name_among vs number

-- an entry with its number and a name
abbrev pub with_name : ℕ → RrrRecord → List ℕ → NamedRrr
with_name n e name = record {
  rrr =
      record { number = n; unit = e.unit; party = e.party; class = e.class; source = e.source };
  name = name;
}

-- entries, each with the name of its party, from a list of versions
abbrev pub named_among : List (Version (ℕ × PartyRecord)) → List (ℕ × RrrRecord) → List NamedRrr
named_among parties entries = map_list (λ e. with_name e.0 e.1 (name_among parties e.1.party)) entries

-- the entries of a unit that a caller sees
abbrev pub visible_rrrs : Register → Caller → (unit : ℕ) → FinMap nat_cmp RrrRecord
visible_rrrs r caller unit = entries_where (λ n e. nat_eq e.unit unit && sees r caller Rrr n) r.rrrs

-- If the tables hold a history that at time t represents a register, the list has exactly the groups in it
-- with a member in a list.
abbrev pub AreCallerGroupsAt : (callers : List ℕ) → (t : ℤ) → Trees → List ℕ → Type 0
AreCallerGroupsAt callers t db groups = HoldsOfHistory db
    (λ h. (r : Register) → IsRegisterAt t h r → (group : ℕ) → Contains groups group
    ↔ (is_group_of r callers group ≡ true))

-- the list has exactly the names in which a citizen holds rights in that register
abbrev pub AreNamesAt : Caller → (t : ℤ) → Trees → List ℕ → Type 0
AreNamesAt caller t db names = HoldsOfHistory db (λ h. (r : Register) → IsRegisterAt t h r
    → AreNamesOf r caller names)

-- the entries of a unit that the caller's interest in the unit shows
abbrev pub entries_by_interest : Register → Caller → Entries → Entries
entries_by_interest r caller entries = entries_where (λ n e. shows_entry
    (interest_of (is_name_of r (circle_of r caller.party)) caller entries) caller.party e) entries

-- the entries of a unit if a pending mutation of the party refers to it, else none
abbrev pub pending_entries : Register → (party unit : ℕ) → Entries → Entries
pending_entries r party unit entries = if has_pending_mutation_on r party unit then entries else map.empty

-- the view of a unit record for a caller
abbrev pub view_from : Register → Caller → (unit : ℕ) → (moment : ℤ) → UnitRecord → View
view_from r caller unit moment found = record {
  unit = record { number = unit; name = found.name; checked = found.checked };
  parcels = parcels_at r unit;
  rrrs = visible_entries r caller unit;
  at = moment;
}

-- a view with another time
abbrev pub view_at_moment : (moment : ℤ) → Option View → Option View
view_at_moment moment found = option_map {T = View} (λ v. record v { at = moment }) found
