-- Whether a change can be written, and its effect on the tables.
use Rattle.std.specs.FinMap as map
use Rattle.std.specs.List.{list_all}
use Rattle.std.specs.Prelude.{◌≡◌, ◌&&◌, ℕ, ℤ, Bool, List, ◌∷◌, map as map_list}
use Rattle.land_core.specs.Members.{Members, members_in}
use Rattle.land_core.specs.Numbers.{is_number}
use Rattle.land_core.specs.declared.change.Change.{Change}
use Rattle.land_core.specs.declared.content.Content.{Content}
use Rattle.land_tables_history.specs.Changed.{changed_namings}
use Rattle.land_tables_history.specs.History.{named_units}
use Rattle.land_tables_history.specs.Written.{written_history, written_mandates, written_members}
use Rattle.land_tables_history.specs.Written.{written_part, written_roles}
use Rattle.land_tables_history.specs.declared.group_member.GroupMember.{GroupMember}
use Rattle.land_tables_history.specs.declared.history.History.{History}
use Rattle.land_tables_history.specs.declared.moment.Moment.{Moment}
use Rattle.land_tables_history.specs.declared.naming.Naming.{Naming}
use Rattle.land_tables_rows.specs.Edition.Writing.{HoldsEditions}
use Rattle.land_tables_rows.specs.Mandate.Writing.{fits_mandate}
use Rattle.land_tables_rows.specs.Mutation.Cells.{fits_mutation}
use Rattle.land_tables_rows.specs.Parcel.Cells.{fits_parcel}
use Rattle.land_tables_rows.specs.Party.Writing.{fits_party}
use Rattle.land_tables_rows.specs.Reading.Cells.{is_next}
use Rattle.land_tables_rows.specs.Role.Writing.{fits_grant}
use Rattle.land_tables_rows.specs.Rrr.Cells.{fits_rrr}
use Rattle.land_tables_rows.specs.Source.Writing.{fits_source}
use Rattle.land_tables_rows.specs.Unit.Writing.{fits_unit}
use Rattle.land_tables_rows.specs.Writing.History.{HoldsHistory}
use Rattle.land_tables_rows.specs.declared.edition.reading.Edition.{Edition}
use Rattle.sqlite.specs.Effect.{Database}

-- ---- which changes can be written

-- of one kind: the inserted records and the keys of the ended ones can be written
abbrev pub fits_kind : {X K : Type 0} → (X → Bool) → (K → Bool) → (put : List X) → (ended : List K) → Bool
fits_kind fits fits_key put ended = list_all fits put && list_all fits_key ended

-- a group can be written if its number and those of its members are within their limits
abbrev pub fits_group : ℕ × Members → Bool
fits_group g = is_number g.0 && list_all (λ e. is_number e.0) (map.entries g.1)

-- parties, their roles, the members of groups, and mandates
abbrev pub fits_parties_and_roles : Change → Bool
fits_parties_and_roles change =
    fits_kind (λ e. fits_party e.0 e.1) is_number change.put.parties change.ended.parties
    && (fits_kind fits_grant fits_grant change.put.roles change.ended.roles
    && (fits_kind fits_group is_number change.put.members change.ended.members
    && fits_kind fits_mandate fits_mandate change.put.mandates change.ended.mandates))

-- units, parcels, and the entries of units
abbrev pub fits_units_and_entries : Change → Bool
fits_units_and_entries change =
    fits_kind (λ e. fits_unit e.0 e.1) is_number change.put.units change.ended.units
    && (fits_kind fits_parcel is_number change.put.parcels change.ended.parcels
    && fits_kind fits_rrr is_number change.put.rrrs change.ended.rrrs)

-- sources and mutations; a mutation that can be written refers only to units that can
abbrev pub fits_sources_and_mutations : Change → Bool
fits_sources_and_mutations change =
    fits_kind (λ e. fits_source e.0 e.1) is_number change.put.sources change.ended.sources
    && fits_kind fits_mutation is_number change.put.mutations change.ended.mutations

-- a change can be written if its records, its ended keys and its next number can
abbrev pub fits_change : Change → Bool
fits_change change =
    fits_parties_and_roles change
    && (fits_units_and_entries change && (fits_sources_and_mutations change && is_next change.next))

-- ---- lists

-- the members of one group, each with the group's number
abbrev pub memberships_of_group : ℕ → Members → List GroupMember
memberships_of_group group members = map_list (λ m. record { group = group; member = m }) (members_in members)

-- the units that a mutation refers to, each with the mutation's number
abbrev pub names_of : (mutation : ℕ) → (units : List ℕ) → List Naming
names_of mutation units = map_list (λ unit. record { mutation = mutation; unit = unit }) units

abbrev pub mutation_names : (mutation : ℕ) → Content → List Naming
mutation_names mutation content = names_of mutation (named_units content)

-- ---- the effect on the tables

-- the tables hold the rewritten history; the moments and the edition are unchanged
pub record RewritesTables (edit : History → History) (old new : Database) : Type 0 where
  pub schema : new.schema ≡ old.schema
  pub held : (moments : List Moment) (history : History) → HoldsHistory old.trees moments history
      → HoldsHistory new.trees moments (edit history)
  pub editions : (editions : List Edition) → HoldsEditions old.trees editions
      → HoldsEditions new.trees editions

-- the parties, roles, members and mandates that a change inserts and ends
abbrev pub written_parties_and_roles : (next : ℕ) → Change → (stamp : ℤ) → History → History
written_parties_and_roles next change stamp h = record h {
  parties = written_part next change.put.parties change.ended.parties stamp h.parties;
  roles = written_roles next change.put.roles change.ended.roles stamp h.roles;
  members = written_members next change.put.members change.ended.members stamp h.members;
  mandates = written_mandates next change.put.mandates change.ended.mandates stamp h.mandates;
}

-- the units, parcels and entries that it inserts and ends
abbrev pub written_units_and_entries : (next : ℕ) → Change → (stamp : ℤ) → History → History
written_units_and_entries next change stamp h = record h {
  units = written_part next change.put.units change.ended.units stamp h.units;
  parcels = written_part next change.put.parcels change.ended.parcels stamp h.parcels;
  rrrs = written_part next change.put.rrrs change.ended.rrrs stamp h.rrrs;
}

-- the sources and mutations that it inserts and ends, and the units that new mutations refer to
abbrev pub written_sources_and_mutations : (next : ℕ) → Change → (stamp : ℤ) → History → History
written_sources_and_mutations next change stamp h = record h {
  sources = written_part next change.put.sources change.ended.sources stamp h.sources;
  mutations = written_part next change.put.mutations change.ended.mutations stamp h.mutations;
  namings = changed_namings next change.put.mutations stamp h.namings;
}

-- A change is written with its moment: the tables hold one moment more, with the new next number, and the
-- written history. A mutation is new if its number is at least the next number from before the change. If the
-- tables hold the history of a sound register, the written history is the changed one
-- (`writes_close_all` of `land_tables_history`).
pub record WritesChange (change : Change) (next : ℕ) (stamp : ℤ) (old new : Database) : Type 0 where
  pub schema : new.schema ≡ old.schema
  pub held : (moments : List Moment) (history : History) → HoldsHistory old.trees moments history
      → HoldsHistory new.trees (record { stamp = stamp; next = change.next } ∷ moments)
      (written_history next change stamp history)
  pub editions : (editions : List Edition) → HoldsEditions old.trees editions
      → HoldsEditions new.trees editions
