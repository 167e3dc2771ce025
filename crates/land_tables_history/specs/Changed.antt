-- The effect of a change of the register on its versions: an inserted value starts at the stamp, and a
-- version that it ends or replaces ends there.
use Rattle.std.specs.Prelude.{ℕ, ℤ, Bool, false, ◌&&◌, nat_eq, nat_le, List, ◌++◌, filter, flat_map}
use Rattle.std.specs.Prelude.{map as map_list, if◌then◌else◌}
use Rattle.std.specs.List.{list_any}
use Rattle.std.specs.Ordering.{eq_by_cmp, int_eq}
use Rattle.land_core.specs.Grants.{grant_cmp}
use Rattle.land_core.specs.Mandates.{mandate_cmp}
use Rattle.land_core.specs.Members.{Members, members_in}
use Rattle.land_core.specs.declared.change.Change.{Change}
use Rattle.land_core.specs.declared.mandates.Mandate.{Mandate}
use Rattle.land_core.specs.declared.mutation.MutationRecord.{MutationRecord}
use Rattle.land_core.specs.declared.roles.Grant.{Grant}
use Rattle.land_tables_history.specs.History.{named_units}
use Rattle.land_tables_history.specs.Open.{never}
use Rattle.land_tables_history.specs.declared.group_member.GroupMember.{GroupMember}
use Rattle.land_tables_history.specs.declared.history.History.{History}
use Rattle.land_tables_history.specs.declared.naming.Naming.{Naming}
use Rattle.land_tables_history.specs.declared.version.Version.{Version}

-- a new version, which is current from `since`
abbrev pub opened_version : {X : Type 0} → X → (since : ℤ) → Version X
opened_version x since = record { what = x; since = since; until = never }

-- ends a version at `stamp` if it is current and meant; leaves other versions unchanged
abbrev pub closed_version : {X : Type 0} → (meant : X → Bool) → (stamp : ℤ) → Version X → Version X
closed_version meant stamp v = if meant v.what && int_eq v.until never then record v { until = stamp } else v

-- inserted values start at the stamp, and meant versions end there
abbrev pub changed_versions : {X : Type 0} → (put : List X) → (meant : X → Bool) → (stamp : ℤ)
    → List (Version X) → List (Version X)
changed_versions put meant stamp versions =
    map_list (λ x. opened_version x stamp) put ++ map_list (closed_version meant stamp) versions

-- whether a key is among these
abbrev pub is_key_among : {K : Type 0} → (same : K → K → Bool) → List K → K → Bool
is_key_among same keys key = list_any (same key) keys

-- whether a number is among the inserted or the ended ones
abbrev pub is_changed : {V : Type 0} → (put : List (ℕ × V)) → (ended : List ℕ) → ℕ → Bool
is_changed put ended number = is_key_among nat_eq (map_list (λ e. e.0) put ++ ended) number

-- records: inserted ones start, and current versions of a changed number end
abbrev pub changed_part : {V : Type 0} → (put : List (ℕ × V)) → (ended : List ℕ) → (stamp : ℤ)
    → List (Version (ℕ × V)) → List (Version (ℕ × V))
changed_part put ended stamp versions = changed_versions put (λ e. is_changed put ended e.0) stamp versions

-- roles: granted ones start, and current versions of granted or revoked ones end
abbrev pub changed_roles : (put ended : List Grant) → (stamp : ℤ) → List (Version Grant)
    → List (Version Grant)
changed_roles put ended stamp versions =
    changed_versions put (λ grant. is_key_among (eq_by_cmp grant_cmp) (put ++ ended) grant) stamp versions

-- mandates: new ones start, and current versions of new or withdrawn ones end
abbrev pub changed_mandates : (put ended : List Mandate) → (stamp : ℤ) → List (Version Mandate)
    → List (Version Mandate)
changed_mandates put ended stamp versions =
    changed_versions put (λ mandate. is_key_among (eq_by_cmp mandate_cmp) (put ++ ended) mandate) stamp
    versions

-- the members of these groups, each with the number of its group
abbrev pub listed_members : List (ℕ × Members) → List GroupMember
listed_members groups =
    flat_map (λ g. map_list (λ m. record { group = g.0; member = m }) (members_in g.1)) groups

-- members: those of inserted groups start, and current members of a changed group end
abbrev pub changed_members : (put : List (ℕ × Members)) → (ended : List ℕ) → (stamp : ℤ)
    → List (Version GroupMember) → List (Version GroupMember)
changed_members put ended stamp versions =
    changed_versions (listed_members put) (λ e. is_changed put ended e.group) stamp versions

-- the references of these mutations to units
abbrev pub named_by : List (ℕ × MutationRecord) → List Naming
named_by mutations =
    flat_map (λ m. map_list (λ unit. record { mutation = m.0; unit = unit })
    (named_units m.1.content)) mutations

-- the new mutations, whose numbers are not below the next number
abbrev pub new_mutations : (next : ℕ) → List (ℕ × MutationRecord) → List (ℕ × MutationRecord)
new_mutations next put = filter (λ m. nat_le next m.0) put

-- references to units: those of new mutations start, and none ends
abbrev pub changed_namings : (next : ℕ) → (put : List (ℕ × MutationRecord)) → (stamp : ℤ)
    → List (Version Naming) → List (Version Naming)
changed_namings next put stamp versions =
    changed_versions (named_by (new_mutations next put)) (λ naming. false) stamp versions

-- the history with a change of a register that had this next number, from the stamp on
abbrev pub changed_history : (next : ℕ) → Change → (stamp : ℤ) → History → History
changed_history next change stamp h = record {
  parties = changed_part change.put.parties change.ended.parties stamp h.parties;
  roles = changed_roles change.put.roles change.ended.roles stamp h.roles;
  members = changed_members change.put.members change.ended.members stamp h.members;
  units = changed_part change.put.units change.ended.units stamp h.units;
  parcels = changed_part change.put.parcels change.ended.parcels stamp h.parcels;
  rrrs = changed_part change.put.rrrs change.ended.rrrs stamp h.rrrs;
  sources = changed_part change.put.sources change.ended.sources stamp h.sources;
  mutations = changed_part change.put.mutations change.ended.mutations stamp h.mutations;
  namings = changed_namings next change.put.mutations stamp h.namings;
  mandates = changed_mandates change.put.mandates change.ended.mandates stamp h.mandates;
}
