-- The effect of writing a change on the versions: as in `Changed`, but no version is closed for an inserted
-- record of a new object, whose number is not below the next number. The history of a sound register has no
-- current version with such a number, so there both effects are the same (`Laws.WritesCloseAll`).
use Rattle.std.specs.Prelude.{ℕ, ℤ, nat_lt, List, ◌++◌, filter}
use Rattle.std.specs.Ordering.{eq_by_cmp}
use Rattle.land_core.specs.Grants.{grant_cmp}
use Rattle.land_core.specs.Mandates.{mandate_cmp}
use Rattle.land_core.specs.Members.{Members}
use Rattle.land_core.specs.declared.change.Change.{Change}
use Rattle.land_core.specs.declared.mandates.Mandate.{Mandate}
use Rattle.land_core.specs.declared.roles.Grant.{Grant}
use Rattle.land_tables_history.specs.Changed.{changed_namings, changed_versions, is_key_among, is_changed}
use Rattle.land_tables_history.specs.Changed.{listed_members}
use Rattle.land_tables_history.specs.declared.group_member.GroupMember.{GroupMember}
use Rattle.land_tables_history.specs.declared.history.History.{History}
use Rattle.land_tables_history.specs.declared.version.Version.{Version}

-- the records of existing objects, whose numbers are below the next number
abbrev pub existing_records : {X : Type 0} → (number : X → ℕ) → (next : ℕ) → List X → List X
existing_records number next put = filter (λ x. nat_lt (number x) next) put

-- records: inserted ones start, and current versions of an ended or an existing inserted number end
abbrev pub written_part : {V : Type 0} → (next : ℕ) → (put : List (ℕ × V)) → (ended : List ℕ) → (stamp : ℤ)
    → List (Version (ℕ × V)) → List (Version (ℕ × V))
written_part next put ended stamp versions =
    changed_versions put (λ e. is_changed (existing_records (λ x. x.0) next put) ended e.0) stamp versions

-- roles: granted ones start, and current versions of revoked ones end, or of granted ones of existing parties
abbrev pub written_roles : (next : ℕ) → (put ended : List Grant) → (stamp : ℤ) → List (Version Grant)
    → List (Version Grant)
written_roles next put ended stamp versions =
    changed_versions put
    (λ grant. is_key_among (eq_by_cmp grant_cmp) (existing_records (λ x. x.party) next put ++ ended) grant)
    stamp versions

-- mandates: new ones start, and current versions of withdrawn ones end, or of new ones of existing principals
abbrev pub written_mandates : (next : ℕ) → (put ended : List Mandate) → (stamp : ℤ) → List (Version Mandate)
    → List (Version Mandate)
written_mandates next put ended stamp versions =
    changed_versions put
    (λ mandate.
    is_key_among (eq_by_cmp mandate_cmp) (existing_records (λ x. x.principal) next put ++ ended) mandate)
    stamp versions

-- members: those of inserted groups start, and current members of an ended or an existing inserted group end
abbrev pub written_members : (next : ℕ) → (put : List (ℕ × Members)) → (ended : List ℕ) → (stamp : ℤ)
    → List (Version GroupMember) → List (Version GroupMember)
written_members next put ended stamp versions =
    changed_versions (listed_members put)
    (λ e. is_changed (existing_records (λ x. x.0) next put) ended e.group) stamp versions

-- the history that a write of a change leaves, if the register had this next number
abbrev pub written_history : (next : ℕ) → Change → (stamp : ℤ) → History → History
written_history next change stamp h = record {
  parties = written_part next change.put.parties change.ended.parties stamp h.parties;
  roles = written_roles next change.put.roles change.ended.roles stamp h.roles;
  members = written_members next change.put.members change.ended.members stamp h.members;
  units = written_part next change.put.units change.ended.units stamp h.units;
  parcels = written_part next change.put.parcels change.ended.parcels stamp h.parcels;
  rrrs = written_part next change.put.rrrs change.ended.rrrs stamp h.rrrs;
  sources = written_part next change.put.sources change.ended.sources stamp h.sources;
  mutations = written_part next change.put.mutations change.ended.mutations stamp h.mutations;
  namings = changed_namings next change.put.mutations stamp h.namings;
  mandates = written_mandates next change.put.mandates change.ended.mandates stamp h.mandates;
}
