-- Changes: entries that are inserted or updated, and keys that are removed.
use Rattle.std.specs.Prelude.{◌≡◌, ℕ, true, [], ◌++◌, nat_eq, map as map_list}
use Rattle.std.specs.Ordering.{eq_by_cmp}
use Rattle.land_core.specs.Entries.{with_changes, are_distinct}
use Rattle.land_core.specs.Grants.{set_entries, grant_cmp}
use Rattle.land_core.specs.Mandates.{mandate_cmp}
use Rattle.land_core.specs.declared.change.Change.{Change}
use Rattle.land_core.specs.declared.change.Ended.{Ended}
use Rattle.land_core.specs.declared.change.Put.{Put}
use Rattle.land_core.specs.declared.register.Register.{Register}

-- no entries to insert
abbrev pub no_put : Put
no_put = record {
  parties = [];
  roles = [];
  members = [];
  units = [];
  parcels = [];
  rrrs = [];
  sources = [];
  mutations = [];
  mandates = [];
}

abbrev pub no_ended : Ended
no_ended = record {
  parties = [];
  roles = [];
  members = [];
  units = [];
  parcels = [];
  rrrs = [];
  sources = [];
  mutations = [];
  mandates = [];
}

-- the empty change
abbrev pub no_change : (next : ℕ) → Change
no_change next = record { put = no_put; ended = no_ended; next = next }

-- the register after a change
abbrev pub after : Change → Register → Register
after change r = record {
  parties = with_changes r.parties change.put.parties change.ended.parties;
  roles = with_changes r.roles (set_entries change.put.roles) change.ended.roles;
  members = with_changes r.members change.put.members change.ended.members;
  units = with_changes r.units change.put.units change.ended.units;
  parcels = with_changes r.parcels change.put.parcels change.ended.parcels;
  rrrs = with_changes r.rrrs change.put.rrrs change.ended.rrrs;
  sources = with_changes r.sources change.put.sources change.ended.sources;
  mutations = with_changes r.mutations change.put.mutations change.ended.mutations;
  mandates = with_changes r.mandates (set_entries change.put.mandates) change.ended.mandates;
  next = change.next;
}

-- no key of a map occurs twice in the change, whether inserted or removed
pub record NamesKeysOnce (change : Change) : Type 0 where
  pub parties : are_distinct nat_eq (map_list (λ e. e.0) change.put.parties ++ change.ended.parties) ≡ true
  pub roles : are_distinct (eq_by_cmp grant_cmp) (change.put.roles ++ change.ended.roles) ≡ true
  pub members : are_distinct nat_eq (map_list (λ e. e.0) change.put.members ++ change.ended.members) ≡ true
  pub units : are_distinct nat_eq (map_list (λ e. e.0) change.put.units ++ change.ended.units) ≡ true
  pub parcels : are_distinct nat_eq (map_list (λ e. e.0) change.put.parcels ++ change.ended.parcels) ≡ true
  pub rrrs : are_distinct nat_eq (map_list (λ e. e.0) change.put.rrrs ++ change.ended.rrrs) ≡ true
  pub sources : are_distinct nat_eq (map_list (λ e. e.0) change.put.sources ++ change.ended.sources) ≡ true
  pub mutations : are_distinct nat_eq (map_list (λ e. e.0) change.put.mutations ++ change.ended.mutations)
      ≡ true
  pub mandates : are_distinct (eq_by_cmp mandate_cmp) (change.put.mandates ++ change.ended.mandates) ≡ true
