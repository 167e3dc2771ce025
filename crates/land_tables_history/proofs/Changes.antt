-- The effect of a change on the current values, before and after its stamp, and on the ends of lifespans.
use Rattle.std.proofs.Common.{◌≡◌, ℕ, ◌++◌, Bool, true, false, ◌&&◌, List, refl, sym, subst, IsPermutation}
use Rattle.std.specs.Prelude.{ℤ, ◌<ℤ◌}
use Rattle.std.specs.List.{list_all}
use Rattle.std.specs.Ordering.{eq_by_cmp}
use Rattle.std.proofs.lemmas.Bool.{and_parts}
use Rattle.land_core.specs.Grants.{grant_cmp}
use Rattle.land_core.specs.Mandates.{mandate_cmp}
use Rattle.land_tables_history.proofs.ChangedGroups.{members_change}
use Rattle.land_tables_history.proofs.ChangedNamings.{namings_change}
use Rattle.land_tables_history.proofs.ChangedParts.{mandates_change, part_changes, roles_change}
use Rattle.land_tables_history.proofs.ChangedVersions.{changed_end, past_versions}
use Rattle.land_tables_history.specs.Changed.{changed_part, changed_versions, is_key_among, is_changed, listed_members, named_by, new_mutations}
use Rattle.land_tables_history.specs.Laws.{ChangesTakeEffect, ChangedHaveEnded, ChangesKeepThePast}
use Rattle.land_tables_history.specs.Open.{has_ended, have_ended, never}
use Rattle.land_tables_history.specs.Standing.{current_values}
use Rattle.land_tables_history.specs.declared.history.History.{History}
use Rattle.land_tables_history.specs.declared.version.Version.{Version}

-- values that were current stay current under a change of the versions
still : {X : Type 0} (put : List X) (meant : X → Bool) (stamp t : ℤ) (versions : List (Version X)) (them : List X) → t <ℤ stamp → t <ℤ never
    → IsPermutation (current_values t versions) them → IsPermutation (current_values t (changed_versions put meant stamp versions)) them
still put meant stamp t versions them less early p = subst (λ l. IsPermutation l them) (sym (past_versions put meant stamp t less early versions)) p

pub past_stands : ChangesKeepThePast
past_stands next change stamp t h r less early stands = record {
  parties = still _ _ stamp t h.parties _ less early stands.parties;
  roles = still _ _ stamp t h.roles _ less early stands.roles;
  members = still _ _ stamp t h.members _ less early stands.members;
  units = still _ _ stamp t h.units _ less early stands.units;
  parcels = still _ _ stamp t h.parcels _ less early stands.parcels;
  rrrs = still _ _ stamp t h.rrrs _ less early stands.rrrs;
  sources = still _ _ stamp t h.sources _ less early stands.sources;
  mutations = still _ _ stamp t h.mutations _ less early stands.mutations;
  namings = still (named_by (new_mutations next change.put.mutations)) (λ naming. false) stamp t h.namings _ less early stands.namings;
  mandates = still _ _ stamp t h.mandates _ less early stands.mandates;
}

-- ---- each kind of versions

record HaveEnded (last : ℤ) (h : History) : Type 0 where
  parties : list_all (has_ended last) h.parties ≡ true
  roles : list_all (has_ended last) h.roles ≡ true
  members : list_all (has_ended last) h.members ≡ true
  units : list_all (has_ended last) h.units ≡ true
  parcels : list_all (has_ended last) h.parcels ≡ true
  rrrs : list_all (has_ended last) h.rrrs ≡ true
  sources : list_all (has_ended last) h.sources ≡ true
  mutations : list_all (has_ended last) h.mutations ≡ true
  namings : list_all (has_ended last) h.namings ≡ true
  mandates : list_all (has_ended last) h.mandates ≡ true

each_ended : (last : ℤ) (h : History) → have_ended last h ≡ true → HaveEnded last h
each_ended last h all =
    let nine = and_parts _ (list_all (has_ended last) h.mandates) all in
    let eight = and_parts _ (list_all (has_ended last) h.namings) nine.0 in
    let seven = and_parts _ (list_all (has_ended last) h.mutations) eight.0 in
    let six = and_parts _ (list_all (has_ended last) h.sources) seven.0 in
    let five = and_parts _ (list_all (has_ended last) h.rrrs) six.0 in
    let four = and_parts _ (list_all (has_ended last) h.parcels) five.0 in
    let three = and_parts _ (list_all (has_ended last) h.units) four.0 in
    let two = and_parts _ (list_all (has_ended last) h.members) three.0 in
    let one = and_parts (list_all (has_ended last) h.parties) (list_all (has_ended last) h.roles) two.0 in
    record { parties = one.0; roles = one.1; members = two.1; units = three.1; parcels = four.1; rrrs = five.1; sources = six.1; mutations = seven.1; namings = eight.1; mandates = nine.1 }

ten : (a b c d e f g h i j : Bool) → a ≡ true → b ≡ true → c ≡ true → d ≡ true → e ≡ true → f ≡ true → g ≡ true → h ≡ true → i ≡ true → j ≡ true
    → (a && b && c && d && e && f && g && h && i && j) ≡ true
ten a b c d e f g h i j p q r s t u v w x y = rw (p, q, r, s, t, u, v, w, x, y) refl

part_ends : {V : Type 0} (put : List (ℕ × V)) (ended : List ℕ) (last stamp : ℤ) → last <ℤ stamp → (versions : List (Version (ℕ × V))) → list_all (has_ended last) versions ≡ true
    → list_all (has_ended stamp) (changed_part put ended stamp versions) ≡ true
part_ends put ended last stamp less versions by_then = changed_end put (λ e. is_changed put ended e.0) stamp last less versions by_then

pub changed_have_ended : ChangedHaveEnded
changed_have_ended next change last stamp h all less =
    let ended = each_ended last h all in
    let put = change.put in
    let over = change.ended in
    ten _ _ _ _ _ _ _ _ _ _
    (part_ends put.parties over.parties last stamp less h.parties ended.parties)
    (changed_end put.roles (λ grant. is_key_among (eq_by_cmp grant_cmp) (put.roles ++ over.roles) grant) stamp last less h.roles ended.roles)
    (changed_end (listed_members put.members) (λ e. is_changed put.members over.members e.group) stamp last less h.members ended.members)
    (part_ends put.units over.units last stamp less h.units ended.units)
    (part_ends put.parcels over.parcels last stamp less h.parcels ended.parcels)
    (part_ends put.rrrs over.rrrs last stamp less h.rrrs ended.rrrs)
    (part_ends put.sources over.sources last stamp less h.sources ended.sources)
    (part_ends put.mutations over.mutations last stamp less h.mutations ended.mutations)
    (changed_end (named_by (new_mutations next put.mutations)) (λ naming. false) stamp last less h.namings ended.namings)
    (changed_end put.mandates (λ mandate. is_key_among (eq_by_cmp mandate_cmp) (put.mandates ++ over.mandates) mandate) stamp last less h.mandates ended.mandates)

-- ---- from the stamp on

pub change_stands : ChangesTakeEffect
change_stands change last stamp t h r all less since early once puts stands =
    let ended = each_ended last h all in
    let put = change.put in
    let over = change.ended in
    record {
      parties = part_changes last stamp t less since early put.parties over.parties h.parties r.parties ended.parties once.parties stands.parties;
      roles = roles_change last stamp t less since early put.roles over.roles h.roles r.roles ended.roles once.roles stands.roles;
      members = members_change last stamp t less since early put.members over.members h.members r.members ended.members once.members stands.members;
      units = part_changes last stamp t less since early put.units over.units h.units r.units ended.units once.units stands.units;
      parcels = part_changes last stamp t less since early put.parcels over.parcels h.parcels r.parcels ended.parcels once.parcels stands.parcels;
      rrrs = part_changes last stamp t less since early put.rrrs over.rrrs h.rrrs r.rrrs ended.rrrs once.rrrs stands.rrrs;
      sources = part_changes last stamp t less since early put.sources over.sources h.sources r.sources ended.sources once.sources stands.sources;
      mutations = part_changes last stamp t less since early put.mutations over.mutations h.mutations r.mutations ended.mutations once.mutations stands.mutations;
      namings = namings_change last stamp t less since early r change h.namings ended.namings once.mutations puts stands.namings;
      mandates = mandates_change last stamp t less since early put.mandates over.mandates h.mandates r.mandates ended.mandates once.mandates stands.mandates;
    }
