-- A change of the register keeps all intervals valid.
use Rattle.std.proofs.Common.{◌≡◌, ℕ, Bool, true, false, ◌&&◌, List, ◌∷◌, ◌++◌, refl, sym, subst, ◌∙◌, arith, IsPermutation}
use Rattle.std.specs.Prelude.{ℤ, ◌<ℤ◌, ◌≤ℤ◌}
use Rattle.std.specs.FinMap.{FinMap}
use Rattle.std.specs.List.{AllByRecursion}
use Rattle.std.specs.Ordering.{eq_by_cmp, nat_cmp}
use Rattle.std.proofs.lemmas.Int.{ints}
use Rattle.land_core.specs.Changes.{NamesKeysOnce, after}
use Rattle.land_core.specs.Entries.{are_distinct}
use Rattle.land_core.specs.Grants.{grant_cmp}
use Rattle.land_core.specs.Mandates.{mandate_cmp}
use Rattle.land_core.specs.Soundness.{IsSound}
use Rattle.land_core.specs.declared.change.Change.{Change}
use Rattle.land_core.specs.declared.register.Register.{Register}
use Rattle.land_tables_history.proofs.Changes.{change_stands}
use Rattle.land_tables_history.proofs.Distinct.{distinct_permuted}
use Rattle.land_tables_history.proofs.KeptKeys.{grants_once, mandates_once, members_once, numbers_once}
use Rattle.land_tables_history.proofs.KeptVersions.{all_end_by, kept, standing_still}
use Rattle.land_tables_history.proofs.Keys.{grants_flip, mandates_flip, members_flip, namings_flip, numbers_flip}
use Rattle.land_tables_history.proofs.NamingLists.{namings_distinct}
use Rattle.land_tables_history.proofs.Proper.{AllProper, Proper, all_proper}
use Rattle.land_tables_history.specs.Changed.{changed_history, changed_part, changed_versions, is_key_among, is_changed, listed_members, named_by, new_mutations}
use Rattle.land_tables_history.specs.History.{IsRegisterAt}
use Rattle.land_tables_history.specs.Intervals.{are_intervals, has_intervals, is_same_grant, is_same_mandate, is_same_member, is_same_naming, is_same_number}
use Rattle.land_tables_history.specs.Laws.{ChangesKeepIntervals, PutsMutations}
use Rattle.land_tables_history.specs.Open.{have_ended, never}
use Rattle.land_tables_history.specs.Standing.{IsPartAt, current_values}
use Rattle.land_tables_history.specs.declared.history.History.{History}
use Rattle.land_tables_history.specs.declared.moment.Moment.{Moment}
use Rattle.land_tables_history.specs.declared.version.Version.{Version}

ten : (a b c d e f g h i j : Bool) → a ≡ true → b ≡ true → c ≡ true → d ≡ true → e ≡ true → f ≡ true → g ≡ true → h ≡ true → i ≡ true → j ≡ true
    → (a && b && c && d && e && f && g && h && i && j) ≡ true
ten a b c d e f g h i j p q r s t u v w x y = rw (p, q, r, s, t, u, v, w, x, y) refl

module _ (moments : List Moment) (last stamp : ℤ) (by : AllByRecursion (λ (m : Moment). m.stamp ≤ℤ last) moments)
    (less : last <ℤ stamp) (early : stamp <ℤ never) where
  -- ---- one kind of versions

  -- a version that was current at the last stamp is current until the next
  still : {X : Type 0} {same : X → X → Bool} (vs : List (Version X)) (them : List X) → Proper same moments vs
      → IsPermutation (current_values last vs) them → IsPermutation (current_values stamp vs) them
  still vs them proper p = subst (λ l. IsPermutation l them) (sym (standing_still moments last by stamp less early vs proper.intervals)) p

  module _ (next : ℕ) where
    abbrev more : List Moment
    more = record { stamp = stamp; next = next } ∷ moments

    -- no key is current twice with the change, so the intervals stay valid
    versions_kept : {X : Type 0} (same : X → X → Bool) → ((x y : X) → same x y ≡ same y x)
        → (put : List X) (meant : X → Bool) (vs : List (Version X)) (them : List X)
        → Proper same moments vs → IsPermutation (current_values stamp (changed_versions put meant stamp vs)) them → are_distinct same them ≡ true
        → are_intervals same more (changed_versions put meant stamp vs) ≡ true
    versions_kept same flips put meant vs them proper p once =
        kept moments last by stamp less early next same meant put vs proper
        (sym (distinct_permuted same flips (current_values stamp (changed_versions put meant stamp vs)) them p) ∙ once)

    part_kept : {V : Type 0} (put : List (ℕ × V)) (ended : List ℕ) (vs : List (Version (ℕ × V))) (m : FinMap nat_cmp V)
        → Proper is_same_number moments vs → IsPartAt stamp (changed_part put ended stamp vs) m → are_intervals is_same_number more (changed_part put ended stamp vs) ≡ true
    part_kept put ended vs m proper p = versions_kept is_same_number numbers_flip put (λ e. is_changed put ended e.0) vs _ proper p (numbers_once m)

  -- ---- all spans

  module _ (h : History) (intervals : has_intervals moments h ≡ true) where
    proper : AllProper moments h
    proper = all_proper moments h intervals

    all_ended : have_ended last h ≡ true
    all_ended =
        ten _ _ _ _ _ _ _ _ _ _
        (all_end_by moments last by h.parties proper.parties.intervals)
        (all_end_by moments last by h.roles proper.roles.intervals)
        (all_end_by moments last by h.members proper.members.intervals)
        (all_end_by moments last by h.units proper.units.intervals)
        (all_end_by moments last by h.parcels proper.parcels.intervals)
        (all_end_by moments last by h.rrrs proper.rrrs.intervals)
        (all_end_by moments last by h.sources proper.sources.intervals)
        (all_end_by moments last by h.mutations proper.mutations.intervals)
        (all_end_by moments last by h.namings proper.namings.intervals)
        (all_end_by moments last by h.mandates proper.mandates.intervals)

    stands_still : (r : Register) → IsRegisterAt last h r → IsRegisterAt stamp h r
    stands_still r stands = record {
      parties = still h.parties _ proper.parties stands.parties;
      roles = still h.roles _ proper.roles stands.roles;
      members = still h.members _ proper.members stands.members;
      units = still h.units _ proper.units stands.units;
      parcels = still h.parcels _ proper.parcels stands.parcels;
      rrrs = still h.rrrs _ proper.rrrs stands.rrrs;
      sources = still h.sources _ proper.sources stands.sources;
      mutations = still h.mutations _ proper.mutations stands.mutations;
      namings = still h.namings _ proper.namings stands.namings;
      mandates = still h.mandates _ proper.mandates stands.mandates;
    }

    module _ (change : Change) (r : Register) (once : NamesKeysOnce change) (puts : PutsMutations r change)
        (stands : IsRegisterAt last h r) (sound : IsSound (after change r)) where
      stands_now : IsRegisterAt stamp (changed_history r.next change stamp h) (after change r)
      stands_now = change_stands change last stamp stamp h r all_ended less (omega (arith, ints)) early once puts (stands_still r stands)

      are_kept : has_intervals (more change.next) (changed_history r.next change stamp h) ≡ true
      are_kept =
          let now = after change r in
          let put = change.put in
          let over = change.ended in
          ten _ _ _ _ _ _ _ _ _ _
          (part_kept change.next put.parties over.parties h.parties now.parties proper.parties stands_now.parties)
          (versions_kept change.next is_same_grant grants_flip put.roles (λ grant. is_key_among (eq_by_cmp grant_cmp) (put.roles ++ over.roles) grant)
          h.roles _ proper.roles stands_now.roles (grants_once now.roles))
          (versions_kept change.next is_same_member members_flip (listed_members put.members) (λ e. is_changed put.members over.members e.group)
          h.members _ proper.members stands_now.members (members_once now.members))
          (part_kept change.next put.units over.units h.units now.units proper.units stands_now.units)
          (part_kept change.next put.parcels over.parcels h.parcels now.parcels proper.parcels stands_now.parcels)
          (part_kept change.next put.rrrs over.rrrs h.rrrs now.rrrs proper.rrrs stands_now.rrrs)
          (part_kept change.next put.sources over.sources h.sources now.sources proper.sources stands_now.sources)
          (part_kept change.next put.mutations over.mutations h.mutations now.mutations proper.mutations stands_now.mutations)
          (versions_kept change.next is_same_naming namings_flip (named_by (new_mutations r.next put.mutations)) (λ naming. false)
          h.namings _ proper.namings stands_now.namings (namings_distinct now sound))
          (versions_kept change.next is_same_mandate mandates_flip put.mandates (λ mandate. is_key_among (eq_by_cmp mandate_cmp) (put.mandates ++ over.mandates) mandate)
          h.mandates _ proper.mandates stands_now.mandates (mandates_once now.mandates))

pub changes_keep_intervals : ChangesKeepIntervals
changes_keep_intervals moments change last stamp h r intervals by less early once puts stands sound =
    are_kept moments last stamp by less early h intervals change r once puts stands sound
