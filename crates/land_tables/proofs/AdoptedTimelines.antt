-- The versions of a valid history represent a timeline: the one that they yield.
use Rattle.std.proofs.Common.{◌≡◌, ℕ, Bool, true, false, cond, ◌&&◌, List, [], ◌∷◌, flat_map, map as map_list, Option, Some, None, refl, sym, ap, ◌∙◌, subst, arith, IsPermutation}
use Rattle.std.specs.Prelude.{ℤ, ◌<ℤ◌, ◌≤ℤ◌, int_le, nat_lt, length}
use Rattle.std.proofs.lemmas.Bool.{false≢true, and_parts}
use Rattle.std.proofs.lemmas.Int.{ints}
use Rattle.std.proofs.lemmas.List.Elements.{recursion_from_All}
use Rattle.std.proofs.lemmas.List.Sorted.{All-permutation, IsPermutation-refl, IsPermutation-sym, length_permutation}
use Rattle.std.specs.FinMap as map
use Rattle.std.specs.List.{AllByRecursion, list_all}
use Rattle.std.specs.Ordering.{int_eq, nat_cmp}
use Rattle.land_core.specs.Entries.{are_distinct}
use Rattle.land_core.specs.Grants.{grant_cmp, grants_in}
use Rattle.land_core.specs.Mandates.{mandate_cmp, mandates_in}
use Rattle.land_core.specs.Numbers.{IsMoment, last_moment}
use Rattle.land_core.specs.Register.{empty_register}
use Rattle.land_core.specs.Soundness.{IsSound}
use Rattle.land_core.specs.declared.mandates.Mandate.{Mandate}
use Rattle.land_core.specs.declared.mutation.MutationRecord.{MutationRecord}
use Rattle.land_core.specs.declared.register.Register.{Register}
use Rattle.land_core.specs.declared.roles.Grant.{Grant}
use Rattle.land_keep.specs.Timeline.{IsSoundTimeline, IncreasesFrom, last_stamp}
use Rattle.land_keep.specs.declared.timeline.Version.{Version as Begun}
use Rattle.land_tables.proofs.Between.{all_ended, all_later, none_after, none_standing, reached, same_standing}
use Rattle.land_tables.proofs.One.{found_at, registered}
use Rattle.land_tables.proofs.Rising.{Orderly, in_order_permuted, orderly, rises_from}
use Rattle.land_tables.proofs.Sorting.{is_late}
use Rattle.land_tables.specs.Timelines.{sorted_moments, version_moment, version_of}
use Rattle.land_tables.specs.Timelines.Laws.{ValidHistoriesRepresentTimelines}
use Rattle.land_tables_history.proofs.Distinct.{distinct_standing}
use Rattle.land_tables_history.proofs.Entered.{made_mandates, made_part, made_roles, no_entries}
use Rattle.land_tables_history.proofs.MadeGroups.{made_groups, no_groups}
use Rattle.land_tables_history.proofs.MomentOrder.{le_from}
use Rattle.land_tables_history.proofs.NamingLists.{namings_distinct, same_namings}
use Rattle.land_tables_history.proofs.Permutations.{any_permuted}
use Rattle.land_tables_history.proofs.Proper.{AllProper, Proper, all_proper}
use Rattle.land_tables_history.specs.History as history
use Rattle.land_tables_history.specs.History.{IsRegisterAt, namings_of, register_of_history}
use Rattle.land_tables_history.specs.Intervals.{is_same_grant, is_same_mandate, is_same_member, is_same_naming, is_same_number, is_stamp}
use Rattle.land_tables_history.specs.ValidHistory.{IsValidAt, is_same_stamp, never_decreases}
use Rattle.land_tables_history.specs.Open.{has_ended, have_ended}
use Rattle.land_tables_history.specs.Standing.{IsPartAt, part_at, current_values}
use Rattle.land_tables_history.specs.declared.history.History.{History}
use Rattle.land_tables_history.specs.declared.moment.Moment.{Moment}
use Rattle.land_tables_history.specs.declared.naming.Naming.{Naming}
use Rattle.land_tables_history.specs.declared.version.Version.{Version}

-- ---- the versions at a stamp

part_stands : {V : Type 0} (moments : List Moment) (t : ℤ) (vs : List (Version (ℕ × V))) → Proper is_same_number moments vs → IsPartAt t vs (part_at t vs)
part_stands moments t vs p = made_part (current_values t vs) (distinct_standing is_same_number t vs p.apart)

-- at a moment at which a history is valid, its versions represent the register that they form
stands_there : (moments : List Moment) (h : History) (m : Moment) → AllProper moments h → IsValidAt h m → IsRegisterAt m.stamp h (register_of_history m.stamp h m.next)
stands_there moments h m p valid_history = record {
  parties = part_stands moments m.stamp h.parties p.parties;
  roles = made_roles (current_values m.stamp h.roles) (distinct_standing is_same_grant m.stamp h.roles p.roles.apart);
  members = made_groups (current_values m.stamp h.members) (distinct_standing is_same_member m.stamp h.members p.members.apart);
  units = part_stands moments m.stamp h.units p.units;
  parcels = part_stands moments m.stamp h.parcels p.parcels;
  rrrs = part_stands moments m.stamp h.rrrs p.rrrs;
  sources = part_stands moments m.stamp h.sources p.sources;
  mutations = part_stands moments m.stamp h.mutations p.mutations;
  namings = same_namings (current_values m.stamp h.namings) (namings_of (register_of_history m.stamp h m.next).mutations)
      (distinct_standing is_same_naming m.stamp h.namings p.namings.apart) (namings_distinct (register_of_history m.stamp h m.next) valid_history.sound) valid_history.named;
  mandates = made_mandates (current_values m.stamp h.mandates) (distinct_standing is_same_mandate m.stamp h.mandates p.mandates.apart);
}

-- ---- and until the next stamp

-- the versions at two moments without a stamp between them
stands_still : (moments : List Moment) (h : History) (s t : ℤ) (r : Register) → AllProper moments h → s ≤ℤ t → t ≤ℤ last_moment
    → ((u : ℤ) → is_stamp moments u ≡ true → int_le u t ≡ int_le u s) → IsRegisterAt s h r → IsRegisterAt t h r
stands_still moments h s t r p least most same there = record {
  parties = on is_same_number h.parties p.parties there.parties;
  roles = on is_same_grant h.roles p.roles there.roles;
  members = on is_same_member h.members p.members there.members;
  units = on is_same_number h.units p.units there.units;
  parcels = on is_same_number h.parcels p.parcels there.parcels;
  rrrs = on is_same_number h.rrrs p.rrrs there.rrrs;
  sources = on is_same_number h.sources p.sources there.sources;
  mutations = on is_same_number h.mutations p.mutations there.mutations;
  namings = on is_same_naming h.namings p.namings there.namings;
  mandates = on is_same_mandate h.mandates p.mandates there.mandates;
}
  where
    on : {X : Type 0} (alike : X → X → Bool) (vs : List (Version X)) {records : List X} → Proper alike moments vs → IsPermutation (current_values s vs) records → IsPermutation (current_values t vs) records
    on alike vs {records} its there = subst (λ l. IsPermutation l records) (sym (same_standing moments s t vs least most same its.intervals)) there

-- before the first stamp there are no versions
pub nothing_stands : (moments : List Moment) (h : History) (t : ℤ) → AllProper moments h → ((u : ℤ) → is_stamp moments u ≡ true → int_le u t ≡ false) → IsRegisterAt t h empty_register
unfolding grants_in mandates_in
nothing_stands moments h t p none = record {
  parties = on is_same_number h.parties p.parties (no_entries nat_cmp _);
  roles = on is_same_grant h.roles p.roles (ap (map_list (λ (e : Grant × Unit {0}). e.0)) (no_entries grant_cmp (Unit {0})));
  members = on is_same_member h.members p.members no_groups;
  units = on is_same_number h.units p.units (no_entries nat_cmp _);
  parcels = on is_same_number h.parcels p.parcels (no_entries nat_cmp _);
  rrrs = on is_same_number h.rrrs p.rrrs (no_entries nat_cmp _);
  sources = on is_same_number h.sources p.sources (no_entries nat_cmp _);
  mutations = on is_same_number h.mutations p.mutations (no_entries nat_cmp _);
  namings = on is_same_naming h.namings p.namings (no_namings (map.entries (map.empty {X = MutationRecord} {R = nat_cmp})) (no_entries nat_cmp MutationRecord));
  mandates = on is_same_mandate h.mandates p.mandates (ap (map_list (λ (e : Mandate × Unit {0}). e.0)) (no_entries mandate_cmp (Unit {0})));
}
  where
    on : {X : Type 0} (alike : X → X → Bool) (vs : List (Version X)) {records : List X} → Proper alike moments vs → records ≡ [] → IsPermutation (current_values t vs) records
    on alike vs {records} its empty =
        subst (λ l. IsPermutation l records) (sym (none_standing moments t vs none its.intervals)) (subst (λ l. IsPermutation [] l) (sym empty) (IsPermutation-refl []))

    no_namings : (es : List (ℕ × MutationRecord)) → es ≡ [] → namings_of (map.empty {X = MutationRecord} {R = nat_cmp}) ≡ []
    no_namings es e = ap (flat_map (λ (m : ℕ × MutationRecord). map_list (λ unit. let n : Naming = record { mutation = m.0; unit = unit } in n) (history.named_units m.1.content))) (no_entries nat_cmp MutationRecord)

late : (s t : ℤ) → int_le s t ≡ false → t <ℤ s
late s t h = grind (arith, ints)

-- at each moment the versions represent the register of the latest stamp up to it
stands_at : (moments : List Moment) (h : History) (ms : List Moment) (t : ℤ) → AllProper moments h → Orderly h ms → AllByRecursion (IsValidAt h) ms → t ≤ℤ last_moment
    → ((u : ℤ) → is_stamp moments u ≡ true → is_stamp ms u ≡ true) → IsRegisterAt t h (registered (found_at t None (map_list (version_of h) ms)))
stands_at moments h [] t p rises valid_history most all = nothing_stands moments h t p (λ u is. absurd (false≢true (all u is)))
stands_at moments h (m ∷ ms) t p rises valid_history most all = go (int_le m.stamp t) refl
  where
    climbs : IncreasesFrom (version_of h m) (map_list (version_of h) ms)
    climbs = rises_from h m ms rises

    go : (b : Bool) → int_le m.stamp t ≡ b → IsRegisterAt t h (registered (found_at t (cond b (Some (version_of h m)) None) (map_list (version_of h) ms)))
    go true on =
        let r = reached (IsValidAt h) h t m ms climbs valid_history (le_from m.stamp t on) in
        subst (λ (o : Option Begun). IsRegisterAt t h (registered o)) (sym r.is)
        (stands_still moments h r.moment.stamp t (register_of_history r.moment.stamp h r.moment.next) p r.before most (λ u is. r.same u (all u is)) (stands_there moments h r.moment p r.holds))
    go false on =
        subst (λ (o : Option Begun). IsRegisterAt t h (registered o)) (sym (later ms climbs))
        (nothing_stands moments h t p (λ u is. all_later h t m ms (late m.stamp t on) climbs u (all u is)))
      where
        less : (s n : ℤ) → t <ℤ s → s <ℤ n → t <ℤ n
        less s n g k = omega (arith, ints)

        later_from : (n : Moment) (ns : List Moment) → t <ℤ n.stamp → IncreasesFrom (version_of h n) (map_list (version_of h) ns) → found_at t None (map_list (version_of h) ns) ≡ None
        later_from n [] before climbs = refl
        later_from n (k ∷ ks) before climbs =
            let next = less n.stamp k.stamp before climbs.0 in
            ap (λ b. found_at t (cond b (Some (version_of h k)) None) (map_list (version_of h) ks)) (is_late k.stamp t next) ∙ later_from k ks next climbs.2

        later : (ns : List Moment) → IncreasesFrom (version_of h m) (map_list (version_of h) ns) → found_at t None (map_list (version_of h) ns) ≡ None
        later ns climbs = later_from m ns (late m.stamp t on) climbs

-- ---- the whole timeline

same_moments : (h : History) (ms : List Moment) → map_list version_moment (map_list (version_of h) ms) ≡ ms
same_moments h [] = refl
same_moments h (m ∷ ms) = ap (λ l. m ∷ l) (same_moments h ms)

-- a property of each moment is one of the versions that begin at it
of_versions : (h : History) (P : Moment → Type 0) (Q : Begun → Type 0) → ((m : Moment) → P m → Q (version_of h m)) → (ms : List Moment) → AllByRecursion P ms → AllByRecursion Q (map_list (version_of h) ms)
of_versions h P Q to [] all = tt
of_versions h P Q to (m ∷ ms) all = (to m all.0, of_versions h P Q to ms all.1)

ended : (moments : List Moment) (h : History) (ms : List Moment) → AllProper moments h → Orderly h ms → ((u : ℤ) → is_stamp moments u ≡ true → is_stamp ms u ≡ true) → have_ended (last_stamp (map_list (version_of h) ms)) h ≡ true
ended moments h ms p rises all = ten (on is_same_number h.parties p.parties) (on is_same_grant h.roles p.roles) (on is_same_member h.members p.members) (on is_same_number h.units p.units)
    (on is_same_number h.parcels p.parcels) (on is_same_number h.rrrs p.rrrs) (on is_same_number h.sources p.sources) (on is_same_number h.mutations p.mutations) (on is_same_naming h.namings p.namings)
    (on is_same_mandate h.mandates p.mandates)
  where
    ten : {a b c d e f g h i j : Bool} → a ≡ true → b ≡ true → c ≡ true → d ≡ true → e ≡ true → f ≡ true → g ≡ true → h ≡ true → i ≡ true → j ≡ true
        → (a && b && c && d && e && f && g && h && i && j) ≡ true
    ten a b c d e f g h i j = cc

    past : (ns : List Moment) → Orderly h ns → (u : ℤ) → is_stamp ns u ≡ true → int_le u (last_stamp (map_list (version_of h) ns)) ≡ true
    past [] rises u is = absurd (false≢true is)
    past (m ∷ ns) rises u is = none_after h m ns (rises_from h m ns rises) u is

    on : {X : Type 0} (alike : X → X → Bool) (vs : List (Version X)) → Proper alike moments vs → list_all (has_ended (last_stamp (map_list (version_of h) ms))) vs ≡ true
    on alike vs its = all_ended moments (last_stamp (map_list (version_of h) ms)) vs (λ u is. past ms rises u (all u is)) its.intervals

-- sorted moments, of which there is at least one
timeline_rises : (h : History) (ms : List Moment) → Orderly h ms → nat_lt 0 (length ms) ≡ true → AllByRecursion (λ m. IsMoment m.stamp) ms → AllByRecursion (IsValidAt h) ms → IsSoundTimeline (map_list (version_of h) ms)
timeline_rises h [] rises some moments valid_history = absurd (false≢true some)
timeline_rises h (m ∷ ms) rises some moments valid_history = record {
  rising = rises_from h m ms rises;
  moments = of_versions h (λ m. IsMoment m.stamp) (λ v. IsMoment v.stamp) (λ m is. is) (m ∷ ms) moments;
  sound = of_versions h (IsValidAt h) (λ v. IsSound v.register) (λ m is. is.sound) (m ∷ ms) valid_history;
}

pub lawful_stands : ValidHistoriesRepresentTimelines
lawful_stands moments h at_moments intervals valid_history =
    let p = all_proper moments h intervals in
    let ms = sorted_moments moments in
    let sorted : IsPermutation moments ms = IsPermutation-sym ms moments (in_order_permuted moments) in
    let two = and_parts (nat_lt 0 (length moments) && are_distinct is_same_stamp moments) (never_decreases moments) valid_history.moments in
    let one = and_parts (nat_lt 0 (length moments)) (are_distinct is_same_stamp moments) two.0 in
    let rises = orderly h moments one.1 two.1 in
    let each = recursion_from_All (IsValidAt h) ms (All-permutation (IsValidAt h) moments ms sorted valid_history.each) in
    let stamps : AllByRecursion (λ m. IsMoment m.stamp) ms = recursion_from_All (λ m. IsMoment m.stamp) ms (All-permutation (λ m. IsMoment m.stamp) moments ms sorted at_moments) in
    let same_stamps : (u : ℤ) → is_stamp moments u ≡ true → is_stamp ms u ≡ true = λ u is. any_permuted (λ m. int_eq m.stamp u) moments ms sorted ∙ is in (
      record {
        moments = subst (λ l. IsPermutation l moments) (sym (same_moments h ms)) (in_order_permuted moments);
        stands = λ t is. stands_at moments h ms t p rises each is.1 same_stamps;
        ended = ended moments h ms p rises same_stamps;
      },
      timeline_rises h ms rises (some moments ms sorted one.0) stamps each,
    )
  where
    some : (xs ys : List Moment) → IsPermutation xs ys → nat_lt 0 (length xs) ≡ true → nat_lt 0 (length ys) ≡ true
    some xs ys p h = ap (λ n. nat_lt 0 n) (length_permutation xs ys p) ∙ h
