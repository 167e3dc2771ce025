-- A history is valid if and only if each part of the conditions holds at all commits.
use Rattle.std.proofs.Common.{◌≡◌, ◌↔◌, Bool, true, false, not, ◌&&◌, ◌||◌, List, [], ◌∷◌, refl, sym, ap₂, ◌∙◌}
use Rattle.std.proofs.lemmas.Bool.{false≢true, and_from, and_parts, or_parts}
use Rattle.std.proofs.lemmas.List.Elements.{All-from_recursion, recursion_from_All}
use Rattle.std.specs.List.{All, AllByRecursion}
use Rattle.land_core.specs.Soundness.{IsSound, has_bare_unit, has_broken_group, has_clash, has_crowded_unit, has_dangling_grant, has_dangling_mandate, has_dangling_members, has_dangling_mutation, has_dangling_parcel, has_rank_out_of_range, has_dangling_rrr, has_reused_reference, has_unit_without_whole_shares, has_unused_number, exceeds_last_number}
use Rattle.land_core.specs.declared.register.Register.{Register}
use Rattle.land_core.specs.declared.soundness.Unsound.TheVariants.{Reference, Shares, Group, Bare, Crowded, Twice, Rank, Administrator, Reused, Memory}
use Rattle.land_tables_history.specs.History.{namings_of, register_of_history}
use Rattle.land_tables_history.specs.ValidHistory.{IsValidHistory, IsValidAt, are_moments, are_same_namings}
use Rattle.land_tables_history.specs.Standing.{current_values}
use Rattle.land_tables_history.specs.declared.history.History.{History}
use Rattle.land_tables_history.specs.declared.moment.Moment.{Moment}
use Rattle.land_tables_validity.specs.Conditions.{AreNumbersInRange, HaveNoDuplicates, HaveValidSums, RefsExist, has_no_administrator}
use Rattle.land_tables_validity.specs.NamedUnits.{NamingsAgree}
use Rattle.land_tables_validity.specs.Never.{Never}

-- ---- results combined

pub two : {A B : Type 0} (a b : Bool) → (a ≡ true) ↔ A → (b ≡ true) ↔ B → ((a && b) ≡ true) ↔ (A × B)
two a b p q = (
  λ e. let parts = and_parts a b e in (p.0 parts.0, q.0 parts.1),
  λ it. and_from a b (p.1 it.0) (q.1 it.1),
)

pub five : {A B C D E : Type 0} (a b c d e : Bool) → (a ≡ true) ↔ A → (b ≡ true) ↔ B → (c ≡ true) ↔ C → (d ≡ true) ↔ D → (e ≡ true) ↔ E
    → ((a && b && c && d && e) ≡ true) ↔ ((((A × B) × C) × D) × E)
five a b c d e p q r s t = two (a && b && c && d) e (two (a && b && c) d (two (a && b) c (two a b p q) r) s) t

six : {A B C D E F : Type 0} (a b c d e f : Bool) → (a ≡ true) ↔ A → (b ≡ true) ↔ B → (c ≡ true) ↔ C → (d ≡ true) ↔ D → (e ≡ true) ↔ E → (f ≡ true) ↔ F
    → ((a && b && c && d && e && f) ≡ true) ↔ (((((A × B) × C) × D) × E) × F)
six a b c d e f p q r s t u = two (a && b && c && d && e) f (five a b c d e p q r s t) u

-- ---- one register

eight : {a b c d e f g h : Bool} → a ≡ false → b ≡ false → c ≡ false → d ≡ false → e ≡ false → f ≡ false → g ≡ false → h ≡ false → (a || b || c || d || e || f || g || h) ≡ false
eight p q r s t u v w = ap₂ (λ x y. x || y) (ap₂ (λ x y. x || y) (ap₂ (λ x y. x || y) (ap₂ (λ x y. x || y) (ap₂ (λ x y. x || y) (ap₂ (λ x y. x || y) (ap₂ (λ x y. x || y) p q) r) s) t) u) v) w

-- a register without any of the faults
record IsFree (r : Register) : Type 0 where
  past : exceeds_last_number r ≡ false
  unused : has_unused_number r ≡ false
  grants : has_dangling_grant r ≡ false
  members : has_dangling_members r ≡ false
  parcels : has_dangling_parcel r ≡ false
  entries : has_dangling_rrr r ≡ false
  mutations : has_dangling_mutation r ≡ false
  mandates : has_dangling_mandate r ≡ false
  shares : has_unit_without_whole_shares r ≡ false
  groups : has_broken_group r ≡ false
  bare_units : has_bare_unit r ≡ false
  crowds : has_crowded_unit r ≡ false
  duplicate_rights : has_clash r ≡ false
  ranks : has_rank_out_of_range r ≡ false
  administrator : has_no_administrator r ≡ false
  references : has_reused_reference r ≡ false

sound : (r : Register) → IsFree r → IsSound r
sound r f Reference = eight f.past f.unused f.grants f.members f.parcels f.entries f.mutations f.mandates
sound r f Shares = f.shares
sound r f Group = f.groups
sound r f Bare = f.bare_units
sound r f Crowded = f.crowds
sound r f Twice = f.duplicate_rights
sound r f Rank = f.ranks
sound r f Administrator = f.administrator
sound r f Reused = f.references
sound r f Memory = refl

free : (r : Register) → IsSound r → IsFree r
free r s =
    let h = or_parts (exceeds_last_number r || has_unused_number r || has_dangling_grant r || has_dangling_members r || has_dangling_parcel r || has_dangling_rrr r || has_dangling_mutation r) (has_dangling_mandate r) (s Reference) in
    let g = or_parts (exceeds_last_number r || has_unused_number r || has_dangling_grant r || has_dangling_members r || has_dangling_parcel r || has_dangling_rrr r) (has_dangling_mutation r) h.0 in
    let f = or_parts (exceeds_last_number r || has_unused_number r || has_dangling_grant r || has_dangling_members r || has_dangling_parcel r) (has_dangling_rrr r) g.0 in
    let e = or_parts (exceeds_last_number r || has_unused_number r || has_dangling_grant r || has_dangling_members r) (has_dangling_parcel r) f.0 in
    let d = or_parts (exceeds_last_number r || has_unused_number r || has_dangling_grant r) (has_dangling_members r) e.0 in
    let c = or_parts (exceeds_last_number r || has_unused_number r) (has_dangling_grant r) d.0 in
    let b = or_parts (exceeds_last_number r) (has_unused_number r) c.0 in
    record {
      past = b.0;
      unused = b.1;
      grants = c.1;
      members = d.1;
      parcels = e.1;
      entries = f.1;
      mutations = g.1;
      mandates = h.1;
      shares = s Shares;
      groups = s Group;
      bare_units = s Bare;
      crowds = s Crowded;
      duplicate_rights = s Twice;
      ranks = s Rank;
      administrator = s Administrator;
      references = s Reused;
    }

-- ---- all moments

module _ (h : History) where
  -- one fault at no commit
  abbrev Free : (Register → Bool) → List Moment → Type 0
  Free fault ms = AllByRecursion (λ m. fault (register_of_history m.stamp h m.next) ≡ false) ms

  never : (fault : Register → Bool) (ms : List Moment) → Free fault ms → Never fault ms h
  never fault ms all = All-from_recursion (λ m. fault (register_of_history m.stamp h m.next) ≡ false) ms all

  from_never : (fault : Register → Bool) (ms : List Moment) → Never fault ms h → Free fault ms
  from_never fault ms all = recursion_from_All (λ m. fault (register_of_history m.stamp h m.next) ≡ false) ms all

  record AllFree (ms : List Moment) : Type 0 where
    past : Free exceeds_last_number ms
    unused : Free has_unused_number ms
    grants : Free has_dangling_grant ms
    members : Free has_dangling_members ms
    parcels : Free has_dangling_parcel ms
    entries : Free has_dangling_rrr ms
    mutations : Free has_dangling_mutation ms
    mandates : Free has_dangling_mandate ms
    shares : Free has_unit_without_whole_shares ms
    groups : Free has_broken_group ms
    bare_units : Free has_bare_unit ms
    crowds : Free has_crowded_unit ms
    duplicate_rights : Free has_clash ms
    ranks : Free has_rank_out_of_range ms
    administrator : Free has_no_administrator ms
    references : Free has_reused_reference ms

  abbrev Named : Moment → Type 0
  Named m = are_same_namings (current_values m.stamp h.namings) (namings_of (register_of_history m.stamp h m.next).mutations) ≡ true

  first_free : (m : Moment) (ms : List Moment) → AllFree (m ∷ ms) → IsFree (register_of_history m.stamp h m.next)
  first_free m ms f = record {
    past = f.past.0;
    unused = f.unused.0;
    grants = f.grants.0;
    members = f.members.0;
    parcels = f.parcels.0;
    entries = f.entries.0;
    mutations = f.mutations.0;
    mandates = f.mandates.0;
    shares = f.shares.0;
    groups = f.groups.0;
    bare_units = f.bare_units.0;
    crowds = f.crowds.0;
    duplicate_rights = f.duplicate_rights.0;
    ranks = f.ranks.0;
    administrator = f.administrator.0;
    references = f.references.0;
  }

  rest_free : (m : Moment) (ms : List Moment) → AllFree (m ∷ ms) → AllFree ms
  rest_free m ms f = record {
    past = f.past.1;
    unused = f.unused.1;
    grants = f.grants.1;
    members = f.members.1;
    parcels = f.parcels.1;
    entries = f.entries.1;
    mutations = f.mutations.1;
    mandates = f.mandates.1;
    shares = f.shares.1;
    groups = f.groups.1;
    bare_units = f.bare_units.1;
    crowds = f.crowds.1;
    duplicate_rights = f.duplicate_rights.1;
    ranks = f.ranks.1;
    administrator = f.administrator.1;
    references = f.references.1;
  }

  more_free : (m : Moment) (ms : List Moment) → IsFree (register_of_history m.stamp h m.next) → AllFree ms → AllFree (m ∷ ms)
  more_free m ms f g = record {
    past = (f.past, g.past);
    unused = (f.unused, g.unused);
    grants = (f.grants, g.grants);
    members = (f.members, g.members);
    parcels = (f.parcels, g.parcels);
    entries = (f.entries, g.entries);
    mutations = (f.mutations, g.mutations);
    mandates = (f.mandates, g.mandates);
    shares = (f.shares, g.shares);
    groups = (f.groups, g.groups);
    bare_units = (f.bare_units, g.bare_units);
    crowds = (f.crowds, g.crowds);
    duplicate_rights = (f.duplicate_rights, g.duplicate_rights);
    ranks = (f.ranks, g.ranks);
    administrator = (f.administrator, g.administrator);
    references = (f.references, g.references);
  }

  each_lawful : (ms : List Moment) → AllFree ms → AllByRecursion Named ms → AllByRecursion (IsValidAt h) ms
  each_lawful [] f n = tt
  each_lawful (m ∷ ms) f n = (record { sound = sound (register_of_history m.stamp h m.next) (first_free m ms f); named = n.0 }, each_lawful ms (rest_free m ms f) n.1)

  none_yet : AllFree []
  none_yet = record {
    past = tt;
    unused = tt;
    grants = tt;
    members = tt;
    parcels = tt;
    entries = tt;
    mutations = tt;
    mandates = tt;
    shares = tt;
    groups = tt;
    bare_units = tt;
    crowds = tt;
    duplicate_rights = tt;
    ranks = tt;
    administrator = tt;
    references = tt;
  }

  each_free : (ms : List Moment) → AllByRecursion (IsValidAt h) ms → AllFree ms × AllByRecursion Named ms
  each_free [] l = (none_yet, tt)
  each_free (m ∷ ms) l =
      let rest = each_free ms l.1 in
      (more_free m ms (free (register_of_history m.stamp h m.next) l.0.sound) rest.0, (l.0.named, rest.1))

  module _ (ms : List Moment) where
    -- the five parts together state that each register is sound and its rows of `names` are the references of
    -- its mutations
    pub lawful_each : ((((AreNumbersInRange ms h × RefsExist ms h) × HaveValidSums ms h) × HaveNoDuplicates ms h) × NamingsAgree ms h) ↔ All (IsValidAt h) ms
    lawful_each = (
      λ p. All-from_recursion (IsValidAt h) ms (each_lawful ms (record {
        past = from_never exceeds_last_number ms p.0.0.0.0.past;
        unused = from_never has_unused_number ms p.0.0.0.0.unused;
        grants = from_never has_dangling_grant ms p.0.0.0.1.roles;
        members = from_never has_dangling_members ms p.0.0.0.1.members;
        parcels = from_never has_dangling_parcel ms p.0.0.0.1.parcels;
        entries = from_never has_dangling_rrr ms p.0.0.0.1.entries;
        mutations = from_never has_dangling_mutation ms p.0.0.0.1.mutations;
        mandates = from_never has_dangling_mandate ms p.0.0.0.1.mandates;
        shares = from_never has_unit_without_whole_shares ms p.0.0.1.shares;
        groups = from_never has_broken_group ms p.0.0.1.groups;
        bare_units = from_never has_bare_unit ms p.0.0.1.bare_units;
        crowds = from_never has_crowded_unit ms p.0.0.1.crowds;
        duplicate_rights = from_never has_clash ms p.0.1.entries;
        ranks = from_never has_rank_out_of_range ms p.0.0.0.0.ranks;
        administrator = from_never has_no_administrator ms p.0.0.1.administrator;
        references = from_never has_reused_reference ms p.0.1.references;
      }) (recursion_from_All Named ms p.1)),
      λ l.
          let both = each_free ms (recursion_from_All (IsValidAt h) ms l) in
          let f = both.0 in (
            (
              (
                (
                  record { past = never exceeds_last_number ms f.past; unused = never has_unused_number ms f.unused; ranks = never has_rank_out_of_range ms f.ranks },
                  record { roles = never has_dangling_grant ms f.grants; members = never has_dangling_members ms f.members; parcels = never has_dangling_parcel ms f.parcels; entries = never has_dangling_rrr ms f.entries; mutations = never has_dangling_mutation ms f.mutations; mandates = never has_dangling_mandate ms f.mandates },
                ),
                record { shares = never has_unit_without_whole_shares ms f.shares; crowds = never has_crowded_unit ms f.crowds; bare_units = never has_bare_unit ms f.bare_units; groups = never has_broken_group ms f.groups; administrator = never has_no_administrator ms f.administrator },
              ),
              record { entries = never has_clash ms f.duplicate_rights; references = never has_reused_reference ms f.references },
            ),
            All-from_recursion Named ms both.1,
          ),
    )

-- ---- the result

module _ (ms : List Moment) (h : History) where
  pub all_used : (a : Bool) → (a ≡ true) ↔ (Never exceeds_last_number ms h × Never has_unused_number ms h × Never has_rank_out_of_range ms h) → (a ≡ true) ↔ AreNumbersInRange ms h
  all_used a p = (
    λ yes. let all = p.0 yes in record { past = all.0; unused = all.1; ranks = all.2 },
    λ them. p.1 (them.past, them.unused, them.ranks),
  )

  pub all_refer : (a b c d e f : Bool) → (a ≡ true) ↔ Never has_dangling_grant ms h → (b ≡ true) ↔ Never has_dangling_members ms h → (c ≡ true) ↔ Never has_dangling_parcel ms h
      → (d ≡ true) ↔ Never has_dangling_rrr ms h → (e ≡ true) ↔ Never has_dangling_mutation ms h → (f ≡ true) ↔ Never has_dangling_mandate ms h
      → ((a && b && c && d && e && f) ≡ true) ↔ RefsExist ms h
  all_refer a b c d e f p q r s t u =
      let it = six a b c d e f p q r s t u in (
        λ yes. let all = it.0 yes in record { roles = all.0.0.0.0.0; members = all.0.0.0.0.1; parcels = all.0.0.0.1; entries = all.0.0.1; mutations = all.0.1; mandates = all.1 },
        λ them. it.1 (((((them.roles, them.members), them.parcels), them.entries), them.mutations), them.mandates),
      )

  pub all_whole : (a b c d : Bool) → (a ≡ true) ↔ (Never has_unit_without_whole_shares ms h × Never has_crowded_unit ms h) → (b ≡ true) ↔ Never has_bare_unit ms h
      → (c ≡ true) ↔ Never has_broken_group ms h → (d ≡ true) ↔ Never has_no_administrator ms h → ((a && b && c && d) ≡ true) ↔ HaveValidSums ms h
  all_whole a b c d p q r s =
      let it = two (a && b && c) d (two (a && b) c (two a b p q) r) s in (
        λ yes. let all = it.0 yes in record { shares = all.0.0.0.0; crowds = all.0.0.0.1; bare_units = all.0.0.1; groups = all.0.1; administrator = all.1 },
        λ them. it.1 ((((them.shares, them.crowds), them.bare_units), them.groups), them.administrator),
      )

  pub all_once : (a b : Bool) → (a ≡ true) ↔ Never has_clash ms h → (b ≡ true) ↔ Never has_reused_reference ms h → ((a && b) ≡ true) ↔ HaveNoDuplicates ms h
  all_once a b p q =
      let it = two a b p q in (
        λ yes. let all = it.0 yes in record { entries = all.0; references = all.1 },
        λ them. it.1 (them.entries, them.references),
      )

  pub valid_history : are_moments ms ≡ true → RefsExist ms h → (a b c d : Bool) → (a ≡ true) ↔ AreNumbersInRange ms h → (b ≡ true) ↔ HaveValidSums ms h
      → (c ≡ true) ↔ HaveNoDuplicates ms h → (d ≡ true) ↔ NamingsAgree ms h → ((a && b && c && d) ≡ true) ↔ IsValidHistory ms h
  valid_history moments refer a b c d p q r s =
      let it = two (a && b && c) d (two (a && b) c (two a b p q) r) s in
      let law = lawful_each h ms in (
        λ yes. let all = it.0 yes in record { moments = moments; each = law.0 ((((all.0.0.0, refer), all.0.0.1), all.0.1), all.1) },
        λ them. let all = law.1 them.each in it.1 (((all.0.0.0.0, all.0.0.1), all.0.1), all.1),
      )

  -- a history that fails a part is not valid
  pub unreferred : (a : Bool) → a ≡ false → (a ≡ true) ↔ RefsExist ms h → (false ≡ true) ↔ IsValidHistory ms h
  unreferred a is p = (
    λ e. absurd (false≢true e),
    λ them. let all = (lawful_each h ms).1 them.each in sym is ∙ p.1 all.0.0.0.1,
  )

  pub unlawful : are_moments ms ≡ false → (false ≡ true) ↔ IsValidHistory ms h
  unlawful none = (
    λ e. absurd (false≢true e),
    λ them. sym none ∙ them.moments,
  )
