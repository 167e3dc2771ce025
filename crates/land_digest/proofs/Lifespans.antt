-- Valid lifespans are disjoint for each key, and valid stamps are distinct.
use Rattle.std.proofs.Common.{◌≡◌, ℕ, ℤ, ◌<ℤ◌, int_lt, int_eq, Bool, true, not, ◌&&◌, ◌||◌, List, []}
use Rattle.std.proofs.Common.{◌∷◌, inl, inr, refl, sym, ap, ◌∙◌, arith, subst}
use Rattle.std.proofs.lemmas.Bool.{false≢true, and_parts, not-true}
use Rattle.std.proofs.lemmas.Bool.Decides.{nat_tests}
use Rattle.std.proofs.lemmas.Int.{ints}
use Rattle.std.specs.List.{AllByRecursion, list_all, list_any}
use Rattle.land_core.specs.Entries.{are_distinct}
use Rattle.land_digest.proofs.Membership.{In}
use Rattle.land_digest.proofs.NoRepeats.{HasNoRepeat}
use Rattle.land_digest.proofs.OneTable.{AreDisjoint, none_in}
use Rattle.land_digest.specs.Versions.{Row}
use Rattle.land_tables_history.specs.Intervals.{are_intervals, has_intervals, is_interval, is_same_grant}
use Rattle.land_tables_history.specs.Intervals.{is_same_mandate, is_same_member, is_same_naming}
use Rattle.land_tables_history.specs.Intervals.{is_same_number, is_stamp, overlap}
use Rattle.land_tables_history.specs.Open.{never}
use Rattle.land_tables_history.specs.Pairs.{is_same_pair}
use Rattle.land_tables_history.specs.ValidHistory.{is_same_stamp}
use Rattle.land_tables_history.specs.declared.history.History.{History}
use Rattle.land_tables_history.specs.declared.moment.Moment.{Moment}
use Rattle.land_tables_history.specs.declared.version.Version.{Version}

-- ---- keys

abbrev pub key_of : {X : Type 0} → (X → Row) → X → ℕ × ℕ
key_of row x = ((row x).first, (row x).second)

pair_itself : (a : ℕ × ℕ) → is_same_pair a a ≡ true
pair_itself a = grind (arith, nat_tests)

-- values whose rows have one key have the same key
abbrev pub ComparesKeys : {X : Type 0} → (X → X → Bool) → (X → Row) → Type 0
ComparesKeys {X} same row = (a b : X) → key_of row a ≡ key_of row b → same a b ≡ true

pub by_pairs : {X : Type 0} (same : X → X → Bool) (row : X → Row)
    → ((a b : X) → same a b ≡ is_same_pair (key_of row a) (key_of row b)) → ComparesKeys same row
by_pairs same row pairs a b e =
    pairs a b ∙ ap (is_same_pair (key_of row a)) (sym e) ∙ pair_itself (key_of row a)

-- ---- lifespans

lt_from : (a b : ℤ) → int_lt a b ≡ true → a <ℤ b
lt_from a b h = grind (arith, ints)

pub all_in : {X : Type 0} (p : X → Bool) (x : X) (xs : List X) → list_all p xs ≡ true → In x xs → p x ≡ true
all_in p x [] h i = elim i [ ]
all_in p x (y ∷ ys) h (inl e) = ap p (sym e) ∙ (and_parts (p y) (list_all p ys) h).0
all_in p x (y ∷ ys) h (inr i) = all_in p x ys (and_parts (p y) (list_all p ys) h).1 i

disjoint : {X : Type 0} (same : X → X → Bool) (moments : List Moment) (vs : List (Version X))
    → are_intervals same moments vs ≡ true → AreDisjoint same vs
disjoint {X} same moments vs valid = record {
  apart = parts.1;
  positive = λ v i. positive v (all_in (is_interval moments) v vs parts.0 i);
}
  where
    parts : (list_all (is_interval moments) vs ≡ true) × (are_distinct (overlap same) vs ≡ true)
    parts = and_parts (list_all (is_interval moments) vs) (are_distinct (overlap same) vs) valid

    positive : (v : Version X) → is_interval moments v ≡ true → v.since <ℤ v.until
    positive v h =
        let two =
        and_parts (int_lt v.since v.until && is_stamp moments v.since)
        (int_eq v.until never || is_stamp moments v.until) h in
        lt_from v.since v.until (and_parts (int_lt v.since v.until) (is_stamp moments v.since) two.0).0

pub record AllDisjoint (h : History) : Type 0 where
  pub parties : AreDisjoint is_same_number h.parties
  pub roles : AreDisjoint is_same_grant h.roles
  pub members : AreDisjoint is_same_member h.members
  pub units : AreDisjoint is_same_number h.units
  pub parcels : AreDisjoint is_same_number h.parcels
  pub rrrs : AreDisjoint is_same_number h.rrrs
  pub sources : AreDisjoint is_same_number h.sources
  pub mutations : AreDisjoint is_same_number h.mutations
  pub namings : AreDisjoint is_same_naming h.namings
  pub mandates : AreDisjoint is_same_mandate h.mandates

record AllTrue (a b c d e f g h i j : Bool) : Type 0 where
  one : a ≡ true
  two : b ≡ true
  three : c ≡ true
  four : d ≡ true
  five : e ≡ true
  six : f ≡ true
  seven : g ≡ true
  eight : h ≡ true
  nine : i ≡ true
  ten : j ≡ true

all_true : (a b c d e f g h i j : Bool) → (a && b && c && d && e && f && g && h && i && j) ≡ true
    → AllTrue a b c d e f g h i j
all_true a b c d e f g h i j all =
    let to_i = and_parts (a && b && c && d && e && f && g && h && i) j all in
    let to_h = and_parts (a && b && c && d && e && f && g && h) i to_i.0 in
    let to_g = and_parts (a && b && c && d && e && f && g) h to_h.0 in
    let to_f = and_parts (a && b && c && d && e && f) g to_g.0 in
    let to_e = and_parts (a && b && c && d && e) f to_f.0 in
    let to_d = and_parts (a && b && c && d) e to_e.0 in
    let to_c = and_parts (a && b && c) d to_d.0 in
    let to_b = and_parts (a && b) c to_c.0 in
    let to_a = and_parts a b to_b.0 in
    record {
      one = to_a.0;
      two = to_a.1;
      three = to_b.1;
      four = to_c.1;
      five = to_d.1;
      six = to_e.1;
      seven = to_f.1;
      eight = to_g.1;
      nine = to_h.1;
      ten = to_i.1;
    }

pub all_disjoint : (moments : List Moment) (h : History) → has_intervals moments h ≡ true → AllDisjoint h
all_disjoint moments h valid =
    let it = all_true _ _ _ _ _ _ _ _ _ _ valid in
    record {
      parties = disjoint is_same_number moments h.parties it.one;
      roles = disjoint is_same_grant moments h.roles it.two;
      members = disjoint is_same_member moments h.members it.three;
      units = disjoint is_same_number moments h.units it.four;
      parcels = disjoint is_same_number moments h.parcels it.five;
      rrrs = disjoint is_same_number moments h.rrrs it.six;
      sources = disjoint is_same_number moments h.sources it.seven;
      mutations = disjoint is_same_number moments h.mutations it.eight;
      namings = disjoint is_same_naming moments h.namings it.nine;
      mandates = disjoint is_same_mandate moments h.mandates it.ten;
    }

-- ---- stamps

equal_stamps : (a b : ℤ) → a ≡ b → int_eq a b ≡ true
equal_stamps a b e = grind (arith, ints)

pub no_repeat_moments : (ms : List Moment) → are_distinct is_same_stamp ms ≡ true → HasNoRepeat ms
no_repeat_moments [] h = tt
no_repeat_moments (m ∷ ms) h =
    let parts = and_parts (not (list_any (is_same_stamp m) ms)) (are_distinct is_same_stamp ms) h in (
      λ i. false≢true (
          sym (none_in (is_same_stamp m) m ms (not-true (list_any (is_same_stamp m) ms) parts.0) i)
          ∙ equal_stamps m.stamp m.stamp refl
          ),
      no_repeat_moments ms parts.1,
    )

-- ---- facts on each element

pub each_in : {X : Type 0} (P : X → Type 0) (xs : List X) → AllByRecursion P xs → (x : X) → In x xs → P x
each_in P [] all x i = elim i [ ]
each_in P (y ∷ ys) all x (inl e) = subst P e all.0
each_in P (y ∷ ys) all x (inr i) = each_in P ys all.1 x i
