-- Moments sorted by their stamps.
use Rattle.std.proofs.Common.{◌≡◌, Bool, true, false, not, cond, ◌||◌, ◌&&◌, List, [], ◌∷◌, map, refl, sym, ap, ◌∙◌, arith, IsPermutation}
use Rattle.std.specs.Prelude.{ℤ, ◌<ℤ◌, ◌≤ℤ◌, int_le}
use Rattle.std.specs.List.{list_any}
use Rattle.std.specs.Ordering.{int_eq}
use Rattle.std.proofs.lemmas.Bool.{false≢true, and_from, and_parts, not-true}
use Rattle.std.proofs.lemmas.Int.{ints}
use Rattle.std.proofs.lemmas.Cmp.{int_eq_equiv}
use Rattle.land_core.proofs.Booleans.{or_turned}
use Rattle.land_core.specs.Entries.{are_distinct}
use Rattle.land_keep.specs.Timeline.{IsIncreasing, IncreasesFrom, Timeline}
use Rattle.land_keep.specs.declared.timeline.Version.{Version}
use Rattle.land_tables.specs.Timelines.{sorted_moments, version_moment, insert_moment}
use Rattle.land_tables_history.proofs.MomentOrder.{le_itself, le_then_lt}
use Rattle.land_tables_history.proofs.Permutations.{along_permutation}
use Rattle.land_tables_history.specs.ValidHistory.{is_same_stamp}
use Rattle.land_tables_history.specs.declared.moment.Moment.{Moment}

-- ---- orders of stamps

pub is_late : (s t : ℤ) → t <ℤ s → int_le s t ≡ false
is_late s t less = grind (arith, ints)

other_way : (s t : ℤ) → int_eq s t ≡ false → int_le t s ≡ not (int_le s t)
other_way s t apart = grind (arith, ints)

between : (x y n : ℤ) → int_le x n ≡ true → int_le y n ≡ false → int_le y x ≡ false
between x y n a b = grind (arith, ints)

later_differs : (s t : ℤ) → s <ℤ t → int_eq s t ≡ false
later_differs s t less = grind (arith, ints)

-- ---- insertion does not depend on the order

true_is_false : true ≡ false → ⊥
true_is_false e = false≢true (sym e)

turned : (x y : Moment) (ms : List Moment) → is_same_stamp x y ≡ false → insert_moment x (insert_moment y ms) ≡ insert_moment y (insert_moment x ms)
turned x y [] apart = go (int_le x.stamp y.stamp) (int_le y.stamp x.stamp) (other_way x.stamp y.stamp apart)
  where
    go : (c d : Bool) → d ≡ not c → cond c (x ∷ y ∷ []) (y ∷ x ∷ []) ≡ cond d (y ∷ x ∷ []) (x ∷ y ∷ [])
    go true true e = absurd (true_is_false e)
    go true false e = refl
    go false true e = refl
    go false false e = absurd (false≢true e)
turned x y (n ∷ ns) apart =
    go (int_le x.stamp n.stamp) (int_le y.stamp n.stamp) (int_le x.stamp y.stamp) (int_le y.stamp x.stamp) refl refl refl refl (other_way x.stamp y.stamp apart) (turned x y ns apart)
  where
    go : (a b c d : Bool) → int_le x.stamp n.stamp ≡ a → int_le y.stamp n.stamp ≡ b → int_le x.stamp y.stamp ≡ c → int_le y.stamp x.stamp ≡ d → d ≡ not c
        → insert_moment x (insert_moment y ns) ≡ insert_moment y (insert_moment x ns)
        → insert_moment x (cond b (y ∷ n ∷ ns) (n ∷ insert_moment y ns)) ≡ insert_moment y (cond a (x ∷ n ∷ ns) (n ∷ insert_moment x ns))
    go true true c d ia ib ic id e rest = ap (λ k. cond k (x ∷ y ∷ n ∷ ns) (y ∷ cond (int_le x.stamp n.stamp) (x ∷ n ∷ ns) (n ∷ insert_moment x ns))) ic
        ∙ ap (λ k. cond c (x ∷ y ∷ n ∷ ns) (y ∷ cond k (x ∷ n ∷ ns) (n ∷ insert_moment x ns))) ia ∙ both c d e
        ∙ sym (ap (λ k. cond k (y ∷ x ∷ n ∷ ns) (x ∷ cond (int_le y.stamp n.stamp) (y ∷ n ∷ ns) (n ∷ insert_moment y ns))) id
        ∙ ap (λ k. cond d (y ∷ x ∷ n ∷ ns) (x ∷ cond k (y ∷ n ∷ ns) (n ∷ insert_moment y ns))) ib)
      where
        both : (c d : Bool) → d ≡ not c → cond c (x ∷ y ∷ n ∷ ns) (y ∷ x ∷ n ∷ ns) ≡ cond d (y ∷ x ∷ n ∷ ns) (x ∷ y ∷ n ∷ ns)
        both true true e = absurd (true_is_false e)
        both true false e = refl
        both false true e = refl
        both false false e = absurd (false≢true e)
    go true false c d ia ib ic id e rest =
        ap (λ k. cond k (x ∷ n ∷ insert_moment y ns) (n ∷ insert_moment x (insert_moment y ns))) ia
        ∙ sym (ap (λ k. cond k (y ∷ x ∷ n ∷ ns) (x ∷ cond (int_le y.stamp n.stamp) (y ∷ n ∷ ns) (n ∷ insert_moment y ns))) (between x.stamp y.stamp n.stamp ia ib)
        ∙ ap (λ k. x ∷ cond k (y ∷ n ∷ ns) (n ∷ insert_moment y ns)) ib)
    go false true c d ia ib ic id e rest =
        ap (λ k. cond k (x ∷ y ∷ n ∷ ns) (y ∷ cond (int_le x.stamp n.stamp) (x ∷ n ∷ ns) (n ∷ insert_moment x ns))) (between y.stamp x.stamp n.stamp ib ia)
        ∙ ap (λ k. y ∷ cond k (x ∷ n ∷ ns) (n ∷ insert_moment x ns)) ia
        ∙ sym (ap (λ k. cond k (y ∷ n ∷ insert_moment x ns) (n ∷ insert_moment y (insert_moment x ns))) ib)
    go false false c d ia ib ic id e rest =
        ap (λ k. cond k (x ∷ n ∷ insert_moment y ns) (n ∷ insert_moment x (insert_moment y ns))) ia ∙ ap (λ l. n ∷ l) rest
        ∙ sym (ap (λ k. cond k (y ∷ n ∷ insert_moment x ns) (n ∷ insert_moment y (insert_moment x ns))) ib)

-- ---- moments with distinct stamps have one sorted order

record Alike (xs ys : List Moment) : Type 0 where
  stamps : (m : Moment) → list_any (is_same_stamp m) xs ≡ list_any (is_same_stamp m) ys
  sorted : are_distinct is_same_stamp xs ≡ true → (are_distinct is_same_stamp ys ≡ true) × (sorted_moments xs ≡ sorted_moments ys)

not_or : (a b : Bool) → not (a || b) ≡ true → (a ≡ false) × (b ≡ false)
not_or true b h = absurd (false≢true h)
not_or false b h = (refl, not-true b h)

neither : (a b : Bool) → a ≡ false → b ≡ false → not (a || b) ≡ true
neither a b x y = ap (λ t. not (t || b)) x ∙ ap not y

pub one_order : (xs ys : List Moment) → IsPermutation xs ys → are_distinct is_same_stamp xs ≡ true → sorted_moments xs ≡ sorted_moments ys
one_order xs ys p distinct = ((along_permutation Alike itself under over chained xs ys p).sorted distinct).1
  where
    itself : (xs : List Moment) → Alike xs xs
    itself xs = record { stamps = λ m. refl; sorted = λ d. (d, refl) }

    under : (x : Moment) (xs ys : List Moment) → Alike xs ys → Alike (x ∷ xs) (x ∷ ys)
    under x xs ys h = record {
      stamps = λ m. ap (λ b. is_same_stamp m x || b) (h.stamps m);
      sorted = λ d.
          let parts = and_parts (not (list_any (is_same_stamp x) xs)) (are_distinct is_same_stamp xs) d in
          let rest = h.sorted parts.1 in
          (and_from (not (list_any (is_same_stamp x) ys)) (are_distinct is_same_stamp ys) (sym (ap not (h.stamps x)) ∙ parts.0) rest.0, ap (insert_moment x) rest.1);
    }

    over : (x y : Moment) (xs : List Moment) → Alike (x ∷ y ∷ xs) (y ∷ x ∷ xs)
    over x y xs = record {
      stamps = λ m. or_turned (is_same_stamp m x) (is_same_stamp m y) (list_any (is_same_stamp m) xs);
      sorted = λ d.
          let one = and_parts (not (is_same_stamp x y || list_any (is_same_stamp x) xs)) (not (list_any (is_same_stamp y) xs) && are_distinct is_same_stamp xs) d in
          let two = and_parts (not (list_any (is_same_stamp y) xs)) (are_distinct is_same_stamp xs) one.1 in
          let x_apart = not_or (is_same_stamp x y) (list_any (is_same_stamp x) xs) one.0 in (
            and_from (not (is_same_stamp y x || list_any (is_same_stamp y) xs)) (not (list_any (is_same_stamp x) xs) && are_distinct is_same_stamp xs)
                (neither (is_same_stamp y x) (list_any (is_same_stamp y) xs) (int_eq_equiv.symm y.stamp x.stamp ∙ x_apart.0) (not-true (list_any (is_same_stamp y) xs) two.0))
                (and_from (not (list_any (is_same_stamp x) xs)) (are_distinct is_same_stamp xs) (ap not x_apart.1) two.1),
            turned x y (sorted_moments xs) x_apart.0,
          );
    }

    chained : (xs ys zs : List Moment) → Alike xs ys → Alike ys zs → Alike xs zs
    chained xs ys zs g h = record {
      stamps = λ m. g.stamps m ∙ h.stamps m;
      sorted = λ d. let one = g.sorted d in let two = h.sorted one.0 in (two.0, one.1 ∙ two.1);
    }

-- ---- the moments of a timeline with increasing stamps

none_before : (s : ℤ) (v : Version) (vs : Timeline) → s ≤ℤ v.stamp → IncreasesFrom v vs → list_any (λ (m : Moment). int_eq s m.stamp) (map version_moment vs) ≡ false
none_before s v [] least rises = refl
none_before s v (w ∷ ws) least rises =
    ap (λ b. b || list_any (λ (m : Moment). int_eq s m.stamp) (map version_moment ws)) (later_differs s w.stamp (le_then_lt s v.stamp w.stamp least rises.0))
    ∙ none_before s w ws (before s v.stamp w.stamp least rises.0) rises.2
  where
    before : (r s t : ℤ) → r ≤ℤ s → s <ℤ t → r ≤ℤ t
    before r s t less more = omega (arith, ints)

pub distinct : (tl : Timeline) → IsIncreasing tl → are_distinct is_same_stamp (map version_moment tl) ≡ true
distinct [] rises = absurd rises
distinct (v ∷ vs) rises = from v vs rises
  where
    from : (v : Version) (vs : Timeline) → IncreasesFrom v vs → are_distinct is_same_stamp (map version_moment (v ∷ vs)) ≡ true
    from v [] rises = refl
    from v (w ∷ ws) rises =
        and_from (not (list_any (is_same_stamp (version_moment v)) (map version_moment (w ∷ ws)))) (are_distinct is_same_stamp (map version_moment (w ∷ ws)))
        (ap not (none_before v.stamp v (w ∷ ws) (le_itself v.stamp) rises)) (from w ws rises.2)

pub sorted_already : (tl : Timeline) → IsIncreasing tl → sorted_moments (map version_moment tl) ≡ map version_moment tl
sorted_already [] rises = absurd rises
sorted_already (v ∷ vs) rises = from v vs rises
  where
    first : (s t : ℤ) → s <ℤ t → int_le s t ≡ true
    first s t less = grind (arith, ints)

    from : (v : Version) (vs : Timeline) → IncreasesFrom v vs → sorted_moments (map version_moment (v ∷ vs)) ≡ map version_moment (v ∷ vs)
    from v [] rises = refl
    from v (w ∷ ws) rises =
        ap (insert_moment (version_moment v)) (from w ws rises.2)
        ∙ ap (λ b. cond b (version_moment v ∷ version_moment w ∷ map version_moment ws) (version_moment w ∷ insert_moment (version_moment v) (map version_moment ws))) (first v.stamp w.stamp rises.0)

-- a permutation of the moments of a timeline sorts to the timeline's order
pub timeline_order : (tl : Timeline) (moments : List Moment) → IsIncreasing tl → IsPermutation (map version_moment tl) moments → sorted_moments moments ≡ map version_moment tl
timeline_order tl moments rises p = sym (one_order (map version_moment tl) moments p (distinct tl rises)) ∙ sorted_already tl rises
