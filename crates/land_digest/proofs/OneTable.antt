-- Two lists of the versions of one table with the same events up to a moment have the same versions up to it.
use Rattle.std.proofs.Common.{◌≡◌, ℕ, ℤ, ◌<ℤ◌, ◌≤ℤ◌, int_le, int_lt, Bool, true, false, cond, not, ◌&&◌}
use Rattle.std.proofs.Common.{◌⊎◌, List, [], ◌∷◌, filter, map as map_list, inl, inr, refl, sym, ap, ap₂, ◌∙◌}
use Rattle.std.proofs.Common.{subst, arith, IsPermutation}
use Rattle.std.proofs.lemmas.Bool.{false≢true, and_parts, not-true, or_parts}
use Rattle.std.proofs.lemmas.Int.{ints}
use Rattle.std.proofs.lemmas.List.Sorted.{IsPermutation-map}
use Rattle.std.specs.List.{list_any}
use Rattle.land_core.specs.Entries.{are_distinct}
use Rattle.land_digest.proofs.Membership.{In, from_filter, from_map, in_filter, in_map}
use Rattle.land_digest.proofs.NoRepeats.{HasNoRepeat, no_repeat_filter, same_elements}
use Rattle.land_digest.specs.Known.{known_end, known_version, versions_upto}
use Rattle.land_tables_history.specs.Intervals.{overlap}
use Rattle.land_tables_history.specs.Open.{never}
use Rattle.land_tables_history.specs.Standing.{current_values, is_current}
use Rattle.land_tables_history.specs.declared.version.Version.{Version}

after_it : (same : Bool) (a b c d : ℤ) → same ≡ true → (same && int_lt a d && int_lt c b) ≡ false → a <ℤ d
    → b ≤ℤ c
after_it same a b c d is none h = grind (arith, ints)

before_it : (same : Bool) (a b c d : ℤ) → same ≡ true → (same && int_lt c b && int_lt a d) ≡ false → a <ℤ d
    → b ≤ℤ c
before_it same a b c d is none h = grind (arith, ints)

pub meets : (same : Bool) (a b d : ℤ) → same ≡ true → a <ℤ b → a <ℤ d → (same && int_lt a d && int_lt a b)
    ≡ true
meets same a b d is h g = grind (arith, ints)

pub none_in : {X : Type 0} (p : X → Bool) (w : X) (xs : List X) → list_any p xs ≡ false → In w xs → p w
    ≡ false
none_in p w [] none h = elim h [ ]
none_in p w (x ∷ xs) none (inl e) = ap p (sym e) ∙ (or_parts (p x) (list_any p xs) none).0
none_in p w (x ∷ xs) none (inr h) = none_in p w xs (or_parts (p x) (list_any p xs) none).1 h

le_true : (a b : ℤ) → a ≤ℤ b → int_le a b ≡ true
le_true a b h = grind (arith, ints)

le_false : (a b : ℤ) → b <ℤ a → int_le a b ≡ false
le_false a b h = grind (arith, ints)

le_from : (a b : ℤ) → int_le a b ≡ true → a ≤ℤ b
le_from a b h = grind (arith, ints)

lt_from : (a b : ℤ) → int_le a b ≡ false → b <ℤ a
lt_from a b h = grind (arith, ints)

module _ {X : Type 0} (same : X → X → Bool) where
  -- two versions are the same, or their lifespans do not overlap
  apart_in : (vs : List (Version X)) → are_distinct (overlap same) vs ≡ true → (v w : Version X) → In v vs
      → In w vs
      → (v ≡ w) ⊎ ((overlap same v w ≡ false) ⊎ (overlap same w v ≡ false))
  apart_in [] d v w i k = elim i [ ]
  apart_in (x ∷ xs) d v w (inl e) (inl f) = inl (sym e ∙ f)
  apart_in (x ∷ xs) d v w (inl e) (inr k) =
      let parts = and_parts (not (list_any (overlap same x) xs)) (are_distinct (overlap same) xs) d in
      inr (inl (subst (λ u. overlap same u w ≡ false) e
      (none_in (overlap same x) w xs (not-true (list_any (overlap same x) xs) parts.0) k)))
  apart_in (x ∷ xs) d v w (inr i) (inl f) =
      let parts = and_parts (not (list_any (overlap same x) xs)) (are_distinct (overlap same) xs) d in
      inr (inr (subst (λ u. overlap same u v ≡ false) f
      (none_in (overlap same x) v xs (not-true (list_any (overlap same x) xs) parts.0) i)))
  apart_in (x ∷ xs) d v w (inr i) (inr k) =
      apart_in xs
      (and_parts (not (list_any (overlap same x) xs)) (are_distinct (overlap same) xs) d).1 v w i k

  -- lifespans end after they start, and no two of one key overlap
  pub record AreDisjoint (vs : List (Version X)) : Type 0 where
    pub apart : are_distinct (overlap same) vs ≡ true
    pub positive : (v : Version X) → In v vs → v.since <ℤ v.until

-- each version that starts up to a moment starts in the other list too, and each key that ends up to it ends
-- there
pub record Includes {X : Type 0} (key : X → ℕ × ℕ) (s : ℤ) (vs ws : List (Version X)) : Type 0 where
  pub starts : (v : Version X) → In v vs → v.since ≤ℤ s
      → (w : Version X) × In w ws × (w.what ≡ v.what) × (w.since ≡ v.since)
  pub ends : (v : Version X) → In v vs → v.until ≤ℤ s
      → (w : Version X) × In w ws × (key w.what ≡ key v.what) × (w.until ≡ v.until)

module _ {X : Type 0} (same : X → X → Bool) (key : X → ℕ × ℕ)
    (same_by_key : (a b : X) → key a ≡ key b → same a b ≡ true) where
  -- a version that starts before another of its key ends, ends no later
  ends_by : (vs : List (Version X)) → AreDisjoint same vs → (v w : Version X) → In v vs → In w vs
      → key v.what ≡ key w.what → v.since <ℤ w.until → v.until ≤ℤ w.until
  ends_by vs disjoint v w i k equal less = go (apart_in same vs disjoint.apart v w i k)
    where
      there : same v.what w.what ≡ true
      there = same_by_key v.what w.what equal

      back : same w.what v.what ≡ true
      back = same_by_key w.what v.what (sym equal)

      positive : w.since <ℤ w.until
      positive = disjoint.positive w k

      go : (v ≡ w) ⊎ ((overlap same v w ≡ false) ⊎ (overlap same w v ≡ false)) → v.until ≤ℤ w.until
      go (inl e) = let f = ap (λ (u : Version X). u.until) e in omega (arith, ints, f)
      go (inr (inl none)) = let f = after_it _ v.since v.until w.since w.until there none less in
          omega (arith, ints, f, positive)
      go (inr (inr none)) = let f = before_it _ v.since v.until w.since w.until back none less in
          omega (arith, ints, f, positive)

  module _ (s : ℤ) (early : s <ℤ never) where
    end_if : (until : ℤ) → until ≤ℤ s → known_end s until ≡ until
    end_if until by = ap (λ b. cond b until never) (le_true until s by)

    end_else : (until : ℤ) → s <ℤ until → known_end s until ≡ never
    end_else until past = ap (λ b. cond b until never) (le_false until s past)

    abbrev version_of : X → ℤ → ℤ → Version X
    version_of what since until = record { what = what; since = since; until = until }

    same_known : (v w : Version X) → w.what ≡ v.what → w.since ≡ v.since → known_end s w.until
        ≡ known_end s v.until → known_version s w ≡ known_version s v
    same_known v w a b c = ap₂ (λ what since. version_of what since (known_end s w.until)) a b
        ∙ ap (version_of v.what v.since) c

    module _ (vs ws : List (Version X)) (disjoint_v : AreDisjoint same vs) (disjoint_w : AreDisjoint same ws)
        (to : Includes key s vs ws) (from : Includes key s ws vs) where
      matched : (v : Version X) → In v vs → v.since ≤ℤ s → (w : Version X) × In w ws
          × (known_version s w ≡ known_version s v) × (w.since ≤ℤ s)
      matched v i started = (
        it.0,
        it.1,
        same_known v it.0 it.2 it.3 (go (int_le v.until s) (int_le it.0.until s) refl refl),
        omega (arith, ints, started, since),
      )
        where
          it : (w : Version X) × In w ws × (w.what ≡ v.what) × (w.since ≡ v.since)
          it = to.starts v i started

          since : it.0.since ≡ v.since
          since = it.3

          positive_v : v.since <ℤ v.until
          positive_v = disjoint_v.positive v i

          positive_w : it.0.since <ℤ it.0.until
          positive_w = disjoint_w.positive it.0 it.1

          -- it ends no later
          forth : v.until ≤ℤ s → it.0.until ≤ℤ v.until
          forth by =
              let other = to.ends v i by in
              let e : other.0.until ≡ v.until = other.3 in
              let less : it.0.since <ℤ other.0.until = omega (arith, ints, since, positive_v, e) in
              let f = ends_by ws disjoint_w it.0 other.0 it.1 other.1 (ap key it.2 ∙ sym other.2) less in
              omega (arith, ints, f, e)

          back : it.0.until ≤ℤ s → v.until ≤ℤ it.0.until
          back by =
              let other = from.ends it.0 it.1 by in
              let e : other.0.until ≡ it.0.until = other.3 in
              let less : v.since <ℤ other.0.until = omega (arith, ints, since, positive_w, e) in
              let f = ends_by vs disjoint_v v other.0 i other.1 (ap key (sym it.2) ∙ sym other.2) less in
              omega (arith, ints, f, e)

          equal : (a b : ℤ) → a ≤ℤ b → b ≤ℤ a → a ≡ b
          equal a b h g = grind (arith, ints)

          go : (a b : Bool) → int_le v.until s ≡ a → int_le it.0.until s ≡ b → known_end s it.0.until
              ≡ known_end s v.until
          go true b p q = let by = le_from v.until s p in let f = forth by in
              ap (known_end s) (equal it.0.until v.until f (back (omega (arith, ints, f, by))))
          go false true p q = let by = le_from it.0.until s q in let f = back by in let g =
              lt_from v.until s p in absurd (omega (arith, ints, f, g, by))
          go false false p q = end_else it.0.until (lt_from it.0.until s q)
              ∙ sym (end_else v.until (lt_from v.until s p))

      pub upto_within : (x : Version X) → In x (versions_upto s vs) → In x (versions_upto s ws)
      upto_within x h =
          let a = from_map (known_version s) x (filter (λ v. int_le v.since s) vs) h in
          let b = from_filter (λ v. int_le v.since s) a.0 vs a.1 in
          let c = matched a.0 b.0 (le_from a.0.since s b.1) in
          subst (λ y. In y (versions_upto s ws)) (c.2 ∙ a.2)
          (in_map (known_version s) c.0 (filter (λ v. int_le v.since s) ws)
          (in_filter (λ v. int_le v.since s) c.0 ws c.1 (le_true c.0.since s c.3)))

    pub no_repeat_upto : (vs : List (Version X)) → AreDisjoint same vs → HasNoRepeat (versions_upto s vs)
    no_repeat_upto [] disjoint = tt
    no_repeat_upto (v ∷ vs) disjoint =
        go (int_le v.since s)
        (no_repeat_upto vs (record { apart = parts.1; positive = λ w i. disjoint.positive w (inr i) }))
      where
        parts : (not (list_any (overlap same v) vs) ≡ true) × (are_distinct (overlap same) vs ≡ true)
        parts = and_parts (not (list_any (overlap same v) vs)) (are_distinct (overlap same) vs) disjoint.apart

        new : In (known_version s v) (versions_upto s vs) → ⊥
        new h =
            let a = from_map (known_version s) (known_version s v) (filter (λ v. int_le v.since s) vs) h in
            let i = (from_filter (λ v. int_le v.since s) a.0 vs a.1).0 in
            let since : a.0.since ≡ v.since = ap (λ (u : Version X). u.since) a.2 in
            let what : a.0.what ≡ v.what = ap (λ (u : Version X). u.what) a.2 in
            let less : v.since <ℤ v.until = disjoint.positive v (inl refl) in
            let positive : a.0.since <ℤ a.0.until = disjoint.positive a.0 (inr i) in
            let least : v.since <ℤ a.0.until = omega (arith, ints, since, positive) in
            let met : overlap same v a.0 ≡ true =
            ap (λ t. same v.what a.0.what && int_lt v.since a.0.until && int_lt t v.until) since
            ∙ meets _ v.since v.until a.0.until
            (same_by_key v.what a.0.what (sym (ap key what))) less least in
            false≢true
            (sym (none_in (overlap same v) a.0 vs (not-true (list_any (overlap same v) vs) parts.0) i) ∙ met)

        go : (b : Bool) → HasNoRepeat (versions_upto s vs)
            → HasNoRepeat
            (map_list (known_version s)
            (cond b (v ∷ filter (λ v. int_le v.since s) vs) (filter (λ v. int_le v.since s) vs)))
        go true rest = (new, rest)
        go false rest = rest

    -- the versions that are current up to the moment are those that are known at it
    module _ (t : ℤ) (by : t ≤ℤ s) where
      same_stands : (v : Version X) → v.since ≤ℤ s → is_current t (known_version s v) ≡ is_current t v
      same_stands v started = go (int_le v.until s) refl
        where
          later : (a : ℤ) → s <ℤ a → int_lt t a ≡ true
          later a h = let g : t <ℤ a = omega (arith, ints, by, h) in grind (arith, ints)

          go : (b : Bool) → int_le v.until s ≡ b → (int_le v.since t && int_lt t (cond b v.until never))
              ≡ (int_le v.since t && int_lt t v.until)
          go true is = refl
          go false is =
              ap (λ b. int_le v.since t && b) (later never early ∙ sym (later v.until (lt_from v.until s is)))

      not_yet : (v : Version X) → s <ℤ v.since → is_current t v ≡ false
      not_yet v h = let g : int_le v.since t ≡ false = le_false v.since t (omega (arith, ints, by, h)) in
          ap (λ b. b && int_lt t v.until) g

      one : (v : Version X) (vs : List (Version X)) → current_values t (v ∷ vs)
          ≡ cond (is_current t v) (v.what ∷ current_values t vs) (current_values t vs)
      one v vs =
          elim (is_current t v) as (λ b. map_list (λ v. v.what)
          (cond b (v ∷ filter (is_current t) vs) (filter (is_current t) vs))
          ≡ cond b (v.what ∷ current_values t vs) (current_values t vs)) [
            | true ↦ refl
            | false ↦ refl
          ]

      standing_known : (vs : List (Version X)) → current_values t (versions_upto s vs) ≡ current_values t vs
      standing_known [] = refl
      standing_known (v ∷ vs) = go (int_le v.since s) refl (standing_known vs)
        where
          go : (b : Bool) → int_le v.since s ≡ b → current_values t (versions_upto s vs) ≡ current_values t vs
              → current_values t
              (map_list (known_version s)
              (cond b (v ∷ filter (λ v. int_le v.since s) vs) (filter (λ v. int_le v.since s) vs)))
              ≡ current_values t (v ∷ vs)
          go true is rest =
              one (known_version s v) (versions_upto s vs)
              ∙ ap₂ (λ b l. cond b (v.what ∷ l) l) (same_stands v (le_from v.since s is)) rest
              ∙ sym (one v vs)
          go false is rest = rest
              ∙ sym (one v vs
              ∙ ap (λ b. cond b (v.what ∷ current_values t vs) (current_values t vs)) (not_yet v (lt_from v.since s is)))

    module _ (vs ws : List (Version X)) (disjoint_v : AreDisjoint same vs) (disjoint_w : AreDisjoint same ws)
        (to : Includes key s vs ws) (from : Includes key s ws vs) where
      pub same_upto : IsPermutation (versions_upto s vs) (versions_upto s ws)
      same_upto =
          same_elements (versions_upto s vs) (versions_upto s ws) (no_repeat_upto vs disjoint_v)
          (no_repeat_upto ws disjoint_w)
          (upto_within vs ws disjoint_v disjoint_w to from) (upto_within ws vs disjoint_w disjoint_v from to)

      pub same_standing : (t : ℤ) → t ≤ℤ s → IsPermutation (current_values t vs) (current_values t ws)
      same_standing t by =
          subst (λ l. IsPermutation l (current_values t ws)) (standing_known t by vs)
          (subst (λ l. IsPermutation (current_values t (versions_upto s vs)) l) (standing_known t by ws)
          (IsPermutation-map (λ (v : Version X). v.what) (filter (is_current t) (versions_upto s vs))
          (filter (is_current t) (versions_upto s ws))
          (same_elements (filter (is_current t) (versions_upto s vs)) (filter (is_current t) (versions_upto s ws))
          (no_repeat_filter (is_current t) (versions_upto s vs) (no_repeat_upto vs disjoint_v))
          (no_repeat_filter (is_current t) (versions_upto s ws) (no_repeat_upto ws disjoint_w))
          (λ z i. let p = from_filter (is_current t) z (versions_upto s vs) i in
          in_filter (is_current t) z (versions_upto s ws)
          (upto_within vs ws disjoint_v disjoint_w to from z p.0) p.1)
          (λ z i. let p = from_filter (is_current t) z (versions_upto s ws) i in
          in_filter (is_current t) z (versions_upto s vs)
          (upto_within ws vs disjoint_w disjoint_v from to z p.0) p.1))))
