-- The latest moment of a timeline, from moments in any order.
use Rattle.std.proofs.Common.{◌≡◌, ◌≤◌, ℕ, Bool, true, false, cond, ◌&&◌, List, [], ◌∷◌, map, Option, Some, None, refl, sym, ap, ◌∙◌, arith, IsPermutation}
use Rattle.std.specs.Prelude.{ℤ, ◌<ℤ◌, int_le, fold, unwrap_or, if◌then◌else◌}
use Rattle.std.specs.Option.{option_map, option_map_or}
use Rattle.std.proofs.lemmas.Bool.{false≢true}
use Rattle.std.proofs.lemmas.Int.{ints}
use Rattle.land_core.specs.Register.{empty_register}
use Rattle.land_keep.specs.Timeline.{IsIncreasing, IncreasesFrom, Timeline, last_from, last_register, last_stamp, register_at, version_at}
use Rattle.land_keep.specs.declared.timeline.Version.{Version}
use Rattle.land_tables.proofs.Sorting.{timeline_order}
use Rattle.land_tables.specs.Timelines.{sorted_moments, version_moment, insert_moment}
use Rattle.land_tables_history.proofs.MomentOrder.{lt_through}
use Rattle.land_tables_history.specs.Moments.{follows, last, latest, latest_from, next_number_at}
use Rattle.land_tables_history.specs.declared.moment.Moment.{Moment}

-- ---- the latest moment is the same after sorting by stamp

-- one moment more
abbrev one_more : (Moment → Bool) → Option Moment → Moment → Option Moment
one_more passes found m = if passes m && follows found m then Some m else found

no_earlier : (n m : ℤ) → int_le m n ≡ false → int_le n m ≡ true
no_earlier n m h = grind (arith, ints)

over_both : (a n m : ℤ) → int_le a n ≡ true → int_le m n ≡ false → int_le a m ≡ true
over_both a n m h g = grind (arith, ints)

-- of two moments the later one is returned, in either order
either_first : (passes : Moment → Bool) (found : Option Moment) (m n : Moment) → int_le m.stamp n.stamp ≡ false
    → one_more passes (one_more passes found n) m ≡ one_more passes (one_more passes found m) n
either_first passes found m n late = go (passes m) (passes n) refl refl
  where
    goes : (b : Bool) (found : Option Moment) (x : Moment) → passes x ≡ b → one_more passes found x ≡ cond (b && follows found x) (Some x) found
    goes b found x e = ap (λ k. cond (k && follows found x) (Some x) found) e

    passing : (found : Option Moment) → passes m ≡ true → passes n ≡ true → one_more passes (one_more passes found n) m ≡ one_more passes (one_more passes found m) n
    passing None em en =
        ap (λ k. one_more passes k m) (goes true None n en) ∙ goes true (Some n) m em ∙ ap (λ k. cond k (Some m) (Some n)) (no_earlier n.stamp m.stamp late)
        ∙ sym (ap (λ k. one_more passes k n) (goes true None m em) ∙ goes true (Some m) n en ∙ ap (λ k. cond k (Some n) (Some m)) late)
    passing (Some a) em en = by (int_le a.stamp n.stamp) (int_le a.stamp m.stamp) refl refl
      where
        by : (p q : Bool) → int_le a.stamp n.stamp ≡ p → int_le a.stamp m.stamp ≡ q → one_more passes (one_more passes (Some a) n) m ≡ one_more passes (one_more passes (Some a) m) n
        by true q ep eq =
            ap (λ k. one_more passes k m) (goes true (Some a) n en ∙ ap (λ k. cond k (Some n) (Some a)) ep) ∙ goes true (Some n) m em
            ∙ ap (λ k. cond k (Some m) (Some n)) (no_earlier n.stamp m.stamp late)
            ∙ sym (ap (λ k. one_more passes k n) (goes true (Some a) m em ∙ ap (λ k. cond k (Some m) (Some a)) (over_both a.stamp n.stamp m.stamp ep late)) ∙ goes true (Some m) n en
            ∙ ap (λ k. cond k (Some n) (Some m)) late)
        by false true ep eq =
            ap (λ k. one_more passes k m) (goes true (Some a) n en ∙ ap (λ k. cond k (Some n) (Some a)) ep) ∙ goes true (Some a) m em
            ∙ ap (λ k. cond k (Some m) (Some a)) eq
            ∙ sym (ap (λ k. one_more passes k n) (goes true (Some a) m em ∙ ap (λ k. cond k (Some m) (Some a)) eq) ∙ goes true (Some m) n en ∙ ap (λ k. cond k (Some n) (Some m)) late)
        by false false ep eq =
            ap (λ k. one_more passes k m) (goes true (Some a) n en ∙ ap (λ k. cond k (Some n) (Some a)) ep) ∙ goes true (Some a) m em
            ∙ ap (λ k. cond k (Some m) (Some a)) eq
            ∙ sym (ap (λ k. one_more passes k n) (goes true (Some a) m em ∙ ap (λ k. cond k (Some m) (Some a)) eq) ∙ goes true (Some a) n en ∙ ap (λ k. cond k (Some n) (Some a)) ep)

    go : (pm pn : Bool) → passes m ≡ pm → passes n ≡ pn → one_more passes (one_more passes found n) m ≡ one_more passes (one_more passes found m) n
    go true true em en = passing found em en
    go false pn em en = goes false (one_more passes found n) m em ∙ sym (ap (λ k. one_more passes k n) (goes false found m em))
    go true false em en = ap (λ k. one_more passes k m) (goes false found n en) ∙ sym (goes false (one_more passes found m) n en)

put_latest : (passes : Moment → Bool) (found : Option Moment) (m : Moment) (ms : List Moment)
    → latest_from passes found (insert_moment m ms) ≡ latest_from passes (one_more passes found m) ms
put_latest passes found m [] = refl
put_latest passes found m (n ∷ ns) = go (int_le m.stamp n.stamp) refl (put_latest passes (one_more passes found n) m ns)
  where
    go : (b : Bool) → int_le m.stamp n.stamp ≡ b
        → latest_from passes (one_more passes found n) (insert_moment m ns) ≡ latest_from passes (one_more passes (one_more passes found n) m) ns
        → latest_from passes found (cond b (m ∷ n ∷ ns) (n ∷ insert_moment m ns)) ≡ latest_from passes (one_more passes (one_more passes found m) n) ns
    go true is rest = refl
    go false is rest = rest ∙ ap (λ k. latest_from passes k ns) (either_first passes found m n is)

order_latest : (passes : Moment → Bool) (found : Option Moment) (ms : List Moment) → latest_from passes found (sorted_moments ms) ≡ latest_from passes found ms
order_latest passes found [] = refl
order_latest passes found (m ∷ ms) = put_latest passes found m (sorted_moments ms) ∙ order_latest passes (one_more passes found m) ms

-- ---- the latest moment of a timeline is that of its latest version

-- the versions after a version that passes the test
After : Option Version → Timeline → Type 0
After None [] = Unit {0}
After None (v ∷ vs) = IncreasesFrom v vs
After (Some v) vs = IncreasesFrom v vs

rises_on : (v w : Version) (vs : Timeline) → IncreasesFrom v (w ∷ vs) → IncreasesFrom v vs
rises_on v w [] h = tt
rises_on v w (u ∷ us) h = (lt_through v.stamp w.stamp u.stamp h.0 h.2.0, more v.register.next w.register.next u.register.next h.1 h.2.1, h.2.2)
  where
    more : (a b c : ℕ) → a ≤ b → b ≤ c → a ≤ c
    more a b c x y = omega arith

-- the last version whose moment passes a test
abbrev last_passing : (Moment → Bool) → Option Version → Timeline → Option Version
last_passing passes found vs = fold (λ found v. if passes (version_moment v) then Some v else found) found vs

along : (passes : Moment → Bool) (found : Option Version) (vs : Timeline) → After found vs
    → latest_from passes (option_map version_moment found) (map version_moment vs) ≡ option_map version_moment (last_passing passes found vs)
unfolding After
along passes found [] h = refl
along passes None (w ∷ ws) h = go (passes (version_moment w)) (along passes (Some w) ws h) (along passes None ws (none w ws h))
  where
    none : (w : Version) (ws : Timeline) → IncreasesFrom w ws → After None ws
    none w [] h = tt
    none w (u ∷ us) h = h.2

    go : (b : Bool) → latest_from passes (Some (version_moment w)) (map version_moment ws) ≡ option_map version_moment (last_passing passes (Some w) ws)
        → latest_from passes None (map version_moment ws) ≡ option_map version_moment (last_passing passes None ws)
        → latest_from passes (cond (b && true) (Some (version_moment w)) None) (map version_moment ws) ≡ option_map version_moment (last_passing passes (cond b (Some w) None) ws)
    go true taken left = taken
    go false taken left = left
along passes (Some v) (w ∷ ws) h =
    go (passes (version_moment w)) (int_le v.stamp w.stamp) (no_later v.stamp w.stamp h.0) (along passes (Some w) ws h.2) (along passes (Some v) ws (rises_on v w ws h))
  where
    no_later : (s t : ℤ) → s <ℤ t → int_le s t ≡ true
    no_later s t less = grind (arith, ints)

    go : (b c : Bool) → c ≡ true → latest_from passes (Some (version_moment w)) (map version_moment ws) ≡ option_map version_moment (last_passing passes (Some w) ws)
        → latest_from passes (Some (version_moment v)) (map version_moment ws) ≡ option_map version_moment (last_passing passes (Some v) ws)
        → latest_from passes (cond (b && c) (Some (version_moment w)) (Some (version_moment v))) (map version_moment ws) ≡ option_map version_moment (last_passing passes (cond b (Some w) (Some v)) ws)
    go true true e taken left = taken
    go true false e taken left = absurd (false≢true e)
    go false c e taken left = left

latest_version : (passes : Moment → Bool) (tl : Timeline) (moments : List Moment) → IsIncreasing tl → IsPermutation (map version_moment tl) moments
    → latest passes moments ≡ option_map version_moment (last_passing passes None tl)
unfolding After
latest_version passes [] moments rises p = absurd rises
latest_version passes (v ∷ vs) moments rises p =
    sym (order_latest passes None moments) ∙ ap (latest passes) (timeline_order (v ∷ vs) moments rises p) ∙ along passes None (v ∷ vs) rises

-- ---- its value

-- the next number of the latest moment up to a time is that of the register at that time
pub next_is : (tl : Timeline) (moments : List Moment) (t : ℤ) → IsIncreasing tl → IsPermutation (map version_moment tl) moments → next_number_at moments t ≡ (register_at tl t).next
next_is tl moments t rises p = ap (λ o. option_map_or (λ (m : Moment). m.next) o 2) (latest_version (λ m. int_le m.stamp t) tl moments rises p) ∙ same (version_at tl t)
  where
    same : (o : Option Version) → option_map_or (λ (m : Moment). m.next) (option_map version_moment o) 2 ≡ (unwrap_or (option_map (λ (v : Version). v.register) o) empty_register).next
    same None = refl
    same (Some v) = refl

-- the latest moment has the timeline's last stamp and the next number of its last register
pub last_is_last : (tl : Timeline) (moments : List Moment) → IsIncreasing tl → IsPermutation (map version_moment tl) moments
    → last moments ≡ Some (record { stamp = last_stamp tl; next = (last_register tl).next })
last_is_last [] moments rises p = absurd rises
last_is_last (v ∷ vs) moments rises p = latest_version (λ m. true) (v ∷ vs) moments rises p ∙ ap (option_map version_moment) (to_last v vs)
  where
    to_last : (v : Version) (vs : Timeline) → last_passing (λ m. true) (Some v) vs ≡ Some (last_from v vs)
    to_last v [] = refl
    to_last v (w ∷ ws) = to_last w ws
