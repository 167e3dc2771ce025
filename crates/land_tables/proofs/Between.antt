-- Between stamps nothing changes.
use Rattle.std.proofs.Common.{◌≡◌, Bool, true, false, cond, not, ◌||◌, ◌&&◌, List, [], ◌∷◌, filter, map, Option, Some, refl, sym, ap, ◌∙◌, arith}
use Rattle.std.specs.Prelude.{ℤ, pos, ◌<ℤ◌, ◌≤ℤ◌, int_le, int_lt}
use Rattle.std.proofs.lemmas.Bool.{false≢true, and_parts}
use Rattle.std.proofs.lemmas.Int.{ints}
use Rattle.std.specs.List.{AllByRecursion, list_all}
use Rattle.std.specs.Ordering.{int_eq}
use Rattle.std.proofs.lemmas.Cmp.{int_eq_equiv}
use Rattle.land_core.specs.Numbers.{last_moment}
use Rattle.land_keep.specs.Timeline.{IncreasesFrom, last_from}
use Rattle.land_keep.specs.declared.timeline.Version.{Version as Begun}
use Rattle.land_tables.proofs.One.{found_at, none_later}
use Rattle.land_tables.specs.Timelines.{version_of}
use Rattle.land_tables_history.proofs.MomentOrder.{le_from, le_itself, lt_is_le, lt_through}
use Rattle.land_tables_history.specs.Intervals.{is_interval, is_stamp}
use Rattle.land_tables_history.specs.Open.{has_ended, never}
use Rattle.land_tables_history.specs.Standing.{current_values, is_current}
use Rattle.land_tables_history.specs.declared.history.History.{History}
use Rattle.land_tables_history.specs.declared.moment.Moment.{Moment}
use Rattle.land_tables_history.specs.declared.version.Version.{Version}

-- ---- the latest stamp up to a moment

-- if a moment is the latest up to t, no stamp is between them
pub record Reached (P : Moment → Type 0) (versions : History) (moments : List Moment) (t : ℤ) (found : Option Begun) : Type 0 where
  pub moment : Moment
  pub is : found ≡ Some (version_of versions moment)
  pub holds : P moment
  pub before : moment.stamp ≤ℤ t
  pub same : (u : ℤ) → is_stamp moments u ≡ true → int_le u t ≡ int_le u moment.stamp

late : (s t : ℤ) → int_le s t ≡ false → t <ℤ s
late s t h = grind (arith, ints)

at_stamp : (s t u : ℤ) → int_eq s u ≡ true → t <ℤ s → int_le u t ≡ false
at_stamp s t u is less = grind (arith, ints)

either_of : (a b : Bool) → (a || b) ≡ true → (a ≡ false → b ≡ true)
either_of true b h none = absurd (false≢true (sym none))
either_of false b h none = h

-- each stamp is after every time before the first one
pub all_later : (versions : History) (t : ℤ) (m : Moment) (ms : List Moment) → t <ℤ m.stamp → IncreasesFrom (version_of versions m) (map (version_of versions) ms)
    → (u : ℤ) → is_stamp (m ∷ ms) u ≡ true → int_le u t ≡ false
all_later versions t m [] less rises u is = at_stamp m.stamp t u (one (int_eq m.stamp u) is) less
  where
    one : (a : Bool) → (a || false) ≡ true → a ≡ true
    one true h = refl
    one false h = h
all_later versions t m (n ∷ ns) less rises u is = go (int_eq m.stamp u) refl is (all_later versions t n ns (lt_through t m.stamp n.stamp less rises.0) rises.2 u)
  where
    go : (a : Bool) → int_eq m.stamp u ≡ a → (a || is_stamp (n ∷ ns) u) ≡ true → (is_stamp (n ∷ ns) u ≡ true → int_le u t ≡ false) → int_le u t ≡ false
    go true here is rest = at_stamp m.stamp t u here less
    go false here is rest = rest is

at_first : (s t u : ℤ) → int_eq s u ≡ true → s ≤ℤ t → int_le u t ≡ true
at_first s t u is least = grind (arith, ints)

reaches : (s n r : ℤ) → int_le n r ≡ true → s <ℤ n → s ≤ℤ r
reaches s n r h less = grind (arith, ints)

pub reached : (P : Moment → Type 0) (versions : History) (t : ℤ) (m : Moment) (ms : List Moment) → IncreasesFrom (version_of versions m) (map (version_of versions) ms) → AllByRecursion P (m ∷ ms) → m.stamp ≤ℤ t
    → Reached P versions (m ∷ ms) t (found_at t (Some (version_of versions m)) (map (version_of versions) ms))
reached P versions t m [] rises all least = record {
  moment = m;
  is = refl;
  holds = all.0;
  before = least;
  same = λ u is. go u (int_eq m.stamp u) refl is;
}
  where
    go : (u : ℤ) (a : Bool) → int_eq m.stamp u ≡ a → (a || false) ≡ true → int_le u t ≡ int_le u m.stamp
    go u true here is = at_first m.stamp t u here least ∙ sym (at_first m.stamp m.stamp u here (le_itself m.stamp))
    go u false here is = absurd (false≢true is)
reached P versions t m (n ∷ ns) rises all least = go (int_le n.stamp t) refl (λ on. reached P versions t n ns rises.2 all.1 on)
  where
    go : (b : Bool) → int_le n.stamp t ≡ b → (n.stamp ≤ℤ t → Reached P versions (n ∷ ns) t (found_at t (Some (version_of versions n)) (map (version_of versions) ns)))
        → Reached P versions (m ∷ n ∷ ns) t (found_at t (cond b (Some (version_of versions n)) (Some (version_of versions m))) (map (version_of versions) ns))
    go true on rest =
        let r = rest (le_from n.stamp t on) in
        let past : int_le n.stamp r.moment.stamp ≡ true = sym (r.same n.stamp (ap (λ b. b || is_stamp ns n.stamp) (int_eq_equiv.refl n.stamp))) ∙ on in
        record {
          moment = r.moment;
          is = r.is;
          holds = r.holds;
          before = r.before;
          same = λ u is. at u (int_eq m.stamp u) refl is r past;
        }
      where
        at : (u : ℤ) (a : Bool) → int_eq m.stamp u ≡ a → (a || is_stamp (n ∷ ns) u) ≡ true
            → (r : Reached P versions (n ∷ ns) t (found_at t (Some (version_of versions n)) (map (version_of versions) ns))) → int_le n.stamp r.moment.stamp ≡ true → int_le u t ≡ int_le u r.moment.stamp
        at u true here is r past = at_first m.stamp t u here least ∙ sym (at_first m.stamp r.moment.stamp u here (reaches m.stamp n.stamp r.moment.stamp past rises.0))
        at u false here is r past = r.same u is
    go false on rest = record {
      moment = m;
      is = none_later t (Some (version_of versions m)) (version_of versions n) (map (version_of versions) ns) (lt_is_le t n.stamp (late n.stamp t on)) rises.2;
      holds = all.0;
      before = least;
      same = λ u is. at u (int_eq m.stamp u) refl is;
    }
      where
        at : (u : ℤ) (a : Bool) → int_eq m.stamp u ≡ a → (a || is_stamp (n ∷ ns) u) ≡ true → int_le u t ≡ int_le u m.stamp
        at u true here is = at_first m.stamp t u here least ∙ sym (at_first m.stamp m.stamp u here (le_itself m.stamp))
        at u false here is = all_later versions t n ns (late n.stamp t on) rises.2 u is ∙ sym (all_later versions m.stamp n ns rises.0 rises.2 u is)

-- no stamp is after the last one
pub none_after : (versions : History) (m : Moment) (ms : List Moment) → IncreasesFrom (version_of versions m) (map (version_of versions) ms)
    → (u : ℤ) → is_stamp (m ∷ ms) u ≡ true → int_le u (last_from (version_of versions m) (map (version_of versions) ms)).stamp ≡ true
none_after versions m [] rises u is = go (int_eq m.stamp u) refl is
  where
    go : (a : Bool) → int_eq m.stamp u ≡ a → (a || false) ≡ true → int_le u m.stamp ≡ true
    go true here is = at_first m.stamp m.stamp u here (le_itself m.stamp)
    go false here is = absurd (false≢true is)
none_after versions m (n ∷ ns) rises u is =
    let last = last_from (version_of versions n) (map (version_of versions) ns) in
    go last.stamp (int_eq m.stamp u) refl is (none_after versions n ns rises.2 n.stamp (ap (λ b. b || is_stamp ns n.stamp) (int_eq_equiv.refl n.stamp))) (none_after versions n ns rises.2 u)
  where
    go : (l : ℤ) (a : Bool) → int_eq m.stamp u ≡ a → (a || is_stamp (n ∷ ns) u) ≡ true → int_le n.stamp l ≡ true → (is_stamp (n ∷ ns) u ≡ true → int_le u l ≡ true) → int_le u l ≡ true
    go l true here is past rest = at_first m.stamp l u here (reaches m.stamp n.stamp l past rises.0)
    go l false here is past rest = rest is

-- ---- current versions

-- the parts of a lifespan
record Spans {X : Type 0} (moments : List Moment) (v : Version X) : Type 0 where
  begins : is_stamp moments v.since ≡ true
  ends : (int_eq v.until never || is_stamp moments v.until) ≡ true

spans : {X : Type 0} (moments : List Moment) (v : Version X) → is_interval moments v ≡ true → Spans moments v
spans moments v h =
    let parts = and_parts (int_lt v.since v.until && is_stamp moments v.since) (int_eq v.until never || is_stamp moments v.until) h in
    record { begins = (and_parts (int_lt v.since v.until) (is_stamp moments v.since) parts.0).1; ends = parts.1 }

before_never : (t u : ℤ) → t ≤ℤ last_moment → int_eq u never ≡ true → int_lt t u ≡ true
before_never t u most is = grind (arith, ints)

other_way : (t u : ℤ) → int_lt t u ≡ not (int_le u t)
other_way t u = grind (arith, ints)

most_too : (s t : ℤ) → s ≤ℤ t → t ≤ℤ last_moment → s ≤ℤ last_moment
most_too s t h g = omega (arith, ints)

stands_alike : {X : Type 0} (moments : List Moment) (s t : ℤ) (v : Version X) → s ≤ℤ t → t ≤ℤ last_moment → ((u : ℤ) → is_stamp moments u ≡ true → int_le u t ≡ int_le u s) → is_interval moments v ≡ true → is_current t v ≡ is_current s v
stands_alike moments s t v least most same interval =
    let its = spans moments v interval in
    ap (λ b. b && int_lt t v.until) (same v.since its.begins) ∙ ap (λ b. int_le v.since s && b) (go (int_eq v.until never) refl its.ends)
  where
    go : (a : Bool) → int_eq v.until never ≡ a → (a || is_stamp moments v.until) ≡ true → int_lt t v.until ≡ int_lt s v.until
    go true unended is = before_never t v.until most unended ∙ sym (before_never s v.until (most_too s t least most) unended)
    go false unended is = other_way t v.until ∙ ap not (same v.until is) ∙ sym (other_way s v.until)

pub same_standing : {X : Type 0} (moments : List Moment) (s t : ℤ) (vs : List (Version X)) → s ≤ℤ t → t ≤ℤ last_moment → ((u : ℤ) → is_stamp moments u ≡ true → int_le u t ≡ int_le u s)
    → list_all (is_interval moments) vs ≡ true → current_values t vs ≡ current_values s vs
same_standing moments s t [] least most same intervals = refl
same_standing {X} moments s t (v ∷ vs) least most same intervals =
    let parts = and_parts (is_interval moments v) (list_all (is_interval moments) vs) intervals in
    ap (λ b. map (λ (v : Version X). v.what) (cond b (v ∷ filter (is_current t) vs) (filter (is_current t) vs))) (stands_alike moments s t v least most same parts.0)
    ∙ go (is_current s v) (same_standing moments s t vs least most same parts.1)
  where
    go : (b : Bool) → current_values t vs ≡ current_values s vs → map (λ (v : Version X). v.what) (cond b (v ∷ filter (is_current t) vs) (filter (is_current t) vs)) ≡ map (λ (v : Version X). v.what) (cond b (v ∷ filter (is_current s) vs) (filter (is_current s) vs))
    go true rest = ap (λ l. v.what ∷ l) rest
    go false rest = rest

-- before every stamp no version is current
pub none_standing : {X : Type 0} (moments : List Moment) (t : ℤ) (vs : List (Version X)) → ((u : ℤ) → is_stamp moments u ≡ true → int_le u t ≡ false) → list_all (is_interval moments) vs ≡ true → current_values t vs ≡ []
none_standing moments t [] none intervals = refl
none_standing {X} moments t (v ∷ vs) none intervals =
    let parts = and_parts (is_interval moments v) (list_all (is_interval moments) vs) intervals in
    ap (λ b. map (λ (v : Version X). v.what) (cond (b && int_lt t v.until) (v ∷ filter (is_current t) vs) (filter (is_current t) vs))) (none v.since (spans moments v parts.0).begins)
    ∙ none_standing moments t vs none parts.1

-- each end is open, or at most the last stamp
pub all_ended : {X : Type 0} (moments : List Moment) (last : ℤ) (vs : List (Version X)) → ((u : ℤ) → is_stamp moments u ≡ true → int_le u last ≡ true) → list_all (is_interval moments) vs ≡ true → list_all (has_ended last) vs ≡ true
all_ended moments last [] past intervals = refl
all_ended moments last (v ∷ vs) past intervals =
    let parts = and_parts (is_interval moments v) (list_all (is_interval moments) vs) intervals in
    ap (λ b. b && list_all (has_ended last) vs) (go (int_eq v.until never) (spans moments v parts.0).ends) ∙ all_ended moments last vs past parts.1
  where
    go : (a : Bool) → (a || is_stamp moments v.until) ≡ true → (a || int_le v.until last) ≡ true
    go true is = refl
    go false is = past v.until is
