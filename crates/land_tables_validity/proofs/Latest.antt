-- The values at a moment are those at the latest stamp up to then.
use Rattle.std.proofs.Common.{◌≡◌, ◌⊎◌, inl, inr, Bool, true, false, ◌&&◌, ◌||◌, List, [], ◌∷◌, refl, subst, arith}
use Rattle.std.specs.Prelude.{ℤ, pos, ◌≤ℤ◌, int_le, int_lt}
use Rattle.std.proofs.lemmas.Bool.{false≢true, and_parts}
use Rattle.std.proofs.lemmas.Bool.Decides.{Decides-int_eq}
use Rattle.std.proofs.lemmas.Int.{ints}
use Rattle.std.specs.List.{AllByRecursion}
use Rattle.std.specs.Ordering.{int_eq}
use Rattle.land_tables_history.proofs.MomentOrder.{le_itself, le_through}
use Rattle.land_tables_history.specs.Intervals.{is_interval, is_stamp}
use Rattle.land_tables_history.specs.Open.{never}
use Rattle.land_tables_history.specs.Standing.{is_current}
use Rattle.land_tables_history.specs.declared.moment.Moment.{Moment}
use Rattle.land_tables_history.specs.declared.version.Version.{Version}
use Rattle.land_tables_validity.specs.CoverageSpans.{are_in_range}

-- a commit of a list, which is the latest up to t
pub record Latest (moments : List Moment) (t : ℤ) : Type 1 where
  pub moment : Moment
  pub among : (P : Moment → Type 0) → AllByRecursion P moments → P moment
  pub before : moment.stamp ≤ℤ t
  pub least : AllByRecursion (λ m. m.stamp ≤ℤ t → m.stamp ≤ℤ moment.stamp) moments

abbrev NoneYet : List Moment → ℤ → Type 0
NoneYet moments t = AllByRecursion (λ m. m.stamp ≤ℤ t → ⊥) moments

or_later : (a b : ℤ) → (a ≤ℤ b) ⊎ (b ≤ℤ a)
or_later a b = go (int_le a b) refl
  where
    go : (c : Bool) → int_le a b ≡ c → (a ≤ℤ b) ⊎ (b ≤ℤ a)
    go true e = inl (omega (arith, ints, e))
    go false e = inr (omega (arith, ints, e))

reaches : (a t : ℤ) → (a ≤ℤ t) ⊎ (a ≤ℤ t → ⊥)
reaches a t = go (int_le a t) refl
  where
    go : (c : Bool) → int_le a t ≡ c → (a ≤ℤ t) ⊎ (a ≤ℤ t → ⊥)
    go true e = inl (omega (arith, ints, e))
    go false e = inr (λ h. omega (arith, ints, e, h))

module _ (t : ℤ) where
  raised : (best more : ℤ) → best ≤ℤ more → (ms : List Moment) → AllByRecursion (λ m. m.stamp ≤ℤ t → m.stamp ≤ℤ best) ms → AllByRecursion (λ m. m.stamp ≤ℤ t → m.stamp ≤ℤ more) ms
  raised best more p [] all = tt
  raised best more p (m ∷ ms) all = (λ h. le_through m.stamp best more (all.0 h) p, raised best more p ms all.1)

  bounded : (more : ℤ) (ms : List Moment) → NoneYet ms t → AllByRecursion (λ m. m.stamp ≤ℤ t → m.stamp ≤ℤ more) ms
  bounded more [] all = tt
  bounded more (m ∷ ms) all = (λ h. absurd (all.0 h), bounded more ms all.1)

  latest : (ms : List Moment) → Latest ms t ⊎ NoneYet ms t
  latest [] = inr tt
  latest (m ∷ ms) = go (reaches m.stamp t) (latest ms)
    where
      go : (m.stamp ≤ℤ t) ⊎ (m.stamp ≤ℤ t → ⊥) → Latest ms t ⊎ NoneYet ms t → Latest (m ∷ ms) t ⊎ NoneYet (m ∷ ms) t
      go (inr no_more) (inl l) = inl (record { moment = l.moment; among = λ P all. l.among P all.1; before = l.before; least = (λ h. absurd (no_more h), l.least) })
      go (inr no_more) (inr n) = inr (no_more, n)
      go (inl h) (inr n) = inl (record { moment = m; among = λ P all. all.0; before = h; least = (λ h. le_itself m.stamp, bounded m.stamp ms n) })
      go (inl h) (inl l) = elim (or_later m.stamp l.moment.stamp) [
        | inl less ↦ inl (record { moment = l.moment; among = λ P all. l.among P all.1; before = l.before; least = (λ h. less, l.least) })
        | inr more ↦ inl (record { moment = m; among = λ P all. all.0; before = h; least = (λ h. le_itself m.stamp, raised l.moment.stamp m.stamp more ms l.least) })
      ]

  -- a property of all stamps holds for one
  pub at_stamp : (P : ℤ → Type 0) (u : ℤ) → ((s : ℤ) → int_eq s u ≡ true → P s → P u) → (ms : List Moment) → is_stamp ms u ≡ true → AllByRecursion (λ m. P m.stamp) ms → P u
  at_stamp P u same [] h all = absurd (false≢true h)
  at_stamp P u same (m ∷ ms) h all = go (int_eq m.stamp u) refl h (λ later. at_stamp P u same ms later all.1)
    where
      go : (b : Bool) → int_eq m.stamp u ≡ b → (b || is_stamp ms u) ≡ true → (is_stamp ms u ≡ true → P u) → P u
      go true e h rest = same m.stamp e all.0
      go false e h rest = rest h

  before_too : (best : ℤ) (u s : ℤ) → int_eq s u ≡ true → (s ≤ℤ t → s ≤ℤ best) → u ≤ℤ t → u ≤ℤ best
  before_too best u s e p = subst (λ (n : ℤ). n ≤ℤ t → n ≤ℤ best) ((Decides-int_eq s u).0 e) p

  not_too : (u s : ℤ) → int_eq s u ≡ true → (s ≤ℤ t → ⊥) → u ≤ℤ t → ⊥
  not_too u s e p = subst (λ (n : ℤ). n ≤ℤ t → ⊥) ((Decides-int_eq s u).0 e) p

  early_too : (u s : ℤ) → int_eq s u ≡ true → int_lt s never ≡ true → int_lt u never ≡ true
  early_too u s e p = grind (arith, ints)

  early : (ms : List Moment) → are_in_range ms ≡ true → AllByRecursion (λ m. int_lt m.stamp never ≡ true) ms
  early [] h = tt
  early (m ∷ ms) h = let parts = and_parts (int_lt m.stamp never) (are_in_range ms) h in (parts.0, early ms parts.1)

  gone_at_the_end : (since until : ℤ) → int_lt t never ≡ false → (int_eq until never ≡ true) ⊎ (int_lt until never ≡ true) → (int_le since t && int_lt t until) ≡ false
  gone_at_the_end since until late (inl e) = grind (arith, ints)
  gone_at_the_end since until late (inr e) = grind (arith, ints)

  not_begun : (since until : ℤ) → (since ≤ℤ t → ⊥) → (int_le since t && int_lt t until) ≡ false
  not_begun since until none = go (int_le since t) refl
    where
      go : (b : Bool) → int_le since t ≡ b → (b && int_lt t until) ≡ false
      go false e = refl
      go true e = absurd (none (omega (arith, ints, e)))

  same_life : (best since until : ℤ) → int_lt t never ≡ true → best ≤ℤ t → (since ≤ℤ t → since ≤ℤ best) → (int_eq until never ≡ true) ⊎ (until ≤ℤ t → until ≤ℤ best)
      → (int_le since t && int_lt t until) ≡ (int_le since best && int_lt best until)
  same_life best since until soon p s (inl e) = grind (arith, ints)
  same_life best since until soon p s (inr e) = grind (arith, ints)

-- at a moment there is no value, or the values are those at one of the stamps
pub record Matched (moments : List Moment) (t : ℤ) : Type 1 where
  pub moment : Moment
  pub among : (P : Moment → Type 0) → AllByRecursion P moments → P moment
  pub same : {X : Type 0} (v : Version X) → is_interval moments v ≡ true → is_current t v ≡ is_current moment.stamp v

pub record Empty (moments : List Moment) (t : ℤ) : Type 1 where
  pub none : {X : Type 0} (v : Version X) → is_interval moments v ≡ true → is_current t v ≡ false

-- an interval starts at a stamp, and ends at one or never
pub record Ends (moments : List Moment) (since until : ℤ) : Type 0 where
  pub begins : is_stamp moments since ≡ true
  pub ends : (int_eq until never ≡ true) ⊎ (is_stamp moments until ≡ true)

pub ends_of : {X : Type 0} (moments : List Moment) (v : Version X) → is_interval moments v ≡ true → Ends moments v.since v.until
ends_of moments v h = go (int_lt v.since v.until) (is_stamp moments v.since) (int_eq v.until never) refl refl h
  where
    go : (a b c : Bool) → is_stamp moments v.since ≡ b → int_eq v.until never ≡ c → (a && b && (c || is_stamp moments v.until)) ≡ true → Ends moments v.since v.until
    go true true true e f h = record { begins = e; ends = inl f }
    go true true false e f h = record { begins = e; ends = inr h }
    go true false c e f h = absurd (false≢true h)
    go false b c e f h = absurd (false≢true h)

pub matched : (moments : List Moment) (t : ℤ) → are_in_range moments ≡ true → Matched moments t ⊎ Empty moments t
matched moments t in_time = go (int_lt t never) refl
  where
    within : (u : ℤ) → is_stamp moments u ≡ true → int_lt u never ≡ true
    within u is = at_stamp t (λ s. int_lt s never ≡ true) u (early_too t u) moments is (early t moments in_time)

    ended : {X : Type 0} → int_lt t never ≡ false → (v : Version X) → is_interval moments v ≡ true → is_current t v ≡ false
    ended late v h = let it = ends_of moments v h in
        elim it.ends [ inl e ↦ gone_at_the_end t v.since v.until late (inl e) | inr e ↦ gone_at_the_end t v.since v.until late (inr (within v.until e)) ]

    by_latest : int_lt t never ≡ true → Latest moments t ⊎ NoneYet moments t → Matched moments t ⊎ Empty moments t
    by_latest soon (inr n) = inr (record { none = λ v h. not_begun t v.since v.until (at_stamp t (λ s. s ≤ℤ t → ⊥) v.since (not_too t v.since) moments (ends_of moments v h).begins n) })
    by_latest soon (inl l) = inl (record {
      moment = l.moment;
      among = l.among;
      same = λ v h.
          let it = ends_of moments v h in
          let upto_best : (u : ℤ) → is_stamp moments u ≡ true → u ≤ℤ t → u ≤ℤ l.moment.stamp = λ u is. at_stamp t (λ s. s ≤ℤ t → s ≤ℤ l.moment.stamp) u (before_too t l.moment.stamp u) moments is l.least in
          same_life t l.moment.stamp v.since v.until soon l.before (upto_best v.since it.begins)
          (elim it.ends [ inl e ↦ inl e | inr e ↦ inr (upto_best v.until e) ]);
    })

    go : (b : Bool) → int_lt t never ≡ b → Matched moments t ⊎ Empty moments t
    go false late = inr (record { none = λ v h. ended late v h })
    go true soon = by_latest soon (latest t moments)
