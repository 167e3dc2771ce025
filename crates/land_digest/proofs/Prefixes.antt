-- The text up to a stamp is a prefix of the text up to a later one.
use Rattle.std.proofs.Common.{◌≡◌, ℤ, ◌<ℤ◌, ◌≤ℤ◌, int_le, Bool, true, false, not, ◌&&◌, cond, List, [], ◌∷◌, ◌++◌}
use Rattle.std.proofs.Common.{Some, filter, refl, sym, ap, ap₂, ◌∙◌, subst, arith}
use Rattle.std.specs.List.{AllByRecursion}
use Rattle.std.proofs.lemmas.Int.{ints}
use Rattle.std.proofs.lemmas.List.Concat.{flat_map-append}
use Rattle.land_digest.specs.History.{history_events, history_text}
use Rattle.land_digest.specs.Laws.{EarlierTextIsPrefix}
use Rattle.land_digest.specs.Events.{Event, comes_before, events_between, events_upto, in_order, event_line, insert_event}
use Rattle.land_digest.specs.Events.{events_text}
use Rattle.land_tables_history.specs.declared.history.History.{History}
use Rattle.land_tables_history.specs.declared.moment.Moment.{Moment}
use Rattle.std.specs.Ordering.{int_cmp, is_lt, ordering_then}
use Rattle.std.specs.declared.cmp.Ordering.{Ordering}
use Rattle.std.specs.declared.cmp.Ordering.TheVariants.{Less, Greater}

-- an event is inserted after all that come before it
past_all : (x : Event) (xs ys : List Event) → AllByRecursion (λ y. comes_before x y ≡ false) xs
    → insert_event x (xs ++ ys) ≡ xs ++ insert_event x ys
past_all x [] ys all = refl
past_all x (y ∷ xs) ys all =
    ap (λ b. cond b (x ∷ y ∷ (xs ++ ys)) (y ∷ insert_event x (xs ++ ys))) all.0
    ∙ ap (λ l. y ∷ l) (past_all x xs ys all.1)

-- and before all that come after it
before_all : (x : Event) (xs ys : List Event) → AllByRecursion (λ y. comes_before x y ≡ true) ys
    → insert_event x (xs ++ ys) ≡ insert_event x xs ++ ys
before_all x [] [] all = refl
before_all x [] (y ∷ ys) all = ap (λ b. cond b (x ∷ y ∷ ys) (y ∷ insert_event x ys)) all.0
before_all x (y ∷ xs) ys all =
    ap (λ l. cond (comes_before x y) (x ∷ y ∷ (xs ++ ys)) (y ∷ l)) (before_all x xs ys all)
    ∙ elim (comes_before x y) as (λ b. cond b (x ∷ y ∷ (xs ++ ys)) (y ∷ (insert_event x xs ++ ys))
    ≡ cond b (x ∷ y ∷ xs) (y ∷ insert_event x xs) ++ ys) [ true ↦ refl | false ↦ refl ]

all_put : (P : Event → Type 0) (x : Event) (xs : List Event) → P x → AllByRecursion P xs
    → AllByRecursion P (insert_event x xs)
all_put P x [] p all = (p, tt)
all_put P x (y ∷ xs) p all =
    elim (comes_before x y) as (λ b. AllByRecursion P (cond b (x ∷ y ∷ xs) (y ∷ insert_event x xs))) [
      | true ↦
          (p, all)
      | false ↦ (all.0, all_put P x xs p all.1)
    ]

pub le_from : (a b : ℤ) → int_le a b ≡ true → a ≤ℤ b
le_from a b h = grind (arith, ints)

pub lt_from : (a b : ℤ) → int_le a b ≡ false → b <ℤ a
lt_from a b h = grind (arith, ints)

le_true : (a b : ℤ) → a ≤ℤ b → int_le a b ≡ true
le_true a b h = grind (arith, ints)

le_false : (a b : ℤ) → b <ℤ a → int_le a b ≡ false
le_false a b h = grind (arith, ints)

less_by : (a b : ℤ) (q r s t : Ordering) → a <ℤ b
    → is_lt (ordering_then (ordering_then (ordering_then (ordering_then (int_cmp a b) q) r) s) t) ≡ true
less_by a b q r s t h = let e : int_cmp a b ≡ Less = grind (arith, ints) in
    ap (λ o. is_lt (ordering_then (ordering_then (ordering_then (ordering_then o q) r) s) t)) e

more_by : (a b : ℤ) (q r s t : Ordering) → b <ℤ a
    → is_lt (ordering_then (ordering_then (ordering_then (ordering_then (int_cmp a b) q) r) s) t) ≡ false
more_by a b q r s t h = let e : int_cmp a b ≡ Greater = grind (arith, ints) in
    ap (λ o. is_lt (ordering_then (ordering_then (ordering_then (ordering_then o q) r) s) t)) e

abbrev in_order_upto : ℤ → List Event → List Event
in_order_upto s xs = in_order (events_upto s xs)

module _ (s t : ℤ) (less : s ≤ℤ t) where
  record Parts (xs : List Event) : Type 0 where
    rest : List Event
    is : rest ≡ in_order (events_between (Some s) t xs)
    joined : in_order_upto t xs ≡ in_order_upto s xs ++ rest
    low : AllByRecursion (λ (m : Event). m.stamp ≤ℤ s) (in_order_upto s xs)
    high : AllByRecursion (λ (m : Event). s <ℤ m.stamp) rest

  highs : (x : Event) (ys : List Event) → x.stamp ≤ℤ s → AllByRecursion (λ (m : Event). s <ℤ m.stamp) ys
      → AllByRecursion (λ y. comes_before x y ≡ true) ys
  highs x [] h all = tt
  highs x (y ∷ ys) h all = (
    let a : s <ℤ y.stamp = all.0 in less_by x.stamp y.stamp _ _ _ _ (omega (arith, ints, h, a)),
    highs x ys h all.1,
  )

  lows : (x : Event) (ys : List Event) → s <ℤ x.stamp → AllByRecursion (λ (m : Event). m.stamp ≤ℤ s) ys
      → AllByRecursion (λ y. comes_before x y ≡ false) ys
  lows x [] h all = tt
  lows x (y ∷ ys) h all = (
    let a : y.stamp ≤ℤ s = all.0 in more_by x.stamp y.stamp _ _ _ _ (omega (arith, ints, h, a)),
    lows x ys h all.1,
  )

  abbrev kept : ℤ → List Event → List Event
  kept u xs = filter (λ m. int_le m.stamp u) xs

  abbrev with : Bool → ℤ → Event → List Event → List Event
  with b u x xs = in_order (cond b (x ∷ kept u xs) (kept u xs))

  -- the events of the rest, with one more
  abbrev rest_with : Bool → Bool → Event → List Event → List Event
  rest_with a b x xs =
      in_order (cond (b && not a) (x ∷ events_between (Some s) t xs) (events_between (Some s) t xs))

  parts : (xs : List Event) → Parts xs
  parts [] = record { rest = []; is = refl; joined = refl; low = tt; high = tt }
  parts (x ∷ xs) = go (int_le x.stamp s) (int_le x.stamp t) refl refl (parts xs)
    where
      go : (a b : Bool) → int_le x.stamp s ≡ a → int_le x.stamp t ≡ b → Parts xs → Parts (x ∷ xs)
      go true true is_s is_t p = record {
        rest = p.rest;
        is = p.is ∙ ap₂ (λ a b. rest_with a b x xs) (sym is_s) (sym is_t);
        joined =
            ap (λ b. with b t x xs) is_t ∙ ap (insert_event x) p.joined
            ∙ before_all x (in_order_upto s xs) p.rest (highs x p.rest (le_from x.stamp s is_s) p.high)
            ∙ ap (λ b. with b s x xs ++ p.rest) (sym is_s);
        low = subst (λ b. AllByRecursion (λ (m : Event). m.stamp ≤ℤ s) (with b s x xs)) (sym is_s)
            (all_put (λ (m : Event). m.stamp ≤ℤ s) x (in_order_upto s xs) (le_from x.stamp s is_s) p.low);
        high = p.high;
      }
      go true false is_s is_t p =
          let a = le_from x.stamp s is_s in
          let b = lt_from x.stamp t is_t in
          absurd (omega (arith, ints, a, b, less))
      go false true is_s is_t p = record {
        rest = insert_event x p.rest;
        is = ap (insert_event x) p.is ∙ ap₂ (λ a b. rest_with a b x xs) (sym is_s) (sym is_t);
        joined =
            ap (λ b. with b t x xs) is_t ∙ ap (insert_event x) p.joined
            ∙ past_all x (in_order_upto s xs) p.rest
            (lows x (in_order_upto s xs) (lt_from x.stamp s is_s) p.low)
            ∙ ap (λ b. with b s x xs ++ insert_event x p.rest) (sym is_s);
        low = subst (λ b. AllByRecursion (λ (m : Event). m.stamp ≤ℤ s) (with b s x xs)) (sym is_s) p.low;
        high = all_put (λ (m : Event). s <ℤ m.stamp) x p.rest (lt_from x.stamp s is_s) p.high;
      }
      go false false is_s is_t p = record {
        rest = p.rest;
        is = p.is ∙ ap₂ (λ a b. rest_with a b x xs) (sym is_s) (sym is_t);
        joined = ap (λ b. with b t x xs) is_t ∙ p.joined ∙ ap (λ b. with b s x xs ++ p.rest) (sym is_s);
        low = subst (λ b. AllByRecursion (λ (m : Event). m.stamp ≤ℤ s) (with b s x xs)) (sym is_s) p.low;
        high = p.high;
      }

-- the text up to a later stamp is the text up to an earlier one, and the lines between them
pub text_continues : (moments : List Moment) (h : History) (s t : ℤ) → s ≤ℤ t
    → history_text moments h s ++ events_text (in_order (events_between (Some s) t (history_events moments h)))
    ≡ history_text moments h t
text_continues moments h s t less =
    let all = history_events moments h in
    let p = parts s t less all in
    sym (ap events_text p.joined
    ∙ flat_map-append event_line (in_order_upto s all) p.rest
    ∙ ap (λ l. history_text moments h s ++ events_text l) p.is)

pub earlier_text_is_prefix : EarlierTextIsPrefix
earlier_text_is_prefix moments h s t less =
    let p = parts s t less (history_events moments h) in (
      events_text p.rest,
      ap events_text p.joined
          ∙ flat_map-append event_line (in_order_upto s (history_events moments h)) p.rest,
    )
