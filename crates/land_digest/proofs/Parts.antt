-- The text of a history, part by part.
use Rattle.std.proofs.Common.{◌≡◌, ℤ, ◌≤ℤ◌, int_le, true, false, not, ◌&&◌, cond, List, [], ◌∷◌, ◌++◌}
use Rattle.std.proofs.Common.{Option, Some, None, ℕ, refl, ap, arith}
use Rattle.std.proofs.lemmas.Bool.{and_parts, not-true}
use Rattle.std.proofs.lemmas.Int.{ints}
use Rattle.land_digest.proofs.Prefixes.{le_from, lt_from, text_continues}
use Rattle.land_digest.specs.Events.{Event, events_between, events_text, events_upto, in_order, is_stamp_between}
use Rattle.land_digest.specs.History.{history_events, history_text}
use Rattle.land_tables_history.specs.declared.history.History.{History}
use Rattle.land_tables_history.specs.declared.moment.Moment.{Moment}

-- the text up to a stamp, or none of it
abbrev pub text_until : List Moment → History → Option ℤ → List ℕ
text_until moments h None = []
text_until moments h (Some a) = history_text moments h a

-- a stamp, if there is one, is at most another
abbrev pub IsUpto : Option ℤ → ℤ → Type 0
IsUpto None u = Unit {0}
IsUpto (Some a) u = a ≤ℤ u

all_upto : (u : ℤ) (xs : List Event) → events_between None u xs ≡ events_upto u xs
all_upto u [] = refl
all_upto u (x ∷ xs) =
    elim (int_le x.stamp u) as (λ b. cond (b && not false) (x ∷ events_between None u xs) (events_between None u xs)
    ≡ cond b (x ∷ events_upto u xs) (events_upto u xs)) [
      | true ↦ ap (λ l. x ∷ l) (all_upto u xs)
      | false ↦ all_upto u xs
    ]

-- the text with the lines of one more part
pub part_added : (moments : List Moment) (h : History) (after : Option ℤ) (u : ℤ) → IsUpto after u
    → text_until moments h after
    ++ events_text (in_order (events_between after u (history_events moments h)))
    ≡ history_text moments h u
part_added moments h None u le = ap (λ es. events_text (in_order es)) (all_upto u (history_events moments h))
part_added moments h (Some a) u le = text_continues moments h a u le

-- a stamp between two others
pub between : (after : Option ℤ) (u s : ℤ) → is_stamp_between after u s ≡ true → IsUpto after s × (s ≤ℤ u)
between None u s h = (tt, le_from s u (and_parts (int_le s u) (not false) h).0)
between (Some a) u s h =
    let parts = and_parts (int_le s u) (not (int_le s a)) h in
    let later = lt_from s a (not-true (int_le s a) parts.1) in
    (omega (arith, ints, later), le_from s u parts.0)
