-- The events of a history, their order and their text.
use Rattle.std.specs.Option.{option_map_or}
use Rattle.std.specs.Prelude.{ℕ, ℤ, Bool, false, not, ◌&&◌, int_le, List, [], ◌∷◌, filter, flat_map, Option}
use Rattle.std.specs.Prelude.{if◌then◌else◌}
use Rattle.std.specs.Ordering.{int_cmp, is_eq, is_lt, nat_cmp, ordering_then}
use Rattle.std.specs.declared.cmp.Ordering.{Ordering}
use Rattle.land_core.specs.Entries.{are_distinct}
use Rattle.land_digest.specs.Fields.{Field, Number, fields_line, number_field}

-- A row of a table starts (0) or ends (1) at a stamp. It is identified by the number of its table and the two
-- numbers of its key. A start has all values of the row, and an end has none.
pub record Event : Type 0 where
  pub stamp : ℤ
  pub ends : ℕ
  pub table : ℕ
  pub first : ℕ
  pub second : ℕ
  pub values : List Field

-- ---- order

-- by stamp, starts before ends, then by table and by key
abbrev pub event_cmp : Event → Event → Ordering
event_cmp a b =
    ordering_then (ordering_then (ordering_then (ordering_then (int_cmp a.stamp b.stamp)
    (nat_cmp a.ends b.ends)) (nat_cmp a.table b.table)) (nat_cmp a.first b.first)) (nat_cmp a.second b.second)

abbrev pub comes_before : Event → Event → Bool
comes_before a b = is_lt (event_cmp a b)

-- inserts an event before the first that comes after it
abbrev pub insert_event : Event → List Event → List Event
insert_event x [] = x ∷ []
insert_event x (y ∷ ys) = if comes_before x y then x ∷ y ∷ ys else y ∷ insert_event x ys

abbrev pub in_order : List Event → List Event
in_order [] = []
in_order (x ∷ xs) = insert_event x (in_order xs)

-- two events have the same place in the order
abbrev pub is_same_event_place : Event → Event → Bool
is_same_event_place a b = is_eq (event_cmp a b)

-- no two events have the same place
abbrev pub have_distinct_places : List Event → Bool
have_distinct_places events = are_distinct is_same_event_place events

-- the events up to a stamp
abbrev pub events_upto : ℤ → List Event → List Event
events_upto s events = filter (λ e. int_le e.stamp s) events

-- a stamp that is after another one, if there is one, and at most a third
abbrev pub is_stamp_between : (after : Option ℤ) → (upto : ℤ) → ℤ → Bool
is_stamp_between after upto s = int_le s upto && not (option_map_or (λ a. int_le s a) after false)

-- the events between two stamps
abbrev pub events_between : (after : Option ℤ) → (upto : ℤ) → List Event → List Event
events_between after upto events = filter (λ e. is_stamp_between after upto e.stamp) events

-- ---- text: one line per event

abbrev pub event_fields : Event → List Field
event_fields e =
    Number e.stamp ∷ number_field e.ends ∷ number_field e.table ∷ number_field e.first ∷ number_field e.second
    ∷ e.values

abbrev pub event_line : Event → List ℕ
event_line e = fields_line (event_fields e)

abbrev pub events_text : List Event → List ℕ
events_text events = flat_map event_line events
