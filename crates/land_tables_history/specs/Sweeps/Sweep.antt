-- Values that are current together under a key are sound at each moment.
use Rattle.std.specs.Prelude.{◌≡◌, ℕ, ℤ, Bool, true, ◌&&◌, ◌==◌, int_le, int_lt, List, filter}
use Rattle.std.specs.Prelude.{map as map_list}
use Rattle.land_tables_history.specs.declared.sweeps.sweep.LiveSpan.{LiveSpan}

-- a span of this key includes the moment; it includes its start, and not its end
abbrev pub is_at : {T : Type 0} → (key : ℕ) → (t : ℤ) → LiveSpan T → Bool
is_at key t x = (x.key == key) && int_le x.since t && int_lt t x.until

-- the values that are current under a key at a moment
abbrev pub values_under_key : {T : Type 0} → List (LiveSpan T) → (key : ℕ) → (t : ℤ) → List T
values_under_key live_spans key t = map_list (λ x. x.what) (filter (is_at key t) live_spans)

-- for each key and moment, the values that are current together are sound
abbrev pub AreSound : {T : Type 0} → (List T → Bool) → List (LiveSpan T) → Type 0
AreSound is_sound live_spans = (key : ℕ) (t : ℤ) → is_sound (values_under_key live_spans key t) ≡ true
