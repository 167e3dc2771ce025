-- Commits sorted by stamp: only neighbours need comparison.
use Rattle.std.specs.Prelude.{Bool, true, ◌&&◌, nat_le, nat_lt, int_lt, List, [], ◌∷◌, length}
use Rattle.std.specs.Ordering.{int_cmp}
use Rattle.std.specs.declared.cmp.Ordering.{Ordering}
use Rattle.land_tables_history.specs.declared.moment.Moment.{Moment}

-- by stamp
abbrev pub stamp_cmp : Moment → Moment → Ordering
stamp_cmp a b = int_cmp a.stamp b.stamp

-- a commit may precede another: its stamp is earlier, and its next number is not greater
abbrev pub precedes : Moment → Moment → Bool
precedes a b = int_lt a.stamp b.stamp && nat_le a.next b.next

-- a commit may precede the first of the later ones
abbrev pub precedes_first : Moment → List Moment → Bool
precedes_first m [] = true
precedes_first m (next ∷ later) = precedes m next

-- each commit may precede the next one
abbrev pub is_increasing : List Moment → Bool
is_increasing [] = true
is_increasing (m ∷ ms) = precedes_first m ms && is_increasing ms

-- there is a commit, and each may precede the next one
abbrev pub is_chain : List Moment → Bool
is_chain ms = nat_lt 0 (length ms) && is_increasing ms
