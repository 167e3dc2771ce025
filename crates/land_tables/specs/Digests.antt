-- The digests of the history in tables.
use Rattle.std.specs.Prelude.{◌≡◌, ℤ, ◌<ℤ◌, List}
use Rattle.land_digest.specs.History.{history_text}
use Rattle.land_digest.specs.Laws.{HasIntervals}
use Rattle.land_digest.specs.Stamps.{last_stamp_at}
use Rattle.land_tables_history.specs.Open.{never}
use Rattle.land_tables_history.specs.declared.history.History.{History}
use Rattle.land_tables_history.specs.declared.moment.Moment.{Moment}
use Rattle.land_tables_rows.specs.Listing.Reading.{DecodesHistory, Says, moments}
use Rattle.land_tables_rows.specs.Writing.History.{HoldsHistory}
use Rattle.sqlite_trees.specs.Tree.{Trees}

-- A write at a stamp leaves the text up to each earlier stamp unchanged: for each history that the tables
-- held before, they hold one with the same text afterwards. So the digests up to earlier stamps stay the
-- same.
abbrev pub KeepsEarlierText : (stamp : ℤ) → (old new : Trees) → Type 0
KeepsEarlierText stamp old new =
    (before : List Moment) (h : History) → HoldsHistory old before h
    → (after : List Moment) × (k : History) × HoldsHistory new after k
    × ((t : ℤ) → t <ℤ stamp → t <ℤ never → history_text after k t ≡ history_text before h t)

-- Two histories to which the same tables decode have the same text up to each stamp, and the same last stamp
-- at or before each time: the digest is one of the tables, and not of an order in which their rows are read.
abbrev pub TablesHaveOneText : Type 0
TablesHaveOneText =
    (db : Trees) (ones others : List Moment) (h k : History)
    → Says moments db ones → Says moments db others → DecodesHistory db h → DecodesHistory db k
    → HasIntervals ones h → HasIntervals others k
    → ((t : ℤ) → history_text ones h t ≡ history_text others k t)
    × ((at : ℤ) → last_stamp_at ones at ≡ last_stamp_at others at)
