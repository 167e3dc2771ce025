-- The timeline that tables represent.
use Rattle.std.specs.Prelude.{◌≡◌, ℤ, List, []}
use Rattle.land_core.specs.declared.register.Register.{Register}
use Rattle.land_keep.specs.Timeline.{Timeline}
use Rattle.land_tables.specs.Timelines.{RepresentsTimeline, timeline_of}
use Rattle.land_tables_history.specs.History.{register_of_history}
use Rattle.land_tables_history.specs.Moments.{next_number_at}
use Rattle.land_tables_history.specs.declared.history.History.{History}
use Rattle.land_tables_history.specs.declared.moment.Moment.{Moment}
use Rattle.land_tables_rows.specs.Listing.Reading.{Says, DecodesHistory, moments}
use Rattle.land_tables_rows.specs.Listing.Told.{decoded_history, decode_rows}
use Rattle.land_tables_rows.specs.Writing.History.{HoldsHistory}
use Rattle.land_tables_schema.specs.Tables.{mandate}
use Rattle.sqlite_trees.specs.Tree.{Trees, with_tree}

-- the timeline that tables represent, if they represent one
abbrev pub decoded_timeline : Trees → Timeline
decoded_timeline db = timeline_of (decode_rows moments db) (decoded_history db)

-- the tables as if that of mandates had no rows, since schema version 1 does not have it
abbrev pub without_mandate_rows : Trees → Trees
without_mandate_rows db = with_tree db mandate.tree []

-- the timeline that tables of schema version 1 represent, if they represent one
abbrev pub decoded_timeline_v1 : Trees → Timeline
decoded_timeline_v1 db = decoded_timeline (without_mandate_rows db)

-- tables represent a timeline: they hold moments and versions that do
pub record HoldsTimeline (db : Trees) (tl : Timeline) : Type 0 where
  pub listed : List Moment
  pub history : History
  pub holds : HoldsHistory db listed history
  pub stands : RepresentsTimeline listed history tl

-- the register read from tables at a moment: its current versions, with the next number of the latest moment
-- up to it
abbrev pub ReadsAt : Trees → ℤ → Register → Type 0
ReadsAt db t register =
    (listed : List Moment) × (history : History) × Says moments db listed × DecodesHistory db history
    × (register ≡ register_of_history t history (next_number_at listed t))
