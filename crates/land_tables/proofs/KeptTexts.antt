-- A write keeps the text of the history up to each earlier stamp.
use Rattle.std.proofs.Common.{◌≡◌, ◌∙◌, ℕ, ℤ, true, ◌∷◌, List, subst, sym}
use Rattle.land_core.specs.declared.change.Change.{Change}
use Rattle.land_digest.specs.Laws.{AppendingKeepsText}
use Rattle.land_keep.specs.Timeline.{IsSoundTimeline, Timeline, last_register}
use Rattle.land_tables.proofs.KeptIntervals.{written_as_changed}
use Rattle.land_tables.proofs.Tellings.{held_is_said, read_stands}
use Rattle.land_tables.proofs.ToldIntervals.{told_intervals}
use Rattle.land_tables.specs.Digests.{KeepsEarlierText}
use Rattle.land_tables.specs.Standing.{HoldsTimeline}
use Rattle.land_tables.specs.Timelines.Laws.{HistoriesRepresentOneTimeline, OrderDoesNotMatter}
use Rattle.land_tables_history.specs.Changed.{changed_history}
use Rattle.land_tables_history.specs.Intervals.{has_intervals}
use Rattle.land_tables_history.specs.Written.{written_history}
use Rattle.land_tables_history.specs.declared.history.History.{History}
use Rattle.land_tables_history.specs.declared.moment.Moment.{Moment}
use Rattle.land_tables_rows.specs.Listing.Reading.{moments}
use Rattle.land_tables_rows.specs.Listing.Told.{decode_rows, decoded_history}
use Rattle.land_tables_rows.specs.Recording.Whole.{WritesChange}
use Rattle.land_tables_rows.specs.Writing.History.{HoldsHistory}
use Rattle.sqlite.specs.Effect.{Database}
use Rattle.sqlite_trees.specs.Tree.{Trees}

-- any history that tables of a sound timeline hold is written as it is changed
held_as_changed : HistoriesRepresentOneTimeline → OrderDoesNotMatter → (db : Trees) (tl : Timeline) → IsSoundTimeline tl → HoldsTimeline db tl → has_intervals (decode_rows moments db) (decoded_history db) ≡ true
    → (change : Change) (next : ℕ) (stamp : ℤ) → next ≡ (last_register tl).next → (listed : List Moment) (h : History) → HoldsHistory db listed h → written_history next change stamp h ≡ changed_history next change stamp h
held_as_changed one order db tl sound holds were change next stamp is listed h held =
    let again : HoldsTimeline db tl = record { listed = listed; history = h; holds = held; stands = read_stands one order db tl holds listed h held.the_moments (held_is_said db listed h held) } in
    subst (λ (n : ℕ). written_history n change stamp h ≡ changed_history n change stamp h) (sym is)
    (written_as_changed listed h tl sound again.stands change stamp (sym (told_intervals db tl again) ∙ were))

pub earlier_text_kept : AppendingKeepsText → HistoriesRepresentOneTimeline → OrderDoesNotMatter → (change : Change) (next : ℕ) (stamp : ℤ) (old new : Database) (tl : Timeline) → IsSoundTimeline tl
    → HoldsTimeline old.trees tl → has_intervals (decode_rows moments old.trees) (decoded_history old.trees) ≡ true → next ≡ (last_register tl).next → WritesChange change next stamp old new
    → KeepsEarlierText stamp old.trees new.trees
earlier_text_kept law one order change next stamp old new tl sound holds were is writes before h held = (
  record { stamp = stamp; next = change.next } ∷ before,
  changed_history next change stamp h,
  subst (HoldsHistory new.trees (record { stamp = stamp; next = change.next } ∷ before)) (held_as_changed one order old.trees tl sound holds were change next stamp is before h held) (writes.held before h held),
  λ t earlier finite. law before h next change stamp t earlier finite,
)
