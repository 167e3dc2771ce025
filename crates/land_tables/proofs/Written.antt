-- Tables to which a change was written represent the timeline with the change.
use Rattle.std.proofs.Common.{◌≡◌, ◌≢◌, ◌⊎◌, inl, inr, [], ◌∷◌, Bool, true, false, Result, Ok, Err, ℕ, refl, sym, ap, subst, ◌∙◌, IsTrue, arith}
use Rattle.std.specs.Prelude.{ℤ, ◌≤ℤ◌}
use Rattle.std.proofs.lemmas.Int.{ints}
use Rattle.land_core.specs.Numbers.{last_moment}
use Rattle.land_core.specs.declared.change.Change.{Change}
use Rattle.land_core.specs.declared.register.Register.{Register}
use Rattle.land_keep.proofs.Past.{change_stands}
use Rattle.land_keep.specs.Keeping.{CanWrite, IsHonestAndOpen}
use Rattle.land_keep.specs.Laws.{WritingKeepsSound}
use Rattle.land_keep.specs.Machine.{written_timeline}
use Rattle.land_keep.specs.Timeline.{IsSoundTimeline, Timeline, last_register, last_stamp}
use Rattle.land_keep.specs.declared.store_fault.StoreFault.{StoreFault}
use Rattle.land_keep.specs.declared.store_fault.StoreFault.TheVariants.{Store}
use Rattle.land_digest.specs.Laws.{AppendingKeepsText}
use Rattle.land_tables.proofs.KeptIntervals.{writes_keep_intervals, written_as_changed}
use Rattle.land_tables.proofs.KeptTexts.{earlier_text_kept}
use Rattle.land_tables.proofs.Tellings.{tells}
use Rattle.land_tables.proofs.ToldIntervals.{told_intervals}
use Rattle.land_tables.proofs.WrittenTimelines.{stays_last, written_last}
use Rattle.land_tables.specs.Calls.{IsSafeRead, IsSafeWrite, StaysOpenAndSame, MayWriteChange}
use Rattle.land_tables.specs.Digests.{KeepsEarlierText}
use Rattle.land_tables.specs.TablesState.{HoldsRegister, IsHonest, IsConsistentState, IsTablesState, CrashLeavesOneOf, TablesState, CrashKeeps, held_timeline}
use Rattle.land_tables.specs.Standing.{HoldsTimeline, decoded_timeline}
use Rattle.land_tables.specs.Timelines.Laws.{OrderDoesNotMatter, HistoriesRepresentOneTimeline}
use Rattle.land_tables.specs.Timelines.Writing.{WritesRepresentTimelines}
use Rattle.land_tables_history.specs.Changed.{changed_history}
use Rattle.land_tables_history.specs.Intervals.{has_intervals}
use Rattle.land_tables_history.specs.Written.{written_history}
use Rattle.land_tables_rows.specs.Edition.Writing.{v2_edition}
use Rattle.land_tables_rows.specs.Listing.Reading.{moments}
use Rattle.land_tables_rows.specs.Listing.Told.{decoded_history, decode_rows}
use Rattle.land_tables_rows.specs.Recording.Whole.{WritesChange}
use Rattle.land_tables_rows.specs.Writing.History.{HoldsHistory}
use Rattle.land_tables_schema.specs.Schemas.{IsSchemaV2}
use Rattle.sqlite.proofs.StateLemmas.{survives_then, survives_weaker}
use Rattle.sqlite.specs.Effect.{Database}
use Rattle.sqlite.specs.Held.{Held, state}
use Rattle.sqlite.specs.State.{HasCleanDisk, IsUnchanged, State, Survives}
use Rattle.sqlite.specs.Store.{Ghosts}
use Rattle.sqlite_trees.specs.Tree.{Trees}

least : (a b : ℤ) → a ≡ b → a ≤ℤ b
least a b is = omega (arith, ints)

-- the next number is that of the change
next_written : (tl : Timeline) (change : Change) (stamp : ℤ) → IsSoundTimeline (written_timeline tl change stamp) → change.next ≡ (last_register (written_timeline tl change stamp)).next
next_written tl change stamp sound =
    let last = stays_last (written_timeline tl change stamp) stamp sound.rising (least (last_stamp (written_timeline tl change stamp)) stamp (written_last tl change stamp)) in
    ap (λ (r : Register). r.next) (sym (change_stands tl change stamp stamp (least stamp stamp refl)) ∙ last)

module _ (one : HistoriesRepresentOneTimeline) (order : OrderDoesNotMatter) (writes : WritesRepresentTimelines) (keeps : WritingKeepsSound) (change : Change) (stamp : ℤ) where
  module _ (old new : Database) (next : ℕ) (tl : Timeline) (sound : IsSoundTimeline tl) (holds : HoldsTimeline old.trees tl) (were : has_intervals (decode_rows moments old.trees) (decoded_history old.trees) ≡ true)
      (is : next ≡ (last_register tl).next) (can : CanWrite tl change stamp) (done : WritesChange change next stamp old new) where
    valid : has_intervals holds.listed holds.history ≡ true
    valid = sym (told_intervals old.trees tl holds) ∙ were

    pub holds_written : HoldsTimeline new.trees (written_timeline tl change stamp)
    holds_written = record {
      listed = record { stamp = stamp; next = change.next } ∷ holds.listed;
      history = changed_history (last_register tl).next change stamp holds.history;
      holds = subst (HoldsHistory new.trees (record { stamp = stamp; next = change.next } ∷ holds.listed)) (written_as_changed holds.listed holds.history tl sound holds.stands change stamp valid)
          (subst (λ n. HoldsHistory new.trees (record { stamp = stamp; next = change.next } ∷ holds.listed) (written_history n change stamp holds.history)) is (done.held holds.listed holds.history holds.holds));
      stands = writes holds.listed holds.history tl change stamp sound holds.stands can;
    }

    pub tells_written : decoded_timeline new.trees ≡ written_timeline tl change stamp
    tells_written = tells one order new.trees (written_timeline tl change stamp) holds_written (keeps tl change stamp sound can)

    intervals_written : has_intervals (decode_rows moments new.trees) (decoded_history new.trees) ≡ true
    unfolding holds_written
    intervals_written =
        told_intervals new.trees (written_timeline tl change stamp) holds_written
        ∙ writes_keep_intervals holds.listed holds.history tl change stamp sound holds.stands can (keeps tl change stamp sound can) valid

  pub office_written : (old new : State) (last : ℤ) (next : ℕ) → IsConsistentState old last next → CanWrite (decoded_timeline old.now.trees) change stamp → WritesChange change next stamp old.now new.now
      → IsTrue new.is_open → new.committed ≡ new.now → IsConsistentState new stamp change.next
  office_written old new last next office can done is_open committed =
      let tl = decoded_timeline old.now.trees in
      let it = office.register in
      let tells_new = tells_written old.now new.now next tl it.sound it.holds it.intervals office.next can done in
      record {
        register = record {
          is_open = is_open;
          committed = committed;
          has_tables = subst IsSchemaV2 (sym done.schema) it.has_tables;
          edition = done.editions (v2_edition ∷ []) it.edition;
          intervals = intervals_written old.now new.now next tl it.sound it.holds it.intervals office.next can done;
          holds = rw tells_new (holds_written old.now new.now next tl it.sound it.holds it.intervals office.next can done);
          sound = rw tells_new (keeps tl change stamp it.sound can);
        };
        last = rw tells_new (sym (written_last tl change stamp));
        next = rw tells_new (next_written tl change stamp (keeps tl change stamp it.sound can));
      }

clean_before : {P : Trees → Type 0} (a b : State) → Survives a b P → HasCleanDisk b → HasCleanDisk a
clean_before a b s clean = omega (arith, s.clean)

-- a failed write, and the fault that is returned for it
pub not_recorded : {X : Type 0} {Done : Database → Database → Type 0} {Commits : Trees → Type 0} (a b c : State) (fault : StoreFault) → (HasCleanDisk a → HoldsRegister a)
    → (HasCleanDisk b → IsTrue b.is_open → (b.now ≡ a.committed) × (b.committed ≡ a.committed)) → Survives a b Commits
    → (HasCleanDisk c → fault ≢ Store → IsUnchanged b c) → Survives b c (λ _. ⊥) → IsSafeWrite {X = X} (Err fault) Done Commits a c
not_recorded {Commits = Commits} a b c fault register neither first told next = record {
  done = λ _. tt;
  kept = λ _. tt;
  same = λ clean other. (
      let shows = (told clean other).0 in
      let was = clean_before b c next clean in
      let undone = neither was shows.was_open in
      let had = (register (clean_before a b first was)).committed in
      record { is_open = shows.is_open; now = shows.now_is ∙ (undone.0 ∙ had); committed = shows.committed_is ∙ (undone.1 ∙ sym (shows.now_is ∙ undone.0)) });
  survives = survives_then a b c Commits (λ _. ⊥) Commits (λ _ _ x. x) (λ _ _ n. absurd n) first next;
}

-- an unchanged store is as consistent as before
pub same_office : (a b : State) (last : ℤ) (next : ℕ) → IsConsistentState a last next → StaysOpenAndSame a b → IsConsistentState b last next
same_office a b last next office same = record {
  register = record {
    is_open = same.is_open;
    committed = same.committed;
    has_tables = rw same.now office.register.has_tables;
    edition = rw same.now office.register.edition;
    intervals = rw same.now office.register.intervals;
    holds = rw same.now office.register.holds;
    sound = rw same.now office.register.sound;
  };
  last = rw same.now office.last;
  next = rw same.now office.next;
}

-- while the store is open, a crash leaves the last commit
abbrev pub Settles : {S : Type 0} → Ghosts S → Held S → Type 0
Settles g conn = (db : Trees) → IsTrue (state g conn).is_open → (state g conn).may_leave db → db ≡ (state g conn).committed.trees

pub rests : {S : Type 0} (g : Ghosts S) (o : TablesState S) → Settles g o.conn → IsTablesState g o → CrashKeeps g o
rests g o settles whole open_still clean db may =
    let it = (whole.office (clean, open_still)).register in
    let left : db ≡ (state g o.conn).now.trees = settles db it.is_open may ∙ ap (λ (d : Database). d.trees) it.committed in
    rw left it.holds

-- a call leaves the state that it found, or the one that it committed
pub leaves_either : {S : Type 0} (g : Ghosts S) (old new : TablesState S) (after : Timeline) → Settles g old.conn → IsTablesState g old
    → (old.is_closed ≡ false → Survives (state g old.conn) (state g new.conn) (λ db. HoldsTimeline db after)) → CrashLeavesOneOf g old new (held_timeline g old) after
leaves_either g old new after settles whole survives open_still clean db may = go ((survives open_still).crash clean db may)
  where
    go : (state g old.conn).may_leave db ⊎ HoldsTimeline db after → HoldsTimeline db (held_timeline g old) ⊎ HoldsTimeline db after
    go (inl before) = inl (rests g old settles whole open_still (clean_before (state g old.conn) (state g new.conn) (survives open_still) clean) db before)
    go (inr commits) = inr commits

-- tables after a write
module _ {S : Type 0} (g : Ghosts S) (one : HistoriesRepresentOneTimeline) (order : OrderDoesNotMatter) (writes : WritesRepresentTimelines) (keeps : WritingKeepsSound) (change : Change) (stamp : ℤ)
    (now : TablesState S) (whole : IsTablesState g now) (open_still : now.is_closed ≡ false) (can : IsHonestAndOpen (IsHonest g now) now.is_closed → CanWrite (held_timeline g now) change stamp) (conn : Held S) where
  abbrev a : State
  a = state g now.conn

  abbrev b : State
  b = state g conn

  abbrev IsSafe : Result (Unit {0}) StoreFault → Type 0
  IsSafe r = IsSafeWrite r (WritesChange change now.next stamp) (MayWriteChange change now.next stamp (state g now.conn).now) (state g now.conn) (state g conn)

  pub crash_written : (r : Result (Unit {0}) StoreFault) → IsSafe r → Survives (state g now.conn) (state g conn) (λ db. HoldsTimeline db (written_timeline (held_timeline g now) change stamp))
  crash_written r safe = survives_weaker a b (MayWriteChange change now.next stamp a.now) (λ db. HoldsTimeline db (written_timeline (held_timeline g now) change stamp))
      (λ clean db may.
      let live : IsHonestAndOpen (IsHonest g now) now.is_closed = (clean_before a b safe.survives clean, open_still) in
      let office = whole.office live in
      subst (λ trees. HoldsTimeline trees (written_timeline (held_timeline g now) change stamp)) (sym may.2)
      (holds_written one order writes keeps change stamp a.now may.0 now.next (held_timeline g now) office.register.sound office.register.holds office.register.intervals office.next (can live) may.1))
      safe.survives

  pub timeline_written : IsSafe (Ok tt) → IsHonest g (record now { conn = conn }) → decoded_timeline (state g conn).now.trees ≡ written_timeline (held_timeline g now) change stamp
  timeline_written safe clean =
      let live : IsHonestAndOpen (IsHonest g now) now.is_closed = (clean_before a b safe.survives clean, open_still) in
      let office = whole.office live in
      tells_written one order writes keeps change stamp a.now b.now now.next (held_timeline g now) office.register.sound office.register.holds office.register.intervals office.next (can live) (safe.done clean)

  pub text_written : AppendingKeepsText → IsSafe (Ok tt) → IsHonest g (record now { conn = conn }) → KeepsEarlierText stamp (state g now.conn).now.trees (state g conn).now.trees
  text_written law safe clean =
      let live : IsHonestAndOpen (IsHonest g now) now.is_closed = (clean_before a b safe.survives clean, open_still) in
      let office = whole.office live in
      earlier_text_kept law one order change now.next stamp a.now b.now (held_timeline g now) office.register.sound office.register.holds office.register.intervals office.next (safe.done clean)

  pub whole_written : (closed : Bool) → conn.in_transaction ≡ false → stamp ≤ℤ last_moment → IsSafe (Ok tt) → IsTablesState g (record { conn = conn; last = stamp; next = change.next; is_closed = closed })
  whole_written closed alone moment safe = record {
    alone = alone;
    moment = moment;
    office = λ still. (
        let live : IsHonestAndOpen (IsHonest g now) now.is_closed = (clean_before a b safe.survives still.0, open_still) in
        office_written one order writes keeps change stamp a b now.last now.next (whole.office live) (can live) (safe.done still.0) (safe.kept still.0).0 (safe.kept still.0).1);
  }

  pub whole_unwritten : (fault : StoreFault) (closed : Bool) → (closed ≡ false → fault ≢ Store) → conn.in_transaction ≡ false → IsSafe (Err fault)
      → IsTablesState g (record { conn = conn; last = now.last; next = now.next; is_closed = closed })
  whole_unwritten fault closed other alone safe = record {
    alone = alone;
    moment = whole.moment;
    office = λ still. same_office a b now.last now.next (whole.office (clean_before a b safe.survives still.0, open_still)) (safe.same still.0 (other still.1));
  }

-- tables after a failed read
pub whole_read : {S X : Type 0} (g : Ghosts S) (now : TablesState S) → IsTablesState g now → now.is_closed ≡ false → (conn : Held S) (closed : Bool) → conn.in_transaction ≡ false
    → (fault : StoreFault) (Given : X → Type 0) → (closed ≡ false → fault ≢ Store) → IsSafeRead (Err fault) Given (state g now.conn) (state g conn)
    → IsTablesState g (record { conn = conn; last = now.last; next = now.next; is_closed = closed })
whole_read {X = X} g now whole open_still conn closed alone fault Given other safe = record {
  alone = alone;
  moment = whole.moment;
  office = λ live. same_office (state g now.conn) (state g conn) now.last now.next (whole.office (clean_before (state g now.conn) (state g conn) safe.survives live.0, open_still))
      (safe.same live.0 (λ e. other live.1 (faults e)));
}
  where
    faults : ◌≡◌ {A = Result X StoreFault} (Err fault) (Err Store) → fault ≡ Store
    faults e = cc
