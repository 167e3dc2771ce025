-- The state of `Tables`, which hold a register's timeline, and the effect of calls on it.
use Rattle.std.specs.Prelude.{◌≡◌, ◌⊎◌, ◌≤ℤ◌, ℕ, ℤ, pos, Bool, true, false, [], ◌∷◌, IsTrue, refl}
use Rattle.std.specs.Coded.{Coded, code_by, coded×, coded_ℕ, coded_ℤ, coded_bool}
use Rattle.land_core.specs.Numbers.{last_moment}
use Rattle.land_keep.specs.Keeping.{IsHonestAndOpen}
use Rattle.land_keep.specs.Timeline.{IsSoundTimeline, Timeline, last_register, last_stamp, new_timeline}
use Rattle.land_tables.specs.Standing.{HoldsTimeline, decoded_timeline}
use Rattle.land_tables_history.specs.Intervals.{has_intervals}
use Rattle.land_tables_rows.specs.Edition.Writing.{HoldsEditions, v2_edition}
use Rattle.land_tables_rows.specs.Listing.Reading.{moments}
use Rattle.land_tables_rows.specs.Listing.Told.{decoded_history, decode_rows}
use Rattle.land_tables_schema.specs.Schemas.{IsSchemaV2}
use Rattle.sqlite.specs.Held.{Held, held_code, state}
use Rattle.sqlite.specs.State.{HasCleanDisk, State}
use Rattle.sqlite.specs.Store.{Ghosts}
use Rattle.sqlite_trees.specs.Tree.{Trees}

-- the connection, the last stamp, the next number, and whether the store has failed
pub record TablesState (S : Type 0) : Type 0 where
  pub conn : Held S
  pub last : ℤ
  pub next : ℕ
  pub is_closed : Bool

abbrev pub tables_code : {S : Type 0} → Coded S → Coded (TablesState S)
tables_code {S} store =
    code_by (Held S × (ℤ × (ℕ × Bool)))
    (coded× (held_code store) (coded× coded_ℤ (coded× coded_ℕ coded_bool)))
    (λ o. (o.conn, (o.last, (o.next, o.is_closed))))
    (λ p. record { conn = p.0; last = p.1.0; next = p.1.1.0; is_closed = p.1.1.1 }) (λ _. refl)

-- an open store has the tables of schema version 2, with valid intervals, and they hold a sound timeline, all
-- of it committed
pub record HoldsRegister (s : State) : Type 0 where
  pub is_open : IsTrue s.is_open
  pub committed : s.committed ≡ s.now
  pub has_tables : IsSchemaV2 s.now.schema
  pub edition : HoldsEditions s.now.trees (v2_edition ∷ [])
  pub intervals : has_intervals (decode_rows moments s.now.trees) (decoded_history s.now.trees) ≡ true
  pub holds : HoldsTimeline s.now.trees (decoded_timeline s.now.trees)
  pub sound : IsSoundTimeline (decoded_timeline s.now.trees)

-- the last stamp and the next number are those of the register
pub record IsConsistentState (s : State) (stamp : ℤ) (number : ℕ) : Type 0 where
  pub register : HoldsRegister s
  pub last : stamp ≡ last_stamp (decoded_timeline s.now.trees)
  pub next : number ≡ (last_register (decoded_timeline s.now.trees)).next

-- the timeline in the tables
abbrev pub held_timeline : {S : Type 0} → Ghosts S → TablesState S → Timeline
held_timeline g o = decoded_timeline (state g o.conn).now.trees

-- until now the store has returned the data that was written to it
abbrev pub IsHonest : {S : Type 0} → Ghosts S → TablesState S → Type 0
IsHonest g o = HasCleanDisk (state g o.conn)

-- no call has failed, and the store is honest
abbrev pub IsWorking : {S : Type 0} → Ghosts S → TablesState S → Type 0
IsWorking g o = IsHonestAndOpen (IsHonest g o) o.is_closed

-- the invariant of tables: no transaction is active; and if no call has failed and the store is honest, they
-- hold a timeline
pub record IsTablesState {S : Type 0} (g : Ghosts S) (o : TablesState S) : Type 0 where
  pub alone : o.conn.in_transaction ≡ false
  pub moment : o.last ≤ℤ last_moment
  pub office : IsWorking g o → IsConsistentState (state g o.conn) o.last o.next

-- while the store is honest, every state that a crash leaves has this property
abbrev pub CrashLeaves : {S : Type 0} → Ghosts S → TablesState S → (Trees → Type 0) → Type 0
CrashLeaves g o IsSo = IsHonest g o → (db : Trees) → (state g o.conn).may_leave db → IsSo db

-- while no call has failed, a crash leaves exactly the timeline in the tables
abbrev pub CrashKeeps : {S : Type 0} → Ghosts S → TablesState S → Type 0
CrashKeeps g o = o.is_closed ≡ false → CrashLeaves g o (λ db. HoldsTimeline db (held_timeline g o))

-- if no call had failed before, a crash leaves one of these two timelines
abbrev pub CrashLeavesOneOf : {S : Type 0} → Ghosts S → (old new : TablesState S) → (before after : Timeline)
    → Type 0
CrashLeavesOneOf g old new before after =
    old.is_closed ≡ false → CrashLeaves g new (λ db. HoldsTimeline db before ⊎ HoldsTimeline db after)

-- a new register was created: the tables hold the new timeline
pub record IsNewRegister (s : State) : Type 0 where
  pub office : IsConsistentState s (pos 0) 2
  pub timeline : decoded_timeline s.now.trees ≡ new_timeline

-- tables that were just created are open and hold the new timeline
pub record IsCreated {S : Type 0} (g : Ghosts S) (o : TablesState S) : Type 0 where
  pub timeline : IsHonest g o → held_timeline g o ≡ new_timeline
  pub is_open : o.is_closed ≡ false

-- a store in which nothing was created is open, and has the last committed content
pub record IsRolledBack (old new : State) : Type 0 where
  pub is_open : IsTrue new.is_open
  pub now : new.now ≡ old.committed
  pub committed : new.committed ≡ old.committed

-- and a crash leaves exactly that
pub record StaysUntouchedByCrash (old new : State) : Type 0 where
  pub untouched : IsRolledBack old new
  pub crash : (db : Trees) → new.may_leave db → db ≡ old.committed.trees

-- a crash of a store that was open leaves the last commit, or the new register
abbrev pub CrashLeavesOldOrNew : (old new : State) → Type 0
CrashLeavesOldOrNew old new =
    HasCleanDisk new → IsTrue old.is_open → (db : Trees) → new.may_leave db → (db ≡ old.committed.trees)
    ⊎ HoldsTimeline db new_timeline

-- a store that is open after a fault has its old content, or the last committed content
abbrev pub IsOldOrCommitted : (old new : State) → Type 0
IsOldOrCommitted old new = HasCleanDisk new → IsTrue new.is_open → (new.now ≡ old.now)
    ⊎ (new.now ≡ old.committed)
