-- Migrating a store from schema version 1 to 2.
use Rattle.std.specs.Prelude.{◌≡◌, ◌⊎◌, ◌≢◌, ℤ, false, [], ◌∷◌, IfErr, IfOk, IsTrue, Result}
use Rattle.std.specs.FinMap as map
use Rattle.land_keep.specs.Timeline.{Timeline, register_at}
use Rattle.land_tables.specs.Adopting.{IsRefused, IsRegisterTo}
use Rattle.land_tables.specs.Calls.{StaysOpenAndSame}
use Rattle.land_tables.specs.TablesState.{IsHonest, IsConsistentState, TablesState, held_timeline}
use Rattle.land_tables.specs.Registers.{IsRegister, version_1}
use Rattle.land_tables.specs.Standing.{HoldsTimeline, decoded_timeline_v1, decoded_timeline}
use Rattle.land_tables.specs.declared.fault.AdoptFault.{AdoptFault}
use Rattle.land_tables.specs.declared.fault.AdoptFault.TheVariants as fault
use Rattle.land_tables_history.specs.declared.moment.Moment.{Moment}
use Rattle.land_tables_rows.specs.Edition.Writing.{HoldsEditions, v2_edition}
use Rattle.land_tables_schema.specs.Schemas.{IsMigratable}
use Rattle.land_tables_schema.specs.Rows.SchemaMigration.{Migrates}
use Rattle.sqlite.specs.Effect.{Database}
use Rattle.sqlite.specs.Held.{Held, state}
use Rattle.sqlite.specs.State.{HasCleanDisk, State, Survives}
use Rattle.sqlite.specs.Store.{Ghosts}
use Rattle.sqlite_trees.specs.Tree.{Trees}

-- no party holds a mandate at any time
abbrev pub HasNoMandates : Timeline → Type 0
HasNoMandates tl = (t : ℤ) → (register_at tl t).mandates ≡ map.empty

-- the tables have edition 2, and hold the timeline of the old tables of schema version 1
pub record IsMigratedFrom (old : Database) (db : Trees) : Type 0 where
  pub edition : HoldsEditions db (v2_edition ∷ [])
  pub holds : HoldsTimeline db (decoded_timeline_v1 old.trees)

-- a store was migrated: it held a register of schema version 1, whose last change was made at this moment;
-- its tables now hold the same timeline, which has no mandates, all of it committed
pub record AreMigrated (latest : Moment) (old new : State) : Type 0 where
  pub register : IsRegisterTo version_1 old.now latest
  pub raisable : IsMigratable old.now.schema
  pub raised : Migrates old.now new.now
  pub office : IsConsistentState new latest.stamp latest.next
  pub timeline : decoded_timeline new.now.trees ≡ decoded_timeline_v1 old.now.trees
  pub mandates : HasNoMandates (decoded_timeline new.now.trees)

-- A store is migrated; or it is refused: as by adopting, for a store error, or because its next table would
-- not get the tree of the mandates. A store that is open after a fault is unchanged, and it is open unless
-- the fault is 502. A crash leaves the same states as before, or schema version 2.
pub record IsMigration (r : Result Moment AdoptFault) (old new : State) : Type 0 where
  pub migrated : HasCleanDisk new → IfOk r (λ latest. AreMigrated latest old new)
  pub refused : HasCleanDisk new → IfErr r (λ why. IsRefused version_1 why old.now)
  pub same : HasCleanDisk new → IfErr r (λ why. why ≢ fault.Store → StaysOpenAndSame old new)
  pub kept : HasCleanDisk new → IfErr r (λ _. IsTrue new.is_open → StaysOpenAndSame old new)
  pub survives : Survives old new (IsMigratedFrom old.now)

-- tables were migrated: their store held a register of schema version 1, they are open, and hold the same
-- timeline, which has no mandates
pub record IsMigrated {S : Type 0} (g : Ghosts S) (old : Held S) (o : TablesState S) : Type 0 where
  pub is_open : o.is_closed ≡ false
  pub register : IsHonest g o → IsRegister version_1 (state g old).now
  pub raisable : IsHonest g o → IsMigratable (state g old).now.schema
  pub raised : IsHonest g o → Migrates (state g old).now (state g o.conn).now
  pub office : IsHonest g o → IsConsistentState (state g o.conn) o.last o.next
  pub timeline : IsHonest g o → held_timeline g o ≡ decoded_timeline_v1 (state g old).now.trees
  pub mandates : IsHonest g o → HasNoMandates (held_timeline g o)

-- an open store has the same content as before, and a crash leaves exactly that
pub record StaysSameAfterCrash (old new : State) : Type 0 where
  pub same : StaysOpenAndSame old new
  pub crash : (db : Trees) → new.may_leave db → db ≡ old.now.trees

-- a crash of a store that was open leaves the last commit, or schema version 2
abbrev pub CrashLeavesOldOrMigrated : (old new : State) → Type 0
CrashLeavesOldOrMigrated old new =
    HasCleanDisk new → IsTrue old.is_open → (db : Trees) → new.may_leave db → (db ≡ old.committed.trees)
    ⊎ IsMigratedFrom old.now db
