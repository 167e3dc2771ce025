-- Which stores are opened as registers, and why others are refused.
use Rattle.std.specs.Prelude.{◌≡◌, ◌≢◌, ℕ, true, false, IfErr, IfOk, IsTrue, Result, Ok, Err, ⊤}
use Rattle.land_keep.specs.Timeline.{IsSoundTimeline, Timeline, last_register, last_stamp}
use Rattle.land_tables.specs.Calls.{StaysOpenAndSame}
use Rattle.land_tables.specs.TableContents.{Finds, ReadsTablesV1, is_one_edition, is_version}
use Rattle.land_tables.specs.TablesState.{IsHonest, IsConsistentState, TablesState}
use Rattle.land_tables.specs.Registers.{HasValidIntervals, IsOfVersion, HasRegisterSchema, IsRegister}
use Rattle.land_tables.specs.Registers.{MayBeRegister, SchemaVersion}
use Rattle.land_tables.specs.Registers.{version_2}
use Rattle.land_tables.specs.Standing.{HoldsTimeline, decoded_timeline}
use Rattle.land_tables.specs.declared.fault.AdoptFault.{AdoptFault}
use Rattle.land_tables.specs.declared.fault.AdoptFault.TheVariants as fault
use Rattle.land_tables.specs.declared.table_contents.TableContents.{TableContents}
use Rattle.land_tables_history.specs.declared.moment.Moment.{Moment}
use Rattle.land_tables_rows.specs.Listing.Reading.{editions}
use Rattle.land_tables_rows.specs.Listing.Told.{decode_rows}
use Rattle.land_tables_schema.specs.Schemas.{MayBeRegisterSchema}
use Rattle.sqlite.specs.Effect.{Database}
use Rattle.sqlite.specs.Held.{Held, state}
use Rattle.sqlite.specs.State.{HasCleanDisk, State, Survives}
use Rattle.sqlite.specs.Store.{Ghosts}

-- ---- faults

-- why a store is refused as a register of a schema version: it passes the tests before this one, and fails
-- this one
abbrev pub IsRefused : SchemaVersion → AdoptFault → Database → Type 0
IsRefused shapes fault.NotOurs db = ¬ HasRegisterSchema shapes db
IsRefused shapes fault.Version db = HasRegisterSchema shapes db × (¬ IsOfVersion shapes db)
IsRefused shapes fault.Interval db = IsOfVersion shapes db × (¬ HasValidIntervals shapes db)
IsRefused shapes fault.Unsound db =
    HasValidIntervals shapes db
    × ((tl : Timeline) → HoldsTimeline (shapes.rows db.trees) tl → ¬ IsSoundTimeline tl)
IsRefused shapes fault.NoMemory db = ⊤
IsRefused shapes fault.Store db = ⊤

-- a read fails only with a fault for which the store is refused as a register of this schema version
abbrev pub IsRefusedBy : {S X : Type 0} → Ghosts S → Result X AdoptFault → SchemaVersion → (old new : Held S)
    → Type 0
IsRefusedBy g r shapes old new =
    HasCleanDisk (state g new) → IfErr r (λ fault. IsRefused shapes fault (state g old).now)

-- a store that is refused, except if out of memory or for a store error, does not hold a register
abbrev pub HoldsNoRegister : SchemaVersion → AdoptFault → Database → Type 0
HoldsNoRegister shapes why db = why ≢ fault.NoMemory → why ≢ fault.Store → ¬ IsRegister shapes db

-- ---- the tables of schema version 1

-- the decoded tables of schema version 1, in a store whose edition is of this version
pub record IsReadFrom (version : ℕ) (db : Database) (found : TableContents) : Type 0 where
  pub has_tables : MayBeRegisterSchema db.schema
  pub finds : ReadsTablesV1 db.trees found
  pub one : is_one_edition found.editions ≡ true
  pub made : is_version version found.editions ≡ true

-- or why they cannot be read
abbrev pub IsNotOfVersion : ℕ → AdoptFault → Database → Type 0
IsNotOfVersion version fault.NotOurs db = ¬ MayBeRegister db
IsNotOfVersion version fault.Version db = MayBeRegister db
    × (is_version version (decode_rows editions db.trees) ≡ false)
IsNotOfVersion version fault.Interval db = ⊥
IsNotOfVersion version fault.Unsound db = ⊥
IsNotOfVersion version fault.NoMemory db = ⊤
IsNotOfVersion version fault.Store db = ⊤

-- the decoded tables of a store of this schema version
pub record IsContentsFor (shapes : SchemaVersion) (db : Database) (found : TableContents) : Type 0 where
  pub made : IsOfVersion shapes db
  pub finds : Finds (shapes.rows db.trees) found

-- ---- the effect of opening

-- a store with a register whose last change was made at this moment
pub record IsRegisterTo (shapes : SchemaVersion) (db : Database) (latest : Moment) : Type 0 where
  pub register : IsRegister shapes db
  pub last : latest.stamp ≡ last_stamp (decoded_timeline (shapes.rows db.trees))
  pub next : latest.next ≡ (last_register (decoded_timeline (shapes.rows db.trees))).next

-- the contents of a store with a register, and the moment of its last change
pub record AreRegisterContents (db : Database) (it : TableContents × Moment) : Type 0 where
  pub register : IsRegisterTo version_2 db it.1
  pub finds : Finds db.trees it.0

-- the moment of the last change, without the contents
abbrev pub latest_of : Result (TableContents × Moment) AdoptFault → Result Moment AdoptFault
latest_of (Ok it) = Ok it.1
latest_of (Err why) = Err why

-- A store is validated: it has a register, or is refused. A store that is open is unchanged, and it is open
-- unless the fault is 502. In either case nothing is committed, and a crash leaves the same states as before.
pub record IsValidation (shapes : SchemaVersion) (r : Result Moment AdoptFault)
    (old new : State) : Type 0 where
  pub register : HasCleanDisk new → IfOk r (IsRegisterTo shapes old.now)
  pub refused : HasCleanDisk new → IfErr r (λ why. IsRefused shapes why old.now)
  pub same : HasCleanDisk new → r ≢ Err fault.Store → StaysOpenAndSame old new
  pub kept : HasCleanDisk new → IsTrue new.is_open → StaysOpenAndSame old new
  pub survives : Survives old new (λ _. ⊥)

-- a store was opened as a register: it holds one, is open and unchanged
pub record IsAdopted {S : Type 0} (g : Ghosts S) (old : Held S) (o : TablesState S) : Type 0 where
  pub is_open : o.is_closed ≡ false
  pub register : IsHonest g o → IsRegister version_2 (state g old).now
  pub office : IsHonest g o → IsConsistentState (state g o.conn) o.last o.next
  pub same : IsHonest g o → StaysOpenAndSame (state g old) (state g o.conn)
