-- How versions are decoded from the rows of a table.
use Rattle.std.specs.Prelude.{◌≡◌, ◌≢◌, ℕ, List, [], ◌∷◌, map, IsPermutation, Result, Ok, Err, IfErr}
use Rattle.land_core.specs.declared.mandates.Mandate.{Mandate}
use Rattle.land_core.specs.declared.mutation.MutationRecord.{MutationRecord}
use Rattle.land_core.specs.declared.parcel.ParcelRecord.{ParcelRecord}
use Rattle.land_core.specs.declared.party.PartyRecord.{PartyRecord}
use Rattle.land_core.specs.declared.roles.Grant.{Grant}
use Rattle.land_core.specs.declared.rrr.RrrRecord.{RrrRecord}
use Rattle.land_core.specs.declared.source.SourceRecord.{SourceRecord}
use Rattle.land_core.specs.declared.unit.UnitRecord.{UnitRecord}
use Rattle.land_tables_history.specs.declared.group_member.GroupMember.{GroupMember}
use Rattle.land_tables_history.specs.declared.history.History.{History}
use Rattle.land_tables_history.specs.declared.moment.Moment.{Moment}
use Rattle.land_tables_history.specs.declared.naming.Naming.{Naming}
use Rattle.land_tables_history.specs.declared.version.Version.{Version}
use Rattle.land_tables_rows.specs.Edition.Reading.{edition_in}
use Rattle.land_tables_rows.specs.Mandate.Reading.{mandate_in}
use Rattle.land_tables_rows.specs.Member.Reading.{member_in}
use Rattle.land_tables_rows.specs.Moment.Reading.{moment_row_in}
use Rattle.land_tables_rows.specs.Mutation.Reading.{mutation_in}
use Rattle.land_tables_rows.specs.Naming.Reading.{naming_in}
use Rattle.land_tables_rows.specs.Parcel.Reading.{parcel_in}
use Rattle.land_tables_rows.specs.Party.Reading.{party_in}
use Rattle.land_tables_rows.specs.Reading.Readings.{each_row}
use Rattle.land_tables_rows.specs.Role.Reading.{role_grant_in}
use Rattle.land_tables_rows.specs.Rrr.Reading.{rrr_in}
use Rattle.land_tables_rows.specs.Source.Reading.{source_in}
use Rattle.land_tables_rows.specs.Unit.Reading.{unit_in}
use Rattle.land_tables_rows.specs.declared.edition.reading.Edition.{Edition}
use Rattle.land_tables_rows.specs.declared.listing.fault.ReadFault.{ReadFault}
use Rattle.land_tables_rows.specs.declared.listing.fault.ReadFault.TheVariants.{Unreadable, NoMemory}
use Rattle.land_tables_schema.specs.Rows.ReadQueries.{columns_from}
use Rattle.land_tables_schema.specs.Tables as table
use Rattle.land_wire_json.specs.declared.bodies.wire_fault.WireFault.{WireFault}
use Rattle.sqlite_schema.specs.declared.schema.Table.{Table}
use Rattle.sqlite_trees.specs.Tree.{Trees}
use Rattle.sqlite_value.specs.Order.{Row, column}
use Rattle.sqlite.specs.Held.{Held, state}
use Rattle.sqlite.specs.State.{HasCleanDisk}
use Rattle.sqlite.specs.Store.{Ghosts}

-- how records are decoded from the rows of a table: the table, the columns that are read, and the decoder
pub record Listing (X : Type 0) : Type 0 where
  pub table : Table
  pub shown : Row → Row
  pub said : Row → Result X WireFault

-- a list has the columns of all rows of the table, in any order
abbrev pub AreListed : {X : Type 0} → Listing X → Trees → List Row → Type 0
AreListed listing db rows = IsPermutation (map listing.shown (db listing.table.tree)) rows

-- the rows of the table decode to these records, in any order
abbrev pub Says : {X : Type 0} → Listing X → Trees → List X → Type 0
Says listing db xs =
    IsPermutation (map (λ r. listing.said (listing.shown r)) (db listing.table.tree)) (map (λ x. Ok x) xs)

abbrev pub parties : Listing (Version (ℕ × PartyRecord))
parties = record { table = table.party; shown = columns_from 1 5; said = party_in }

abbrev pub roles : Listing (Version Grant)
roles = record { table = table.role; shown = columns_from 1 4; said = role_grant_in }

abbrev pub members : Listing (Version GroupMember)
members = record { table = table.member; shown = columns_from 1 6; said = member_in }

abbrev pub units : Listing (Version (ℕ × UnitRecord))
units = record { table = table.unit; shown = columns_from 1 5; said = unit_in }

abbrev pub parcels : Listing (Version (ℕ × ParcelRecord))
parcels = record { table = table.parcel; shown = columns_from 1 7; said = parcel_in }

abbrev pub rrrs : Listing (Version (ℕ × RrrRecord))
rrrs = record { table = table.rrr; shown = columns_from 1 13; said = rrr_in }

abbrev pub sources : Listing (Version (ℕ × SourceRecord))
sources = record { table = table.source; shown = columns_from 1 5; said = source_in }

abbrev pub mutations : Listing (Version (ℕ × MutationRecord))
mutations = record { table = table.mutation; shown = columns_from 1 10; said = mutation_in }

abbrev pub namings : Listing (Version Naming)
namings = record { table = table.names; shown = columns_from 1 4; said = naming_in }

abbrev pub mandates : Listing (Version Mandate)
mandates = record { table = table.mandate; shown = columns_from 1 4; said = mandate_in }

abbrev pub moments : Listing Moment
moments = record { table = table.moments; shown = λ r. column r 0 ∷ column r 2 ∷ []; said = moment_row_in }

abbrev pub editions : Listing Edition
editions = record { table = table.edition; shown = λ r. column r 0 ∷ column r 2 ∷ []; said = edition_in }

-- the tables of schema version 1 decode to this history, which has no mandates
pub record DecodesHistoryV1 (db : Trees) (history : History) : Type 0 where
  pub parties : Says parties db history.parties
  pub roles : Says roles db history.roles
  pub members : Says members db history.members
  pub units : Says units db history.units
  pub parcels : Says parcels db history.parcels
  pub rrrs : Says rrrs db history.rrrs
  pub sources : Says sources db history.sources
  pub mutations : Says mutations db history.mutations
  pub namings : Says namings db history.namings
  pub none : history.mandates ≡ []

-- all tables decode to this history
pub record DecodesHistory (db : Trees) (history : History) : Type 0 where
  pub parties : Says parties db history.parties
  pub roles : Says roles db history.roles
  pub members : Says members db history.members
  pub units : Says units db history.units
  pub parcels : Says parcels db history.parcels
  pub rrrs : Says rrrs db history.rrrs
  pub sources : Says sources db history.sources
  pub mutations : Says mutations db history.mutations
  pub namings : Says namings db history.namings
  pub mandates : Says mandates db history.mandates

-- the result of decoding rows: their values, or a fault; except out of memory, a fault means that they do not
-- decode
abbrev pub IsRead : {X : Type 0} → (Row → Result X WireFault) → (List Row) → Result (List X) ReadFault
    → Type 0
IsRead said rows (Ok xs) = each_row said rows ≡ Ok xs
IsRead {X} said rows (Err fault) =
    fault ≢ NoMemory → (fault ≡ Unreadable) × ((xs : List X) → each_row said rows ≢ Ok xs)

-- a fault `Unreadable` is returned only if the rows decode to no value
abbrev pub UnreadableOnlyIfNone : {X : Type 0} → (X → Type 0) → ReadFault → Type 0
UnreadableOnlyIfNone {X} Said fault = fault ≡ Unreadable → (x : X) → ¬ Said x

abbrev pub IsUnreadableTable : {X : Type 0} → Listing X → Trees → ReadFault → Type 0
IsUnreadableTable listing db = UnreadableOnlyIfNone (Says listing db)

-- a read returns a fault `Unreadable` only if no value has this relation to the tables
abbrev pub FailsOnlyIfNone : {S X : Type 0} → Ghosts S → Result X ReadFault → (Trees → X → Type 0)
    → (old new : Held S) → Type 0
FailsOnlyIfNone g r Said old new =
    HasCleanDisk (state g new) → IfErr r (UnreadableOnlyIfNone (Said (state g old).now.trees))
