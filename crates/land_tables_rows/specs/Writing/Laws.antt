-- Laws of the tables' content, each over the definitions only.
use Rattle.std.specs.Prelude.{List, [], ◌∷◌}
use Rattle.land_tables_history.specs.declared.history.History.{History}
use Rattle.land_tables_history.specs.declared.moment.Moment.{Moment}
use Rattle.land_tables_history.specs.declared.version.Version.{Version}
use Rattle.land_tables_rows.specs.Edition.Writing.{HoldsEditions, v2_edition, v1_edition}
use Rattle.land_tables_rows.specs.Mandate.Writing.{mandate_reading}
use Rattle.land_tables_rows.specs.Member.Writing.{member_reading}
use Rattle.land_tables_rows.specs.Moment.Writing.{HoldsMoments}
use Rattle.land_tables_rows.specs.Mutation.Writing.{mutation_reading}
use Rattle.land_tables_rows.specs.Naming.Writing.{naming_reading}
use Rattle.land_tables_rows.specs.Parcel.Writing.{parcel_reading}
use Rattle.land_tables_rows.specs.Party.Writing.{party_reading}
use Rattle.land_tables_rows.specs.Role.Writing.{role_reading}
use Rattle.land_tables_rows.specs.Rrr.Writing.{rrr_reading}
use Rattle.land_tables_rows.specs.Source.Writing.{source_reading}
use Rattle.land_tables_rows.specs.Unit.Writing.{unit_reading}
use Rattle.land_tables_rows.specs.Writing.History.{HoldsHistoryV1, HoldsHistory}
use Rattle.land_tables_rows.specs.Writing.Holding.{Keeps, Reading}
use Rattle.land_tables_rows.specs.Writing.NewHistory.{new_history, new_moments}
use Rattle.land_tables_schema.specs.Rows.Held.{HoldsRows, new_rows}
use Rattle.land_tables_schema.specs.Rows.Forms.{KeepsOthers}
use Rattle.land_tables_schema.specs.Rows.SchemaMigration.{Migrates}
use Rattle.land_tables_schema.specs.Tables as table
use Rattle.sqlite.specs.Effect.{Database}
use Rattle.sqlite_trees.specs.Tree.{Trees}

-- if one table is rewritten and the others are unchanged, the tables hold the history with the new versions
-- of that table
abbrev pub HoldsWith : {X : Type 0} → Reading X → (List (Version X) → History → History) → Type 0
HoldsWith {X} reading with =
    (old new : Trees) (moments : List Moment) (history : History) (versions : List (Version X))
    → HoldsHistory old moments history → KeepsOthers reading.table old new → Keeps reading new versions
    → HoldsHistory new moments (with versions history)

-- this holds for each table; if only moments are written, the history is unchanged
pub record TableChangesKeepHistory : Type 0 where
  pub moments : (old new : Trees) (moments others : List Moment) (history : History)
      → HoldsHistory old moments history → KeepsOthers table.moments old new → HoldsMoments new others
      → HoldsHistory new others history
  pub parties : HoldsWith party_reading (λ vs h. record h { parties = vs })
  pub roles : HoldsWith role_reading (λ vs h. record h { roles = vs })
  pub members : HoldsWith member_reading (λ vs h. record h { members = vs })
  pub units : HoldsWith unit_reading (λ vs h. record h { units = vs })
  pub parcels : HoldsWith parcel_reading (λ vs h. record h { parcels = vs })
  pub rrrs : HoldsWith rrr_reading (λ vs h. record h { rrrs = vs })
  pub sources : HoldsWith source_reading (λ vs h. record h { sources = vs })
  pub mutations : HoldsWith mutation_reading (λ vs h. record h { mutations = vs })
  pub namings : HoldsWith naming_reading (λ vs h. record h { namings = vs })
  pub mandates : HoldsWith mandate_reading (λ vs h. record h { mandates = vs })

-- the rows of a new register decode to its history and to edition 2
pub record NewRowsAreRead (db : Trees) : Type 0 where
  pub history : HoldsHistory db new_moments new_history
  pub editions : HoldsEditions db (v2_edition ∷ [])

abbrev pub NewRowsHoldNewRegister : Type 0
NewRowsHoldNewRegister = (db : Trees) → HoldsRows db new_rows → NewRowsAreRead db

-- the migrated tables hold the same history and edition 2
pub record MigratedRowsAreRead (db : Trees) (moments : List Moment) (held : History) : Type 0 where
  pub history : HoldsHistory db moments held
  pub editions : HoldsEditions db (v2_edition ∷ [])

-- migrating tables of schema version 1 preserves their history
abbrev pub MigratedRegistersAreHeld : Type 0
MigratedRegistersAreHeld = (old new : Database) (moments : List Moment) (history : History)
    → Migrates old new → HoldsHistoryV1 old.trees moments history → HoldsEditions old.trees (v1_edition ∷ [])
    → MigratedRowsAreRead new.trees moments history
