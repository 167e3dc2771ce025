-- The whole content of the register's tables.
use Rattle.std.specs.Prelude.{◌≡◌, pos, List, [], ◌∷◌, codes}
use Rattle.land_tables_schema.specs.Schemas.{v2_schema}
use Rattle.land_tables_schema.specs.Rows.Edition.{Edition, v2_edition, edition_row}
use Rattle.land_tables_schema.specs.Rows.Forms.{Holds, Lists}
use Rattle.land_tables_schema.specs.Rows.Mandate.{MandateRow, mandate_form}
use Rattle.land_tables_schema.specs.Rows.Member.{MemberRow, member_form}
use Rattle.land_tables_schema.specs.Rows.Moments.{Moment, moment_row}
use Rattle.land_tables_schema.specs.Rows.Mutation.{MutationRow, mutation_form}
use Rattle.land_tables_schema.specs.Rows.Names.{NamesRow, names_form}
use Rattle.land_tables_schema.specs.Rows.Parcel.{ParcelRow, parcel_form}
use Rattle.land_tables_schema.specs.Rows.Party.{PartyRow, party_form}
use Rattle.land_tables_schema.specs.Rows.Role.{RoleRow, role_form}
use Rattle.land_tables_schema.specs.Rows.Rrr.{RrrRow, rrr_form}
use Rattle.land_tables_schema.specs.Rows.Source.{SourceRow, source_form}
use Rattle.land_tables_schema.specs.Rows.Unit.{UnitRow, unit_form}
use Rattle.land_tables_schema.specs.Rows.Versions.{Version, opened_version}
use Rattle.land_tables_schema.specs.Tables as table
use Rattle.sqlite.specs.Effect.{Database}
use Rattle.sqlite_trees.specs.Tree.{Trees}

-- the schema version, the commits, and all versions of the register's records
pub record Rows : Type 0 where
  pub editions : List Edition
  pub moments : List Moment
  pub parties : List (Version PartyRow)
  pub roles : List (Version RoleRow)
  pub members : List (Version MemberRow)
  pub units : List (Version UnitRow)
  pub parcels : List (Version ParcelRow)
  pub rrrs : List (Version RrrRow)
  pub sources : List (Version SourceRow)
  pub mutations : List (Version MutationRow)
  pub namings : List (Version NamesRow)
  pub mandates : List (Version MandateRow)

-- the tables hold these values and nothing else
pub record HoldsRows (db : Trees) (rows : Rows) : Type 0 where
  pub the_editions : Lists table.edition edition_row db rows.editions
  pub the_moments : Lists table.moments moment_row db rows.moments
  pub the_parties : Holds party_form db rows.parties
  pub the_roles : Holds role_form db rows.roles
  pub the_members : Holds member_form db rows.members
  pub the_units : Holds unit_form db rows.units
  pub the_parcels : Holds parcel_form db rows.parcels
  pub the_rrrs : Holds rrr_form db rows.rrrs
  pub the_sources : Holds source_form db rows.sources
  pub the_mutations : Holds mutation_form db rows.mutations
  pub the_namings : Holds names_form db rows.namings
  pub the_mandates : Holds mandate_form db rows.mandates

-- a new register: since moment 0, party 1, the Land Office, is state administrator, and the next number is 2
abbrev pub new_rows : Rows
new_rows = record {
  editions = v2_edition ∷ [];
  moments = record { stamp = pos 0; next = 2 } ∷ [];
  parties =
      opened_version (record { number = 1; name = codes "Land Office"; kind = codes "nonNaturalPerson" })
      (pos 0) ∷ [];
  roles = opened_version (record { party = 1; role = codes "stateAdministrator" }) (pos 0) ∷ [];
  members = [];
  units = [];
  parcels = [];
  rrrs = [];
  sources = [];
  mutations = [];
  namings = [];
  mandates = [];
}

-- the database of a new register: its schema, and its rows
pub record IsNew (db : Database) : Type 0 where
  pub schema : db.schema ≡ v2_schema
  pub rows : HoldsRows db.trees new_rows
