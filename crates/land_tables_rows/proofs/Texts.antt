-- The SQL statements that list rowids.
use Rattle.std.proofs.Common.{List, [], ◌∷◌, refl, codes}
use Rattle.land_tables_rows.specs.declared.rowids.listing.TheConstants.{PARTY, ROLE, MEMBER, UNIT, PARCEL, RRR, SOURCE, MUTATION, NAMES, MANDATE}
use Rattle.land_tables_schema.proofs.Asks.{Asks, IsListing, in_first, in_land}
use Rattle.land_tables_schema.proofs.Updates.{plainly}
use Rattle.land_tables_schema.specs.Schemas.{ContainsSchemaV1, IsSchemaV2, schema_v1_with, schema_v2_with}
use Rattle.land_tables_schema.specs.Rows.ReadQueries.{columns_from}
use Rattle.sqlite.specs.Listing.{understood}
use Rattle.sqlite.specs.Term.{col}
use Rattle.sqlite_schema.specs.declared.schema.Index.{Index}
use Rattle.sqlite_schema.specs.declared.schema.Table.{Table}
use Rattle.sqlite_tied.specs.Compute.{everything}

asks_party : (more : List Table) (indexes : List Index) → Asks (schema_v1_with more indexes) PARTY.now (plainly 2 [] (col 1 0 ∷ []))
unfolding understood everything
asks_party more indexes = record { names = codes "rowid" ∷ []; command = refl; unlisted = refl; plain = (refl, refl) }

pub parties : IsListing ContainsSchemaV1 2 PARTY.now (col 1 0 ∷ []) (columns_from 0 1)
parties = record { asks = in_first PARTY.now (plainly 2 [] (col 1 0 ∷ [])) asks_party; read = λ db. refl; shows = λ r. refl }

asks_role : (more : List Table) (indexes : List Index) → Asks (schema_v1_with more indexes) ROLE.now (plainly 4 [] (col 1 0 ∷ []))
unfolding understood everything
asks_role more indexes = record { names = codes "rowid" ∷ []; command = refl; unlisted = refl; plain = (refl, refl) }

pub roles : IsListing ContainsSchemaV1 4 ROLE.now (col 1 0 ∷ []) (columns_from 0 1)
roles = record { asks = in_first ROLE.now (plainly 4 [] (col 1 0 ∷ [])) asks_role; read = λ db. refl; shows = λ r. refl }

asks_member : (more : List Table) (indexes : List Index) → Asks (schema_v1_with more indexes) MEMBER.now (plainly 6 [] (col 1 0 ∷ []))
unfolding understood everything
asks_member more indexes = record { names = codes "rowid" ∷ []; command = refl; unlisted = refl; plain = (refl, refl) }

pub members : IsListing ContainsSchemaV1 6 MEMBER.now (col 1 0 ∷ []) (columns_from 0 1)
members = record { asks = in_first MEMBER.now (plainly 6 [] (col 1 0 ∷ [])) asks_member; read = λ db. refl; shows = λ r. refl }

asks_unit : (more : List Table) (indexes : List Index) → Asks (schema_v1_with more indexes) UNIT.now (plainly 8 [] (col 1 0 ∷ []))
unfolding understood everything
asks_unit more indexes = record { names = codes "rowid" ∷ []; command = refl; unlisted = refl; plain = (refl, refl) }

pub units : IsListing ContainsSchemaV1 8 UNIT.now (col 1 0 ∷ []) (columns_from 0 1)
units = record { asks = in_first UNIT.now (plainly 8 [] (col 1 0 ∷ [])) asks_unit; read = λ db. refl; shows = λ r. refl }

asks_parcel : (more : List Table) (indexes : List Index) → Asks (schema_v1_with more indexes) PARCEL.now (plainly 10 [] (col 1 0 ∷ []))
unfolding understood everything
asks_parcel more indexes = record { names = codes "rowid" ∷ []; command = refl; unlisted = refl; plain = (refl, refl) }

pub parcels : IsListing ContainsSchemaV1 10 PARCEL.now (col 1 0 ∷ []) (columns_from 0 1)
parcels = record { asks = in_first PARCEL.now (plainly 10 [] (col 1 0 ∷ [])) asks_parcel; read = λ db. refl; shows = λ r. refl }

asks_rrr : (more : List Table) (indexes : List Index) → Asks (schema_v1_with more indexes) RRR.now (plainly 12 [] (col 1 0 ∷ []))
unfolding understood everything
asks_rrr more indexes = record { names = codes "rowid" ∷ []; command = refl; unlisted = refl; plain = (refl, refl) }

pub rrrs : IsListing ContainsSchemaV1 12 RRR.now (col 1 0 ∷ []) (columns_from 0 1)
rrrs = record { asks = in_first RRR.now (plainly 12 [] (col 1 0 ∷ [])) asks_rrr; read = λ db. refl; shows = λ r. refl }

asks_source : (more : List Table) (indexes : List Index) → Asks (schema_v1_with more indexes) SOURCE.now (plainly 14 [] (col 1 0 ∷ []))
unfolding understood everything
asks_source more indexes = record { names = codes "rowid" ∷ []; command = refl; unlisted = refl; plain = (refl, refl) }

pub sources : IsListing ContainsSchemaV1 14 SOURCE.now (col 1 0 ∷ []) (columns_from 0 1)
sources = record { asks = in_first SOURCE.now (plainly 14 [] (col 1 0 ∷ [])) asks_source; read = λ db. refl; shows = λ r. refl }

asks_mutation : (more : List Table) (indexes : List Index) → Asks (schema_v1_with more indexes) MUTATION.now (plainly 16 [] (col 1 0 ∷ []))
unfolding understood everything
asks_mutation more indexes = record { names = codes "rowid" ∷ []; command = refl; unlisted = refl; plain = (refl, refl) }

pub mutations : IsListing ContainsSchemaV1 16 MUTATION.now (col 1 0 ∷ []) (columns_from 0 1)
mutations = record { asks = in_first MUTATION.now (plainly 16 [] (col 1 0 ∷ [])) asks_mutation; read = λ db. refl; shows = λ r. refl }

asks_names : (more : List Table) (indexes : List Index) → Asks (schema_v1_with more indexes) NAMES.now (plainly 18 [] (col 1 0 ∷ []))
unfolding understood everything
asks_names more indexes = record { names = codes "rowid" ∷ []; command = refl; unlisted = refl; plain = (refl, refl) }

pub namings : IsListing ContainsSchemaV1 18 NAMES.now (col 1 0 ∷ []) (columns_from 0 1)
namings = record { asks = in_first NAMES.now (plainly 18 [] (col 1 0 ∷ [])) asks_names; read = λ db. refl; shows = λ r. refl }

asks_mandate : (indexes : List Index) → Asks (schema_v2_with indexes) MANDATE.now (plainly 20 [] (col 1 0 ∷ []))
unfolding understood everything
asks_mandate indexes = record { names = codes "rowid" ∷ []; command = refl; unlisted = refl; plain = (refl, refl) }

pub mandates : IsListing IsSchemaV2 20 MANDATE.now (col 1 0 ∷ []) (columns_from 0 1)
mandates = record { asks = in_land MANDATE.now (plainly 20 [] (col 1 0 ∷ [])) asks_mandate; read = λ db. refl; shows = λ r. refl }
