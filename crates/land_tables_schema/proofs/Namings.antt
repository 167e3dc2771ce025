-- The statements on `names`.
use Rattle.std.proofs.Common.{List, refl, codes, [], ◌∷◌}
use Rattle.land_tables_schema.proofs.Asks.{Asks, IsListing, in_first}
use Rattle.land_tables_schema.proofs.Casts.{cast_null, cast_whole}
use Rattle.land_tables_schema.proofs.Statements.{IsInsertion}
use Rattle.land_tables_schema.proofs.Updates.{plainly}
use Rattle.land_tables_schema.proofs.Versions.{IsBeginning, begin_terms, columns_of}
use Rattle.land_tables_schema.specs.Schemas.{ContainsSchemaV1, schema_v1_with, schema_v2_with}
use Rattle.land_tables_schema.specs.Rows.ReadQueries.{columns_from}
use Rattle.land_tables_schema.specs.Rows.Names.{names_cells}
use Rattle.land_tables_schema.specs.Tables.{names}
use Rattle.land_tables_schema.specs.declared.rows.tables.names.TheConstants.{ALL, BEGIN}
use Rattle.sqlite.specs.Listing.{understood}
use Rattle.sqlite_schema.specs.declared.schema.Index.{Index}
use Rattle.sqlite_schema.specs.declared.schema.Table.{Table}
use Rattle.sqlite_tied.specs.Compute.{everything}

inserts_one : (indexes : List Index) → IsInsertion (schema_v2_with indexes) BEGIN.now 10 names (begin_terms 2) 5
unfolding understood everything
inserts_one indexes = record { command = refl; plain = (refl, refl); table = refl; one = λ _. refl; alone = λ _ _. refl }

pub beginning : IsBeginning names names_cells BEGIN.now 10 2
beginning = record { insertion = inserts_one; fills = λ id v. refl; shows = λ c since. refl; exact = λ c since. simp (cast_null, cast_whole) }

asks_all : (more : List Table) (indexes : List Index) → Asks (schema_v1_with more indexes) ALL.now (plainly 18 [] (columns_of 1 1 4))
unfolding understood everything
asks_all more indexes = record { names = codes "mutation" ∷ codes "unit" ∷ codes "since" ∷ codes "until" ∷ []; command = refl; unlisted = refl; plain = (refl, refl) }

pub listing : IsListing ContainsSchemaV1 18 ALL.now (columns_of 1 1 4) (columns_from 1 4)
listing = record { asks = in_first ALL.now (plainly 18 [] (columns_of 1 1 4)) asks_all; read = λ db. refl; shows = λ r. refl }
