-- The statement on `moments`.
use Rattle.std.proofs.Common.{ℕ, List, [], ◌∷◌, Ok, refl, codes}
use Rattle.land_tables_schema.proofs.Appends.{appends}
use Rattle.land_tables_schema.proofs.Asks.{Asks, IsListing, in_first}
use Rattle.land_tables_schema.proofs.Casts.{cast_null, cast_whole}
use Rattle.land_tables_schema.proofs.KnownSchemas.{but_for_indexes}
use Rattle.land_tables_schema.proofs.Statements.{IsInsertion, inserts}
use Rattle.land_tables_schema.proofs.Updates.{plainly}
use Rattle.land_tables_schema.specs.Schemas.{ContainsSchemaV1, IsSchemaV2, schema_v1_with, schema_v2_with}
use Rattle.land_tables_schema.specs.Rows.Forms.{Appends}
use Rattle.land_tables_schema.specs.Rows.Moments.{Moment, moment_row}
use Rattle.land_tables_schema.specs.Rows.Versions.{whole}
use Rattle.land_tables_schema.specs.Tables as table
use Rattle.land_tables_schema.specs.declared.rows.tables.moments.TheConstants.{ALL, INSERT}
use Rattle.sqlite.specs.Listing.{understood}
use Rattle.sqlite.specs.State.{State, Executes}
use Rattle.sqlite.specs.Term.{Term, lit, col}
use Rattle.sqlite.specs.declared.types.Value.TheVariants.{Int, Null}
use Rattle.sqlite_schema.specs.declared.schema.Index.{Index}
use Rattle.sqlite_schema.specs.declared.schema.Table.{Table}
use Rattle.sqlite_tied.specs.Compute.{everything}
use Rattle.sqlite_value.specs.Order.{column}

abbrev terms : List Term
terms = col 0 0 ∷ lit Null ∷ col 0 1 ∷ []

inserts_one : (indexes : List Index) → IsInsertion (schema_v2_with indexes) INSERT.now 1 table.moments terms 3
unfolding understood everything
inserts_one indexes = record { command = refl; plain = (refl, refl); table = refl; one = λ _. refl; alone = λ _ _. refl }

pub puts_in : (old new : State) (m : Moment) (count : ℕ) → IsSchemaV2 old.now.schema → Executes INSERT.now (Int m.stamp ∷ whole m.next ∷ []) old new (Ok count) → Appends table.moments moment_row m old.now new.now
puts_in old new m count has_tables h =
    let indexes = old.now.schema.indexes in
    let has = but_for_indexes old.now.schema has_tables in
    appends table.moments moment_row m m.stamp (Null ∷ whole m.next ∷ []) refl indexes old.now new.now
    (inserts (schema_v2_with indexes) INSERT.now 1 table.moments terms 3 (inserts_one indexes) old new (Int m.stamp ∷ whole m.next ∷ []) count has h) has (simp (cast_null, cast_whole))

asks_all : (more : List Table) (indexes : List Index) → Asks (schema_v1_with more indexes) ALL.now (plainly 1 [] (col 1 0 ∷ col 1 2 ∷ []))
unfolding understood everything
asks_all more indexes = record { names = codes "stamp" ∷ codes "next" ∷ []; command = refl; unlisted = refl; plain = (refl, refl) }

pub listing : IsListing ContainsSchemaV1 1 ALL.now (col 1 0 ∷ col 1 2 ∷ []) (λ r. column r 0 ∷ column r 2 ∷ [])
listing = record { asks = in_first ALL.now (plainly 1 [] (col 1 0 ∷ col 1 2 ∷ [])) asks_all; read = λ db. refl; shows = λ r. refl }
