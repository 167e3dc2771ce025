-- The statements on `mandate`.
use Rattle.std.proofs.Common.{ℕ, pos, false, List, [], ◌∷◌, refl, ◌∙◌, codes}
use Rattle.std.specs.Ordering.{int_eq}
use Rattle.land_tables_schema.proofs.Asks.{Asks, IsListing, in_land}
use Rattle.land_tables_schema.proofs.Casts.{all_three, cast_null, cast_whole, same_number}
use Rattle.land_tables_schema.proofs.Statements.{IsInsertion, IsUpdate}
use Rattle.land_tables_schema.proofs.Updates.{plainly}
use Rattle.land_tables_schema.proofs.Versions.{IsBeginning, IsClosing, begin_terms, close_terms, columns_of}
use Rattle.land_tables_schema.specs.Schemas.{IsSchemaV2, schema_v2_with}
use Rattle.land_tables_schema.specs.Rows.ReadQueries.{columns_from}
use Rattle.land_tables_schema.specs.Rows.Mandate.{is_mandate, mandate_cells}
use Rattle.land_tables_schema.specs.Rows.Versions.{never, whole}
use Rattle.land_tables_schema.specs.Tables as table
use Rattle.land_tables_schema.specs.declared.rows.tables.mandate.TheConstants.{ALL, BEGIN, CLOSE}
use Rattle.sqlite.specs.Listing.{understood}
use Rattle.sqlite.specs.Term.{Term, lit, col, op2}
use Rattle.sqlite.specs.declared.types.Value.TheVariants.{Int}
use Rattle.sqlite_schema.specs.declared.schema.Index.{Index}
use Rattle.sqlite_sql.specs.declared.ops.BinaryOp.TheVariants.{Compare}
use Rattle.sqlite_sql.specs.declared.ops.CompareOp.TheVariants.{Eq}
use Rattle.sqlite_tied.specs.Compute.{everything}
use Rattle.sqlite_typed.proofs.TestLemmas.{at_ints, then_term, last_term}
use Rattle.sqlite_value.specs.declared.keys.Collation.TheVariants.{Binary}

inserts_one : (indexes : List Index) → IsInsertion (schema_v2_with indexes) BEGIN.now 11 table.mandate (begin_terms 2) 5
unfolding understood everything
inserts_one indexes = record { command = refl; plain = (refl, refl); table = refl; one = λ _. refl; alone = λ _ _. refl }

pub beginning : IsBeginning table.mandate mandate_cells BEGIN.now 11 2
beginning = record { insertion = inserts_one; fills = λ id v. refl; shows = λ c since. refl; exact = λ c since. simp (cast_null, cast_whole) }

abbrev pub where_it_stands : List Term
where_it_stands = op2 (Compare Eq Binary) (col 1 1) (col 0 0) ∷ op2 (Compare Eq Binary) (col 1 2) (col 0 1) ∷ op2 (Compare Eq Binary) (col 1 4) (lit (Int never)) ∷ []

updates_it : (indexes : List Index) → IsUpdate (schema_v2_with indexes) CLOSE.now 11 table.mandate (plainly 20 where_it_stands (close_terms 2 2))
unfolding understood everything
updates_it indexes = record { command = refl; plain = (refl, refl); table = refl; alone = λ _ _ _. refl }

pub closing : (principal agent : ℕ) → IsClosing table.mandate 2 mandate_cells CLOSE.now 11 where_it_stands (close_terms 2 2) (whole principal ∷ whole agent ∷ []) (is_mandate principal agent)
closing principal agent = record {
  update = updates_it;
  turning = λ stamp. record {
    read = λ db. refl;
    fills = λ id v. refl;
    tests_alike = λ r. refl;
    shows_alike = λ r. refl;
    tests = λ id v.
        then_term (at_ints false Eq (pos v.what.principal) (pos principal)) (then_term (at_ints false Eq (pos v.what.agent) (pos agent)) (last_term (at_ints false Eq v.until never)))
        ∙ all_three (int_eq v.until never) (same_number v.what.principal principal) (same_number v.what.agent agent);
    id_shown = λ r. refl;
    writes = λ id v. simp (cast_whole);
  };
}

asks_all : (indexes : List Index) → Asks (schema_v2_with indexes) ALL.now (plainly 20 [] (columns_of 1 1 4))
unfolding understood everything
asks_all indexes = record { names = codes "principal" ∷ codes "agent" ∷ codes "since" ∷ codes "until" ∷ []; command = refl; unlisted = refl; plain = (refl, refl) }

pub listing : IsListing IsSchemaV2 20 ALL.now (columns_of 1 1 4) (columns_from 1 4)
listing = record { asks = in_land ALL.now (plainly 20 [] (columns_of 1 1 4)) asks_all; read = λ db. refl; shows = λ r. refl }
