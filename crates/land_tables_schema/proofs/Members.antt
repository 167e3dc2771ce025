-- The statements on `member`.
use Rattle.std.proofs.Common.{◌&&◌, ℕ, pos, false, List, [], ◌∷◌, refl, ap, ◌∙◌, codes}
use Rattle.std.specs.Ordering.{int_eq}
use Rattle.land_tables_schema.proofs.Asks.{Asks, IsListing, in_first}
use Rattle.land_tables_schema.proofs.Casts.{cast_null, cast_whole, same_number}
use Rattle.land_tables_schema.proofs.Statements.{IsInsertion, IsUpdate}
use Rattle.land_tables_schema.proofs.Updates.{plainly}
use Rattle.land_tables_schema.proofs.Versions.{IsBeginning, IsClosing, begin_terms, close_terms, columns_of}
use Rattle.land_tables_schema.specs.Schemas.{ContainsSchemaV1, schema_v1_with, schema_v2_with}
use Rattle.land_tables_schema.specs.Rows.ReadQueries.{columns_from}
use Rattle.land_tables_schema.specs.Rows.Member.{is_row_of_group, member_cells}
use Rattle.land_tables_schema.specs.Rows.Versions.{never, whole}
use Rattle.land_tables_schema.specs.Tables.{member}
use Rattle.land_tables_schema.specs.declared.rows.tables.member.TheConstants.{ALL, BEGIN, CLOSE}
use Rattle.sqlite.specs.Listing.{understood}
use Rattle.sqlite.specs.Term.{Term, lit, col, op2}
use Rattle.sqlite.specs.declared.types.Value.TheVariants.{Int}
use Rattle.sqlite_schema.specs.declared.schema.Index.{Index}
use Rattle.sqlite_schema.specs.declared.schema.Table.{Table}
use Rattle.sqlite_sql.specs.declared.ops.BinaryOp.TheVariants.{Compare}
use Rattle.sqlite_sql.specs.declared.ops.CompareOp.TheVariants.{Eq}
use Rattle.sqlite_tied.specs.Compute.{everything}
use Rattle.sqlite_typed.proofs.TestLemmas.{at_ints, then_term, last_term}
use Rattle.sqlite_value.specs.declared.keys.Collation.TheVariants.{Binary}

inserts_one : (indexes : List Index) → IsInsertion (schema_v2_with indexes) BEGIN.now 4 member (begin_terms 4) 7
unfolding understood everything
inserts_one indexes = record { command = refl; plain = (refl, refl); table = refl; one = λ _. refl; alone = λ _ _. refl }

pub beginning : IsBeginning member member_cells BEGIN.now 4 4
beginning = record { insertion = inserts_one; fills = λ id v. refl; shows = λ c since. refl; exact = λ c since. simp (cast_null, cast_whole) }

abbrev pub where_it_stands : List Term
where_it_stands = op2 (Compare Eq Binary) (col 1 1) (col 0 0) ∷ op2 (Compare Eq Binary) (col 1 6) (lit (Int never)) ∷ []

updates_it : (indexes : List Index) → IsUpdate (schema_v2_with indexes) CLOSE.now 4 member (plainly 6 where_it_stands (close_terms 4 1))
unfolding understood everything
updates_it indexes = record { command = refl; plain = (refl, refl); table = refl; alone = λ _ _ _. refl }

pub closing : (grp : ℕ) → IsClosing member 4 member_cells CLOSE.now 4 where_it_stands (close_terms 4 1) (whole grp ∷ []) (is_row_of_group grp)
closing grp = record {
  update = updates_it;
  turning = λ stamp. record {
    read = λ db. refl;
    fills = λ id v. refl;
    tests_alike = λ r. refl;
    shows_alike = λ r. refl;
    tests = λ id v. then_term (at_ints false Eq (pos v.what.grp) (pos grp)) (last_term (at_ints false Eq v.until never)) ∙ ap (λ b. b && int_eq v.until never) (same_number v.what.grp grp);
    id_shown = λ r. refl;
    writes = λ id v. simp (cast_whole);
  };
}

asks_all : (more : List Table) (indexes : List Index) → Asks (schema_v1_with more indexes) ALL.now (plainly 6 [] (columns_of 1 1 6))
unfolding understood everything
asks_all more indexes = record { names = codes "grp" ∷ codes "party" ∷ codes "num" ∷ codes "den" ∷ codes "since" ∷ codes "until" ∷ []; command = refl; unlisted = refl; plain = (refl, refl) }

pub listing : IsListing ContainsSchemaV1 6 ALL.now (columns_of 1 1 6) (columns_from 1 6)
listing = record { asks = in_first ALL.now (plainly 6 [] (columns_of 1 1 6)) asks_all; read = λ db. refl; shows = λ r. refl }
