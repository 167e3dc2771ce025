-- The mutation that a party lodged with a reference: its statement as a query of one table, and the rows that
-- it returns.
use Rattle.std.proofs.Common.{◌≡◌, ◌&&◌, ℕ, ℤ, pos, List, [], ◌∷◌, codes, Ok, refl, ap, ◌∙◌}
use Rattle.land_core.specs.Mutations.{is_lodged_as}
use Rattle.land_core.specs.Texts.{is_reference}
use Rattle.land_core.specs.Words.{state_word}
use Rattle.land_core.specs.declared.mutation.MutationRecord.{MutationRecord}
use Rattle.land_select_queries.proofs.Joined.{Asks}
use Rattle.land_select_queries.proofs.Known.{caller, same, still}
use Rattle.land_select_queries.proofs.Places as place
use Rattle.land_select_queries.proofs.Places.{shows}
use Rattle.land_select_queries.proofs.Records.{are_rows}
use Rattle.land_select_queries.proofs.Shapes.{Fits}
use Rattle.land_select_queries.proofs.Tested.{by_reference, decides_by}
use Rattle.land_select_queries.specs.Joins.Execution.{known_or_zero}
use Rattle.land_select_queries.specs.Lookups.RecordRows.{AreLodgedRows}
use Rattle.land_select_queries.specs.declared.lookups.texts.TheConstants.{MUTATION_LODGED_AS}
use Rattle.land_tables_history.specs.Standing.{is_current}
use Rattle.land_tables_history.specs.declared.version.Version.{Version}
use Rattle.land_tables_rows.proofs.CellReadings.{kept_is}
use Rattle.land_tables_rows.proofs.Stepping.{same_value, stepped}
use Rattle.land_tables_rows.specs.Listing.Reading.{mutations}
use Rattle.land_tables_rows.specs.Mutation.Reading.{mutation_in}
use Rattle.land_tables_rows.specs.Reading.Cells.{end_in, moment_in, number_in, reference_in, text_in}
use Rattle.land_tables_rows.specs.Reading.Words.{state_in}
use Rattle.land_tables_schema.proofs.Updates.{passes, plainly}
use Rattle.land_tables_schema.proofs.Versions.{columns_of}
use Rattle.land_tables_schema.specs.Schemas.{schema_v2_with}
use Rattle.land_tables_schema.specs.Rows.Versions.{whole}
use Rattle.land_wire_json.specs.Bodies.Mutations.{content_in}
use Rattle.sqlite.specs.Listing.{understood}
use Rattle.sqlite.specs.Program.{overlay}
use Rattle.sqlite.specs.Query.{IsAnswer, Query}
use Rattle.sqlite.specs.Term.{Term, col}
use Rattle.sqlite_schema.specs.declared.schema.Index.{Index}
use Rattle.sqlite_tied.specs.Compute.{everything}
use Rattle.sqlite_trees.specs.Tree.{Trees}
use Rattle.sqlite_value.specs.Order.{Row, column}
use Rattle.sqlite_value.specs.declared.value.Value.TheVariants.{Int, Null, Text}

-- the parameters: the lodger, the time, the reference
abbrev pub asked : (lodger : ℕ) → (t : ℤ) → (reference : List ℕ) → Row
asked lodger t reference = Int (pos (known_or_zero lodger)) ∷ Int t ∷ Text reference ∷ []

-- the tests of WHERE: the lodger, the reference and the lifespan
abbrev pub filter : List Term
filter = same (col 1 2) caller ∷ same (col 1 3) (col 0 2) ∷ still 1 9

abbrev pub query : Query
query = plainly mutations.table.tree filter (columns_of 1 1 10)

-- the statement is exactly this query
pub asks : (indexes : List Index) → Asks (schema_v2_with indexes) MUTATION_LODGED_AS.now query
unfolding understood everything
asks indexes = record { names = codes "number" ∷ codes "lodger" ∷ codes "reference" ∷ codes "source" ∷ codes "lodged" ∷ codes "act" ∷ codes "content" ∷ codes "state" ∷ codes "since" ∷ codes "until" ∷ []; command = refl; unlisted = refl; plain = (refl, refl) }

module _ (r : Row) (v : Version (ℕ × MutationRecord)) (e : mutations.said (mutations.shown r) ≡ Ok v) where
  reference_is : column r 3 ≡ Text v.what.1.reference
  unfolding mutation_in
  reference_is =
      let a = stepped (number_in (column r 1)) _ v e in
      let b = stepped (number_in (column r 2)) _ v a.rest in
      let c = stepped (reference_in (column r 3)) _ v b.rest in
      let s = stepped (number_in (column r 4)) _ v c.rest in
      let l = stepped (moment_in (column r 5)) _ v s.rest in
      let w = stepped (text_in (column r 6)) _ v l.rest in
      let t = stepped (text_in (column r 7)) _ v w.rest in
      let k = stepped (content_in w.given t.given) _ v t.rest in
      let m = stepped (state_in (column r 8)) _ v k.rest in
      let d = stepped (moment_in (column r 9)) _ v m.rest in
      let f = stepped (end_in (column r 10)) _ v d.rest in
      kept_is is_reference (column r 3) v.what.1.reference (c.is ∙ ap (λ (w : Version (ℕ × MutationRecord)). Ok w.what.1.reference) (same_value _ v f.rest))

  -- the shape of a mutation, with its reference
  abbrev shape : Row
  shape = Null ∷ whole v.what.0 ∷ whole v.what.1.lodger ∷ Text v.what.1.reference ∷ Null ∷ Null ∷ Null ∷ Null ∷ Text (state_word v.what.1.state) ∷ Int v.since ∷ Int v.until ∷ []

  fits : Fits shape 0 r
  fits =
      let it = (shows place.mutations r v e).0 in
      (it.0, (it.1.0, (it.1.1.0, (reference_is, it.1.1.1.1))))

  -- a row of a mutation passes if the mutation is current and was lodged so
  pub tests : (lodger : ℕ) (reference : List ℕ) (t : ℤ) → passes filter (asked lodger t reference) r ≡ (is_current t v && is_lodged_as lodger reference v.what.1)
  tests lodger reference t =
      by_reference (passes filter (asked lodger t reference) r) v.what.1.lodger lodger v.what.1.reference reference t v.since v.until (shows place.mutations r v e).1.0
      (decides_by filter (asked lodger t reference) shape r fits refl)

-- the result of the statement has the rows of that mutation
pub are_lodged_as : (lodger : ℕ) (reference : List ℕ) (t : ℤ) (db : Trees) (rows : List Row) → IsAnswer query (overlay db []) (asked lodger t reference) rows → AreLodgedRows lodger reference t db rows
are_lodged_as lodger reference t db rows answer =
    are_rows mutations filter (columns_of 1 1 10) (asked lodger t reference) (λ mutation. is_lodged_as lodger reference mutation.1) t db refl (λ r. refl) (λ r v e. tests r v e lodger reference t) rows answer
