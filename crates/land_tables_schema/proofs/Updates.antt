-- The effect of an UPDATE on the content of a table.
use Rattle.std.proofs.Common.{◌≡◌, ℕ, ℤ, pos, negsuc, List, [], ◌∷◌, ◌++◌, map, filter, flat_map, drop, Bool, true, false, not, ◌||◌, None, cond, refl, sym, ap, ap₂, subst, ◌∙◌, IsPermutation}
use Rattle.std.specs.List.{AllByRecursion, list_all, list_any}
use Rattle.std.specs.Ordering.{is_eq, int_eq}
use Rattle.std.proofs.lemmas.List.Sorted.{IsPermutation-sym, IsPermutation-trans, IsPermutation-append_left, IsPermutation-map, list_any-IsPermutation}
use Rattle.land_tables_schema.proofs.Numbers.{numbered_anyhow, numbered_same}
use Rattle.land_tables_schema.proofs.Puts.{puts_are}
use Rattle.land_tables_schema.proofs.Rewrites.{among_is, filter_by, turned_are, without_is}
use Rattle.land_tables_schema.proofs.Statements.{IsUpdated, bare}
use Rattle.land_tables_schema.specs.Schemas.{schema_v2_with}
use Rattle.land_tables_schema.specs.Rows.Forms.{Form, Holds, UpdatesRows, AreNumbered}
use Rattle.land_tables_schema.specs.Rows.ReadQueries.{columns_from}
use Rattle.sqlite.specs.Cast.{cast_row}
use Rattle.sqlite.specs.Edit.{edit_of}
use Rattle.sqlite.specs.Effect.{Database}
use Rattle.sqlite.specs.Program.{overlay}
use Rattle.sqlite.specs.Query.{Query, inner, end, IsAnswer, matches, output, Output}
use Rattle.sqlite.specs.Rowids.TheVariants.{Given}
use Rattle.sqlite.specs.Term.{Term, Env, lit, holds, eval_all}
use Rattle.sqlite.specs.declared.types.Value.TheVariants.{Int}
use Rattle.sqlite_keyed.proofs.ListLemmas.{all_from_test, map-map}
use Rattle.sqlite_rules.proofs.TableLemmas.{int_is}
use Rattle.sqlite_rules.specs.Calls.{ids_of}
use Rattle.sqlite_rules.specs.Edit.{are_fresh, id_in, numbered, put_all, without_all}
use Rattle.sqlite_schema.specs.declared.schema.Index.{Index}
use Rattle.sqlite_trees.proofs.ListLemmas.{all-permutation}
use Rattle.sqlite_trees.specs.Tree.{Trees, has_rowid, put_row, rowid}
use Rattle.sqlite_trees.specs.View.{is_int}
use Rattle.sqlite_value.proofs.OrderLemmas.{value_cmp-Int}
use Rattle.sqlite_value.specs.Order.{Row, value_cmp}

-- a query of one table without DISTINCT, ORDER BY, MAX_COORDINATE and GROUP BY
abbrev pub plainly : ℕ → List Term → List Term → Query
plainly tree filter project =
    record { from = inner tree end; filter = filter; group = None; project = project; distinct = false; collations = []; order = []; limit = lit (Int (negsuc 0)); offset = lit (Int (pos 0)) }

-- whether a row passes WHERE
abbrev pub passes : List Term → Row → Row → Bool
passes filter params r = list_all (holds (params ∷ r ∷ [])) filter

-- the rows that the query finds in one table
found_in : (filter : List Term) (g : Env → Row) (params : Row) (rows : List Row)
    → map g (flat_map (λ r. cond (passes filter params r) ((params ∷ r ∷ []) ∷ []) []) rows) ≡ map (λ r. g (params ∷ r ∷ [])) (Rattle.std.proofs.Common.filter (passes filter params) rows)
found_in filter g params [] = refl
found_in filter g params (r ∷ rs) = go (passes filter params r) (found_in filter g params rs)
  where
    go : (b : Bool) → map g (flat_map (λ r. cond (passes filter params r) ((params ∷ r ∷ []) ∷ []) []) rs) ≡ map (λ r. g (params ∷ r ∷ [])) (Rattle.std.proofs.Common.filter (passes filter params) rs)
        → map g (cond b ((params ∷ r ∷ []) ∷ []) [] ++ flat_map (λ r. cond (passes filter params r) ((params ∷ r ∷ []) ∷ []) []) rs)
        ≡ map (λ r. g (params ∷ r ∷ [])) (cond b (r ∷ Rattle.std.proofs.Common.filter (passes filter params) rs) (Rattle.std.proofs.Common.filter (passes filter params) rs))
    go true rest = ap (λ l. g (params ∷ r ∷ []) ∷ l) rest
    go false rest = rest

-- a result has the columns of each row that passes, in unspecified order
pub answer_is : (tree : ℕ) (filter project : List Term) (db : Trees) (params : Row) (rows : List Row) → IsAnswer (plainly tree filter project) db params rows
    → IsPermutation (map (λ r. eval_all project (params ∷ r ∷ [])) (Rattle.std.proofs.Common.filter (passes filter params) (db tree))) rows
answer_is tree filter project db params rows a =
    let q = plainly tree filter project in
    let all = matches db filter (inner tree end) (params ∷ []) in
    let kept : a.kept ≡ map (output q) all = a.distinct ∙ ap (map (output q)) a.grouped in
    let moved = IsPermutation-map (λ (o : Output). o.1) a.kept a.ordered a.same in
    subst (λ l. IsPermutation l rows) (ap (map (λ (o : Output). o.1)) kept ∙ map-map (λ (o : Output). o.1) (output q) all ∙ found_in filter (eval_all project) params (db tree))
    (subst (IsPermutation (map (λ (o : Output). o.1) a.kept)) (sym a.shown) moved)

-- given rowids are unchanged
pub numbered_given : (rows news : List Row) → numbered Given rows news ≡ news
numbered_given rows [] = refl
numbered_given rows (n ∷ ns) = ap (λ l. n ∷ l) (numbered_given (put_row n rows) ns)

-- likewise by the rowid of a row and by its number
has_is : (ids : List ℤ) (r : Row) → is_int (rowid r) ≡ true → list_any (λ id. has_rowid id r) ids ≡ list_any (λ i. int_eq (id_in (rowid r)) i) ids
has_is [] r whole = refl
has_is (id ∷ ids) r whole = ap₂ ◌||◌ (ap is_eq (ap (λ v. value_cmp v (Int id)) (int_is (rowid r) whole) ∙ value_cmp-Int (id_in (rowid r)) id)) (has_is ids r whole)

-- How a statement changes the values of a table: it finds those that pass, and rewrites each under its rowid.
-- It reads only the rowid of a row, and the columns that count.
pub record IsTurning {X : Type 0} (form : Form X) (filter project : List Term) (params : Row) (passing : X → Bool) (turn : X → X) : Type 0 where
  pub read : (db : Trees) → overlay db [] form.table.tree ≡ db form.table.tree
  pub fills : (id : ℤ) (x : X) → columns_from 1 form.width (Int id ∷ form.cells x) ≡ form.cells x
  pub tests_alike : (r : Row) → passes filter params r ≡ passes filter params (rowid r ∷ columns_from 1 form.width r)
  pub shows_alike : (r : Row) → eval_all project (params ∷ r ∷ []) ≡ eval_all project (params ∷ (rowid r ∷ columns_from 1 form.width r) ∷ [])
  pub tests : (id : ℤ) (x : X) → passes filter params (Int id ∷ form.cells x) ≡ passing x
  pub id_shown : (r : Row) → rowid (eval_all project (params ∷ r ∷ [])) ≡ rowid r
  pub writes : (id : ℤ) (x : X) → cast_row (bare form.table) (drop 1 (eval_all project (params ∷ (Int id ∷ form.cells x) ∷ []))) ≡ Int id ∷ form.cells (turn x)

-- each value that passes is changed
abbrev pub turned : {X : Type 0} → (X → Bool) → (X → X) → X → X
turned passing turn x = cond (passing x) (turn x) x

module _ {X : Type 0} (form : Form X) (filter project : List Term) (params : Row) (passing : X → Bool) (turn : X → X) (is : IsTurning form filter project params passing turn) (l : List Row) (xs : List X)
    (rows_are : IsPermutation (map (columns_from 1 form.width) l) (map form.cells xs)) (n : AreNumbered l) where
  -- the columns of a row that count
  abbrev cells_in : Row → Row
  cells_in r = columns_from 1 form.width r

  -- the new row
  abbrev written : Row → Row
  written r = cast_row (bare form.table) (drop 1 (eval_all project (params ∷ r ∷ [])))

  abbrev step : Row → Row
  step r = cond (passes filter params r) (written r) r

  -- the new row, for the cells of a row
  abbrev cell_step : Row → Row
  cell_step c = cells_in (step (Int (pos 0) ∷ c))

  -- each row is that of a value, under its rowid
  abbrev IsOne : Row → Type 0
  IsOne r = (x : X) × (rowid r ≡ Int (id_in (rowid r))) × (cells_in r ≡ form.cells x)

  all_cells : (ys : List X) → AllByRecursion (λ c. (x : X) × (c ≡ form.cells x)) (map form.cells ys)
  all_cells [] = tt
  all_cells (y ∷ ys) = ((y, refl), all_cells ys)

  ones_of : (rs : List Row) → AllByRecursion (λ r. is_int (rowid r) ≡ true) rs → AllByRecursion (λ c. (x : X) × (c ≡ form.cells x)) (map cells_in rs) → AllByRecursion IsOne rs
  ones_of [] whole all = tt
  ones_of (r ∷ rs) whole all = ((all.0.0, int_is (rowid r) whole.0, all.0.1), ones_of rs whole.1 all.1)

  ones : AllByRecursion IsOne l
  ones = ones_of l (all_from_test (λ r. is_int (rowid r)) l n.whole)
      (all-permutation (λ c. (x : X) × (c ≡ form.cells x)) (map form.cells xs) (map cells_in l) (IsPermutation-sym (map cells_in l) (map form.cells xs) rows_are) (all_cells xs))

  -- the columns read from the row of a value
  seen : (r : Row) (one : IsOne r) → rowid r ∷ cells_in r ≡ Int (id_in (rowid r)) ∷ form.cells one.0
  seen r one = ap₂ (λ a b. a ∷ b) one.1 one.2

  passes_if : (r : Row) (one : IsOne r) → passes filter params r ≡ passing one.0
  passes_if r one = is.tests_alike r ∙ ap (passes filter params) (seen r one) ∙ is.tests (id_in (rowid r)) one.0

  written_is : (r : Row) (one : IsOne r) → written r ≡ Int (id_in (rowid r)) ∷ form.cells (turn one.0)
  written_is r one = ap (λ s. cast_row (bare form.table) (drop 1 s)) (is.shows_alike r ∙ ap (λ s. eval_all project (params ∷ s ∷ [])) (seen r one)) ∙ is.writes (id_in (rowid r)) one.0

  -- the row of a value is changed with the value
  step_cells : (r : Row) (one : IsOne r) → cells_in (step r) ≡ form.cells (turned passing turn one.0)
  step_cells r one = ap₂ (λ b w. cells_in (cond b w r)) (passes_if r one) (written_is r one) ∙ chosen (passing one.0)
    where
      chosen : (b : Bool) → cells_in (cond b (Int (id_in (rowid r)) ∷ form.cells (turn one.0)) r) ≡ form.cells (cond b (turn one.0) one.0)
      chosen true = is.fills (id_in (rowid r)) (turn one.0)
      chosen false = one.2

  -- and its rowid is unchanged
  step_id : (r : Row) (one : IsOne r) → rowid r ≡ rowid (step r)
  step_id r one = chosen (passes filter params r)
    where
      chosen : (b : Bool) → rowid r ≡ rowid (cond b (written r) r)
      chosen true = one.1 ∙ sym (ap rowid (written_is r one))
      chosen false = refl

  cells_step : (c : Row) (x : X) → c ≡ form.cells x → cell_step c ≡ form.cells (turned passing turn x)
  cells_step c x is_x = step_cells (Int (pos 0) ∷ c) (x, refl, ap (λ d. cells_in (Int (pos 0) ∷ d)) is_x ∙ is.fills (pos 0) x)

  stepped : (rs : List Row) → AllByRecursion IsOne rs → map cells_in (map step rs) ≡ map cell_step (map cells_in rs)
  stepped [] all = refl
  stepped (r ∷ rs) all = ap₂ (λ a b. a ∷ b) (step_cells r all.0 ∙ sym (cells_step (cells_in r) all.0.0 all.0.2)) (stepped rs all.1)

  same_ids : (rs : List Row) → AllByRecursion IsOne rs → map rowid rs ≡ map rowid (map step rs)
  same_ids [] all = refl
  same_ids (r ∷ rs) all = ap₂ (λ a b. a ∷ b) (step_id r all.0) (same_ids rs all.1)

  cells_stepped : (ys : List X) → map cell_step (map form.cells ys) ≡ map form.cells (map (turned passing turn) ys)
  cells_stepped [] = refl
  cells_stepped (y ∷ ys) = ap₂ (λ a b. a ∷ b) (cells_step (form.cells y) y refl) (cells_stepped ys)

  -- the rows, each changed if it passes, are those of the values, each changed if it passes
  turned_rows : IsPermutation (map cells_in (map step l)) (map form.cells (map (turned passing turn) xs))
  turned_rows = subst (λ a. IsPermutation a (map form.cells (map (turned passing turn) xs))) (sym (stepped l ones))
      (subst (IsPermutation (map cell_step (map cells_in l))) (cells_stepped xs) (IsPermutation-map cell_step (map cells_in l) (map form.cells xs) rows_are))

  turned_numbered : AreNumbered (map step l)
  turned_numbered = numbered_same l (map step l) (same_ids l ones) n

  -- the rows after an UPDATE
  module _ (found : List Row) (answer : IsPermutation (map (λ r. eval_all project (params ∷ r ∷ [])) (Rattle.std.proofs.Common.filter (passes filter params) l)) found)
      (fresh : are_fresh (without_all l (ids_of found)) (map (λ s. cast_row (bare form.table) (drop 1 s)) found) ≡ true) where
    abbrev passed : List Row
    passed = Rattle.std.proofs.Common.filter (passes filter params) l

    ids_are : IsPermutation (ids_of passed) (ids_of found)
    ids_are = subst (λ a. IsPermutation a (ids_of found)) (map-map (λ r. id_in (rowid r)) (λ r. eval_all project (params ∷ r ∷ [])) passed ∙ shown_ids passed)
        (IsPermutation-map (λ r. id_in (rowid r)) (map (λ r. eval_all project (params ∷ r ∷ [])) passed) found answer)
      where
        shown_ids : (rs : List Row) → map (λ r. id_in (rowid (eval_all project (params ∷ r ∷ [])))) rs ≡ ids_of rs
        shown_ids [] = refl
        shown_ids (r ∷ rs) = ap₂ (λ a b. a ∷ b) (ap id_in (is.id_shown r)) (shown_ids rs)

    tests_are : (rs : List Row) → AllByRecursion (λ r. is_int (rowid r) ≡ true) rs → AllByRecursion (λ r. list_any (λ i. int_eq (id_in (rowid r)) i) (ids_of passed) ≡ passes filter params r) rs
        → AllByRecursion (λ r. not (list_any (λ id. has_rowid id r) (ids_of found)) ≡ not (passes filter params r)) rs
    tests_are [] whole all = tt
    tests_are (r ∷ rs) whole all =
        (ap not (has_is (ids_of found) r whole.0 ∙ sym (list_any-IsPermutation (λ i. int_eq (id_in (rowid r)) i) (ids_of passed) (ids_of found) ids_are) ∙ all.0), tests_are rs whole.1 all.1)

    left_is : without_all l (ids_of found) ≡ Rattle.std.proofs.Common.filter (λ r. not (passes filter params r)) l
    left_is = without_is (ids_of found) l ∙ filter_by _ _ l (tests_are l (all_from_test (λ r. is_int (rowid r)) l n.whole) (among_is (λ r. id_in (rowid r)) (passes filter params) l n.apart))

    news_are : IsPermutation (map written passed) (map (λ s. cast_row (bare form.table) (drop 1 s)) found)
    news_are = subst (λ a. IsPermutation a (map (λ s. cast_row (bare form.table) (drop 1 s)) found)) (map-map (λ s. cast_row (bare form.table) (drop 1 s)) (λ r. eval_all project (params ∷ r ∷ [])) passed)
        (IsPermutation-map (λ s. cast_row (bare form.table) (drop 1 s)) (map (λ r. eval_all project (params ∷ r ∷ [])) passed) found answer)

    pub updated_rows : IsPermutation (map step l) (put_all (without_all l (ids_of found)) (map (λ s. cast_row (bare form.table) (drop 1 s)) found))
    updated_rows =
        let news = map (λ s. cast_row (bare form.table) (drop 1 s)) found in
        let left = without_all l (ids_of found) in
        let others = Rattle.std.proofs.Common.filter (λ r. not (passes filter params r)) l in
        IsPermutation-trans (map step l) (map written passed ++ others) (put_all left news)
        (IsPermutation-sym (map written passed ++ others) (map step l) (turned_are (passes filter params) written l))
        (IsPermutation-trans (map written passed ++ others) (news ++ others) (put_all left news)
        (IsPermutation-append_left others (map written passed) news news_are)
        (subst (λ o. IsPermutation (news ++ o) (put_all left news)) left_is (puts_are news left fresh)))

    pub holds_turned : (new : Trees) → new form.table.tree ≡ put_all (without_all l (ids_of found)) (map (λ s. cast_row (bare form.table) (drop 1 s)) found) → Holds form new (map (turned passing turn) xs)
    holds_turned new new_is =
        let moved : IsPermutation (map step l) (new form.table.tree) = subst (IsPermutation (map step l)) (sym new_is) updated_rows in
        record {
          rows = IsPermutation-trans (map cells_in (new form.table.tree)) (map cells_in (map step l)) (map form.cells (map (turned passing turn) xs))
              (IsPermutation-sym (map cells_in (map step l)) (map cells_in (new form.table.tree)) (IsPermutation-map cells_in (map step l) (new form.table.tree) moved)) turned_rows;
          numbered = numbered_anyhow (map step l) (new form.table.tree) moved turned_numbered;
        }

module _ {X : Type 0} (form : Form X) (filter project : List Term) (params : Row) (passing : X → Bool) (turn : X → X) (is : IsTurning form filter project params passing turn) (indexes : List Index) (old new : Database)
    (did : IsUpdated (schema_v2_with indexes) form.table (plainly form.table.tree filter project) params old new) (has : old.schema ≡ schema_v2_with indexes) where
  news_written : (edit_of old.trees (bare form.table) (ids_of did.found) Given 1 did.found).news ≡ map (λ s. cast_row (bare form.table) (drop 1 s)) did.found
  news_written = numbered_given _ _

  held_turned : (xs : List X) → Holds form old.trees xs → Holds form new.trees (map (turned passing turn) xs)
  held_turned xs held =
      let rows = old.trees form.table.tree in
      let left = without_all rows (ids_of did.found) in
      holds_turned form filter project params passing turn is rows xs held.rows held.numbered did.found
      (subst (λ l. IsPermutation (map (λ r. eval_all project (params ∷ r ∷ [])) (Rattle.std.proofs.Common.filter (passes filter params) l)) did.found) (is.read old.trees)
      (answer_is form.table.tree filter project (overlay old.trees []) params did.found did.answer))
      (subst (λ news. are_fresh left news ≡ true) news_written did.edited_so.fresh)
      new.trees (did.edited_so.rows ∙ ap (put_all left) news_written)

  pub turns : UpdatesRows form (turned passing turn) old new
  turns = record { schema = did.edited_so.schema_is ∙ sym has; held = held_turned; kept = did.edited_so.others }
