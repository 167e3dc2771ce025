-- From a row inserted into a table that is keyed by a number, to the values that its rows decode to.
use Rattle.std.proofs.Common.{◌≡◌, List, [], ◌∷◌, map, Ok, Result, refl, sym, ap, ap₂, subst, ◌∙◌, IsPermutation}
use Rattle.std.specs.List.{AllByRecursion}
use Rattle.std.proofs.lemmas.List.Sorted.{IsPermutation-refl, IsPermutation-sym, IsPermutation-trans, IsPermutation-cons, IsPermutation-map}
use Rattle.land_tables_rows.specs.Writing.Holding.{HoldsNumbered, HoldsOneMore}
use Rattle.land_tables_schema.proofs.SchemaMigration.{only_one}
use Rattle.land_tables_schema.specs.Rows.Forms.{Appends, Lists}
use Rattle.land_tables_schema.specs.Rows.ReadQueries.{numbered_cells}
use Rattle.land_wire_json.specs.declared.bodies.wire_fault.WireFault.{WireFault}
use Rattle.sqlite.specs.Effect.{Database}
use Rattle.sqlite_keyed.proofs.ListLemmas.{map-map}
use Rattle.sqlite_schema.specs.declared.schema.Table.{Table}
use Rattle.sqlite_trees.proofs.ListLemmas.{all-permutation}
use Rattle.sqlite_trees.specs.Tree.{Trees}
use Rattle.sqlite_value.specs.Order.{Row}

-- the listed values of the cells are those that the table decodes to
pub tells_from : {P X : Type 0} (table : Table) (row : P → Row) (said : Row → Result X WireFault) (db : Trees) (ps : List P) (xs : List X) → map said (map row ps) ≡ map (λ x. Ok x) xs → Lists table row db ps → HoldsNumbered table said db xs
tells_from table row said db ps xs are listed =
    subst (λ l. IsPermutation l (map (λ x. Ok x) xs)) (map-map said numbered_cells (db table.tree))
    (subst (IsPermutation (map said (map numbered_cells (db table.tree)))) are (IsPermutation-map said (map numbered_cells (db table.tree)) (map row ps) listed))

module _ {P X : Type 0} (table : Table) (row : P → Row) (said : Row → Result X WireFault) (found : (r : Row) (x : X) → said (numbered_cells r) ≡ Ok x → (p : P) × (row p ≡ numbered_cells r)) where
  abbrev saying : Row → Result X WireFault
  saying r = said (numbered_cells r)

  abbrev fine_as : X → Result X WireFault
  fine_as x = Ok x

  all_fine : (xs : List X) → AllByRecursion (λ s. (x : X) × (s ≡ Ok x)) (map fine_as xs)
  all_fine [] = tt
  all_fine (x ∷ xs) = ((x, refl), all_fine xs)

  -- the records of a table's rows
  things : (rs : List Row) → AllByRecursion (λ s. (x : X) × (s ≡ Ok x)) (map saying rs) → (ps : List P) × (map row ps ≡ map numbered_cells rs)
  things [] all = ([], refl)
  things (r ∷ rs) all =
      let one = found r all.0.0 all.0.1 in
      let others = things rs all.1 in
      (one.0 ∷ others.0, ap₂ (λ a b. a ∷ b) one.1 others.1)

  module _ (p : P) (x : X) (is_x : said (row p) ≡ Ok x) (old new : Database) (appends : Appends table row p old new) where
    told : (xs : List X) → HoldsNumbered table said old.trees xs → HoldsNumbered table said new.trees (x ∷ xs)
    told xs tells =
        let olds = old.trees table.tree in
        let news = new.trees table.tree in
        let ps = things olds (all-permutation (λ s. (x : X) × (s ≡ Ok x)) (map fine_as xs) (map saying olds) (IsPermutation-sym (map saying olds) (map fine_as xs) tells) (all_fine xs)) in
        let listed = appends.listed ps.0 (subst (IsPermutation (map numbered_cells olds)) (sym ps.1) (IsPermutation-refl (map numbered_cells olds))) in
        let moved : IsPermutation (map saying news) (said (row p) ∷ map saying olds) =
        subst (λ l. IsPermutation l (said (row p) ∷ map saying olds)) (map-map said numbered_cells news)
        (subst (λ l. IsPermutation (map said (map numbered_cells news)) (said (row p) ∷ l)) (ap (map said) ps.1 ∙ map-map said numbered_cells olds)
        (IsPermutation-map said (map numbered_cells news) (row p ∷ map row ps.0) listed)) in
        IsPermutation-trans (map saying news) (Ok x ∷ map saying olds) (Ok x ∷ map fine_as xs) (subst (λ s. IsPermutation (map saying news) (s ∷ map saying olds)) is_x moved)
        (IsPermutation-cons (Ok x) (map saying olds) (map fine_as xs) tells)

    pub tells_more : HoldsOneMore table said x old new
    tells_more = record { schema = appends.schema; told = told; kept = appends.kept }

  -- a record whose cells only it has is in the list
  module _ (p : P) (x : X) (only : (q : P) → said (row q) ≡ Ok x → q ≡ p) where
    first_said : {s : Result X WireFault} {rest : List (Result X WireFault)} → s ∷ rest ≡ Ok x ∷ [] → s ≡ Ok x
    first_said e = cc

    cells_of : (rs : List Row) → map saying rs ≡ Ok x ∷ [] → map numbered_cells rs ≡ row p ∷ []
    cells_of [] e = absurd (cc)
    cells_of (r ∷ []) e =
        let one = found r x (first_said e) in
        ap (λ c. c ∷ []) (sym one.1 ∙ ap row (only one.0 (ap said one.1 ∙ first_said e)))
    cells_of (r ∷ s ∷ rs) e = absurd (cc)

    pub lists_one : (db : Trees) → HoldsNumbered table said db (x ∷ []) → Lists table row db (p ∷ [])
    lists_one db tells =
        let rows = db table.tree in
        let is : map saying rows ≡ Ok x ∷ [] = only_one (Ok x) (map saying rows) (IsPermutation-sym (map saying rows) (Ok x ∷ []) tells) in
        subst (λ l. IsPermutation l (row p ∷ [])) (sym (cells_of rows is)) (IsPermutation-refl (row p ∷ []))
