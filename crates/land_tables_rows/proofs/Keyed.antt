-- The rows of a table have unique rowids if the listed rowids are unique.
use Rattle.std.proofs.Common.{◌≡◌, List, map, Ok, Err, Result, IfOk, OnOk, subst}
use Rattle.std.proofs.lemmas.List.Sorted.{IsPermutation-sym}
use Rattle.land_tables_rows.specs.Rowids.{HasUniqueRowids, AreRowids}
use Rattle.land_tables_schema.proofs.Looking.{look_told}
use Rattle.land_tables_schema.proofs.Numbers.{numbered_anyhow, numbered_same}
use Rattle.land_tables_schema.specs.Rows.Forms.{AreNumbered}
use Rattle.land_tables_schema.specs.Rows.ReadQueries.{IsStoreRead, columns_from}
use Rattle.sqlite.specs.State.{State}
use Rattle.sqlite_keyed.proofs.ListLemmas.{map-map}
use Rattle.sqlite_schema.specs.declared.schema.Table.{Table}
use Rattle.sqlite_trees.specs.Tree.{Trees, rowid}
use Rattle.sqlite_value.specs.Order.{Row}

keyed_by : (table : Table) (db : Trees) (rows : List Row) → AreRowids table db rows → AreNumbered rows → HasUniqueRowids table db
keyed_by table db rows are n =
    let listed = map (columns_from 0 1) (db table.tree) in
    numbered_same listed (db table.tree) (map-map rowid (columns_from 0 1) (db table.tree)) (numbered_anyhow rows listed (IsPermutation-sym listed rows are) n)

-- rowids that a read returned, after the check
pub keyed_look : {E F R : Type 0} (table : Table) (a b : State) (items : R → List Row) (got : R) → IsStoreRead {X = R} {E = E} (Ok got) (λ x. AreRowids table a.now.trees (items x)) a b
    → (lent : List Row) → lent ≡ items got → (r : Result (Unit {0}) F) → OnOk r (AreNumbered lent) → IsStoreRead r (λ _. HasUniqueRowids table a.now.trees) a b
keyed_look {F = F} table a b items got reads_only lent same r tested = look_told a b r reads_only (λ clean are. go r tested are)
  where
    go : (r : Result (Unit {0}) F) → OnOk r (AreNumbered lent) → AreRowids table a.now.trees (items got) → IfOk r (λ _. HasUniqueRowids table a.now.trees)
    go (Ok x) n are = keyed_by table a.now.trees (items got) are (subst AreNumbered same n)
    go (Err e) n are = tt
