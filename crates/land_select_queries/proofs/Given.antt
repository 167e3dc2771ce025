-- The result rows of a selection's statement are the numbers of the selection.
use Rattle.std.proofs.Common.{ℕ, ℤ, List, [], ◌∷◌}
use Rattle.land_select_queries.proofs.Joined.{complete, from, known_in, numbered, sound}
use Rattle.land_select_queries.proofs.JoinedByNobody.{asked_so}
use Rattle.land_select_queries.proofs.Places.{as_stored}
use Rattle.land_select_queries.proofs.Selected.{filter_of, join_of, places_of, selected, shown_of}
use Rattle.land_select_queries.proofs.Sets.{plainly}
use Rattle.land_select_queries.specs.Joins.Meaning.{query_parameters}
use Rattle.land_select_queries.specs.Joins.Execution.{AreRowsOf, known_or_zero}
use Rattle.land_select_queries.specs.Joins.Texts.{selection_text}
use Rattle.land_select_queries.specs.declared.sights.selection.Selection.{Selection}
use Rattle.sqlite.specs.Program.{overlay}
use Rattle.sqlite.specs.Query.{IsAnswer, Query}
use Rattle.sqlite_trees.specs.Tree.{Trees}
use Rattle.sqlite_value.specs.Order.{Row}

abbrev pub query_of : Selection → Query
query_of s = plainly (from (places_of s)) (filter_of s) (shown_of s ∷ [])

pub are_rows_of : (s : Selection) (t : ℤ) (caller : ℕ) (db : Trees) (rows : List Row) → IsAnswer (query_of s) (overlay db []) (query_parameters (known_or_zero caller) t) rows → AreRowsOf s t caller db rows
are_rows_of s t caller db rows a moments h held =
    let asked = known_or_zero caller in
    let ps = places_of s in
    let fs = filter_of s in
    let terms = known_in (selection_text s) ps fs (shown_of s) (join_of s) in
    record {
      each = numbered ps fs (shown_of s) terms db (overlay db []) (as_stored db) moments h held asked t rows a;
      meant = λ n.
          let it = selected s h asked t n in
          let so = asked_so db moments h held t n s caller in (
            (λ has. so.0 (it.0 (sound ps fs (shown_of s) terms db (overlay db []) (as_stored db) moments h held asked t rows a n has))),
            (λ x. complete ps fs (shown_of s) terms db (overlay db []) (as_stored db) moments h held asked t rows a n (it.1 (so.1 x))),
          );
    }
