use Rattle.std.proofs.Common.{rules, ◌≡◌, to_z, of_z, w64}
use Rattle.land_select_queries.proofs.Asked.{looks}
use Rattle.land_select_queries.proofs.Given.{are_rows_of, query_of}
use Rattle.land_select_queries.proofs.Selected.{join_of}
use Rattle.land_select_queries.specs.Joins.Meaning.{query_parameters}
use Rattle.land_select_queries.specs.Joins.Execution.{AreRowsOf, known_or_zero}
use Rattle.land_select_queries.specs.Joins.Texts.{selection_text}
use Rattle.sqlite.specs.Held.{state}
use Rattle.land_select_queries.proofs.joins.running.rows_of.Goals as goal

pub returns-clause-reads_only : goal.returns-clause-reads_only
returns-clause-reads_only g c =
    let old = state g.S.Store c.args.conn.now in
    let new = state g.S.Store c.query_all.new.self in
    let when : to_z w64 (of_z w64 c.args.at) ≡ c.args.at = search rules in
    let e = rw (c.text_of.ensures, c.of_number.ensures, c.known_or_zero.ensures, c.of_moment.ensures, when) at c.query_all.ensures in
    looks (selection_text c.args.selection) (query_of c.args.selection) (join_of c.args.selection).asks (query_parameters (known_or_zero c.args.caller) c.args.at) old new
    (λ rows. rows.items) c.query_all.result (AreRowsOf c.args.selection c.args.at c.args.caller old.now.trees)
    (are_rows_of c.args.selection c.args.at c.args.caller old.now.trees) c.requires.has_tables e.ok e.err e.survives
