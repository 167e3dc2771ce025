use Rattle.std.proofs.Common.{rules, ◌≡◌, to_z, of_z, w64}
use Rattle.land_select_queries.proofs.Asked.{looks}
use Rattle.land_select_queries.proofs.Queries.{asks, query_of}
use Rattle.land_select_queries.proofs.Records.{are_rows_of}
use Rattle.land_select_queries.specs.Joins.Meaning.{query_parameters}
use Rattle.land_select_queries.specs.Joins.Execution.{known_or_zero}
use Rattle.land_select_queries.specs.Lookups.RecordRows.{AreRowsOf}
use Rattle.land_select_queries.specs.Lookups.Texts.{lookup_text}
use Rattle.sqlite.specs.Held.{state}
use Rattle.land_select_queries.proofs.lookups.record_rows.rows_of.Goals as goal

pub returns-clause-reads_only : goal.returns-clause-reads_only
returns-clause-reads_only g c =
    let old = state g.S.Store c.args.conn.now in
    let new = state g.S.Store c.query_all.new.self in
    let l = c.args.record_lookup in
    let when : to_z w64 (of_z w64 c.args.at) ≡ c.args.at = search rules in
    let e = rw (c.text_of.ensures, c.of_number.ensures, c.known_or_zero.ensures, c.of_moment.ensures, when) at c.query_all.ensures in
    looks (lookup_text l) (query_of l) (asks l) (query_parameters (known_or_zero c.args.number) c.args.at) old new (λ rows. rows.items) c.query_all.result
    (AreRowsOf l c.args.number c.args.at old.now.trees) (are_rows_of l c.args.number c.args.at old.now.trees) c.requires.has_tables e.ok e.err e.survives
