use Rattle.std.proofs.Common.{rules, ◌≡◌, to_z, of_z, w64}
use Rattle.land_select_queries.proofs.Asked.{looks}
use Rattle.land_select_queries.proofs.RangeQueries.{are_rows_within, asked, asks, query_of}
use Rattle.land_select_queries.specs.Lookups.Ranges.{AreRowsWithin, text_within}
use Rattle.sqlite.specs.Held.{state}
use Rattle.land_select_queries.proofs.lookups.within.rows_of.Goals as goal

pub returns-clause-reads_only : goal.returns-clause-reads_only
returns-clause-reads_only g c =
    let old = state g.S.Store c.args.conn.now in
    let new = state g.S.Store c.query_all.new.self in
    let k = c.args.kind in
    let first = c.args.first in
    let last = c.args.last in
    let when : to_z w64 (of_z w64 c.args.at) ≡ c.args.at = search rules in
    let e = rw (c.text_within.ensures, c.of_number.ensures, c.of_number-2.ensures, c.min.ensures, c.min-2.ensures, c.of_moment.ensures, when) at c.query_all.ensures in
    looks (text_within k) (query_of k) (asks k) (asked first last c.args.at) old new (λ rows. rows.items) c.query_all.result
    (AreRowsWithin k first last c.args.at old.now.trees) (are_rows_within k first last c.args.at old.now.trees) c.requires.has_tables e.ok e.err e.survives
