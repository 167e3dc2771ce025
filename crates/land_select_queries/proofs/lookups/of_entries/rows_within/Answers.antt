use Rattle.std.proofs.Common.{rules, ◌≡◌, to_z, of_z, w64}
use Rattle.land_select_queries.proofs.Asked.{looks}
use Rattle.land_select_queries.proofs.PartyQueries.{are_range_rows, asks_range, range_query}
use Rattle.land_select_queries.proofs.RangeQueries.{asked}
use Rattle.land_select_queries.specs.Lookups.Parties.{ArePartyRows, of_range}
use Rattle.land_select_queries.specs.declared.lookups.texts.TheConstants.{PARTIES_OF_ENTRIES}
use Rattle.sqlite.specs.Held.{state}
use Rattle.land_select_queries.proofs.lookups.of_entries.rows_within.Goals as goal

pub returns-clause-reads_only : goal.returns-clause-reads_only
returns-clause-reads_only g c =
    let old = state g.S.Store c.args.conn.now in
    let new = state g.S.Store c.query_all.new.self in
    let first = c.args.first in
    let last = c.args.last in
    let when : to_z w64 (of_z w64 c.args.at) ≡ c.args.at = search rules in
    let e = rw (c.of_number.ensures, c.of_number-2.ensures, c.min.ensures, c.min-2.ensures, c.of_moment.ensures, when) at c.query_all.ensures in
    looks PARTIES_OF_ENTRIES.now range_query asks_range (asked first last c.args.at) old new (λ rows. rows.items) c.query_all.result
    (ArePartyRows (of_range first last) c.args.at old.now.trees) (are_range_rows first last c.args.at old.now.trees) c.requires.has_tables e.ok e.err e.survives
