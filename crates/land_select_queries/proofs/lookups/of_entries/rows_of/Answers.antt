use Rattle.std.proofs.Common.{rules, ◌≡◌, to_z, of_z, w64}
use Rattle.land_select_queries.proofs.Asked.{looks}
use Rattle.land_select_queries.proofs.PartyQueries.{are_unit_rows, asks_unit, unit_query}
use Rattle.land_select_queries.specs.Joins.Meaning.{query_parameters}
use Rattle.land_select_queries.specs.Joins.Execution.{known_or_zero}
use Rattle.land_select_queries.specs.Lookups.Parties.{ArePartyRows, of_unit}
use Rattle.land_select_queries.specs.declared.lookups.texts.TheConstants.{PARTIES_OF_UNIT}
use Rattle.sqlite.specs.Held.{state}
use Rattle.land_select_queries.proofs.lookups.of_entries.rows_of.Goals as goal

pub returns-clause-reads_only : goal.returns-clause-reads_only
returns-clause-reads_only g c =
    let old = state g.S.Store c.args.conn.now in
    let new = state g.S.Store c.query_all.new.self in
    let when : to_z w64 (of_z w64 c.args.at) ≡ c.args.at = search rules in
    let e = rw (c.of_number.ensures, c.known_or_zero.ensures, c.of_moment.ensures, when) at c.query_all.ensures in
    looks PARTIES_OF_UNIT.now unit_query asks_unit (query_parameters (known_or_zero c.args.unit) c.args.at) old new (λ rows. rows.items) c.query_all.result
    (ArePartyRows (of_unit c.args.unit) c.args.at old.now.trees) (are_unit_rows c.args.unit c.args.at old.now.trees) c.requires.has_tables e.ok e.err e.survives
