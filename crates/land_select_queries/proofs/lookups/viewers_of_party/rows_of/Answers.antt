use Rattle.std.proofs.Common.{rules, ◌≡◌, to_z, of_z, w64}
use Rattle.land_select_queries.proofs.Asked.{looks}
use Rattle.land_select_queries.proofs.SeerQueries.{are_within_limit, asks, query_of}
use Rattle.land_select_queries.proofs.SeerWays.{are_many}
use Rattle.land_select_queries.specs.Joins.Meaning.{query_parameters}
use Rattle.land_select_queries.specs.Joins.Execution.{known_or_zero}
use Rattle.land_select_queries.specs.Lookups.Viewers.{AreViewerRows}
use Rattle.land_select_queries.specs.Lookups.Texts.{viewer_text_of}
use Rattle.sqlite.specs.Held.{state}
use Rattle.land_select_queries.proofs.lookups.viewers_of_party.rows_of.Goals as goal

pub returns-clause-reads_only : goal.returns-clause-reads_only
returns-clause-reads_only g c =
    let old = state g.S.Store c.args.conn.now in
    let new = state g.S.Store c.query_all.new.self in
    let relation = c.args.relation in
    let when : to_z w64 (of_z w64 c.args.at) ≡ c.args.at = search rules in
    let e = rw (c.text_of.ensures, c.of_number.ensures, c.known_or_zero.ensures, c.of_moment.ensures, when) at c.query_all.ensures in
    looks (viewer_text_of relation) (query_of relation) (asks relation) (query_parameters (known_or_zero c.args.party) c.args.at) old new (λ rows. rows.items) c.query_all.result
    (AreViewerRows relation c.args.party c.args.at old.now.trees)
    (λ rows a. record { few = are_within_limit relation c.args.party c.args.at old.now.trees rows a; many = are_many relation c.args.party c.args.at old.now.trees rows a })
    c.requires.has_tables e.ok e.err e.survives
