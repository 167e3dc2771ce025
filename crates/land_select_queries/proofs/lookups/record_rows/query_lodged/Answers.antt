use Rattle.std.proofs.Common.{rules, ◌≡◌, to_z, of_z, w64}
use Rattle.land_select_queries.proofs.Asked.{looks}
use Rattle.land_select_queries.proofs.Lodged.{are_lodged_as, asked, asks, query}
use Rattle.land_select_queries.specs.Lookups.RecordRows.{AreLodgedRows}
use Rattle.land_select_queries.specs.declared.lookups.texts.TheConstants.{MUTATION_LODGED_AS}
use Rattle.sqlite.specs.Held.{state}
use Rattle.land_select_queries.proofs.lookups.record_rows.query_lodged.Goals as goal

pub returns-clause-reads_only : goal.returns-clause-reads_only
returns-clause-reads_only g c =
    let old = state g.S.Store c.args.conn.now in
    let new = state g.S.Store c.query_all.new.self in
    let lodger = c.args.lodger in
    let reference = c.args.reference.now in
    let when : to_z w64 (of_z w64 c.args.at) ≡ c.args.at = search rules in
    let e = rw (c.of_number.ensures, c.known_or_zero.ensures, c.of_moment.ensures, c.of_text.ensures, when) at c.query_all.ensures in
    looks MUTATION_LODGED_AS.now query asks (asked lodger c.args.at reference) old new (λ rows. rows.items) c.query_all.result
    (AreLodgedRows lodger reference c.args.at old.now.trees) (are_lodged_as lodger reference c.args.at old.now.trees) c.requires.has_tables e.ok e.err e.survives
