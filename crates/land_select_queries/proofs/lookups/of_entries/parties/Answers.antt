use Rattle.std.proofs.Common.{rules, ◌≡◌, to_z, of_z, w64, sym, subst}
use Rattle.land_select_queries.proofs.PartyQueries.{none_held, parties_told}
use Rattle.land_select_queries.specs.Lookups.Parties.{ArePartyRows, of_unit}
use Rattle.land_tables_schema.proofs.Looking.{look_told}
use Rattle.sqlite.specs.Held.{state}
use Rattle.land_select_queries.proofs.lookups.of_entries.parties.Goals as goal

pub returns-clause-reads_only : goal.returns-clause-reads_only
returns-clause-reads_only g c =
    let old = state g.S.Store c.args.conn.now in
    let unit = c.args.unit in
    let t = c.args.at in
    let when : to_z w64 (of_z w64 t) ≡ t = search rules in
    let reads_only = rw when at c.in_ok-rows.ensures.reads_only in
    look_told old (state g.S.Store c.rows_of.new.conn) c.read.result reads_only
    (λ clean are. parties_told (of_unit unit) t old.now.trees c.as_slice.result.now (subst (ArePartyRows (of_unit unit) t old.now.trees) (sym c.as_slice.ensures.value) are) c.read.result c.read.ensures)

pub returns-clause-unreadable : goal.returns-clause-unreadable
returns-clause-unreadable g c clean =
    let old = state g.S.Store c.args.conn.now in
    let unit = c.args.unit in
    let t = c.args.at in
    let when : to_z w64 (of_z w64 t) ≡ t = search rules in
    let reads_only = rw when at c.in_ok-rows.ensures.reads_only in
    none_held (of_unit unit) t old.now.trees c.as_slice.result.now (subst (ArePartyRows (of_unit unit) t old.now.trees) (sym c.as_slice.ensures.value) (reads_only.given clean)) c.read.result c.read.ensures
