use Rattle.std.proofs.Common.{rules, ◌≡◌, to_z, of_z, w64, sym, subst}
use Rattle.land_select_queries.proofs.Counted.{none_held, numbers_told}
use Rattle.land_select_queries.proofs.United.{look_means}
use Rattle.land_select_queries.specs.Joins.Execution.{AreNumbersOf, AreRowsOf}
use Rattle.land_select_queries.specs.Sights.Selections.{selects}
use Rattle.land_select_queries.specs.declared.sights.selection.Selection.{Selection}
use Rattle.land_tables_schema.proofs.Looking.{look_told}
use Rattle.sqlite.specs.Held.{state}
use Rattle.land_select_queries.proofs.joins.running.numbers.Goals as goal

pub returns-in-All-clause-reads_only : goal.returns-in-All-clause-reads_only
returns-in-All-clause-reads_only g c =
    let old = state g.S.Store c.args.conn.now in
    let t = c.args.at in
    let caller = c.args.caller in
    let when : to_z w64 (of_z w64 t) ≡ t = search rules in
    let alike = rw when at c.selection_of_all.ensures in
    let reads_only = rw when at c.stream_numbers.ensures.reads_only in
    look_means old (state g.S.Store c.stream_numbers.new.conn) c.stream_numbers.result reads_only
    (λ it are. subst (λ (s : Selection). AreNumbersOf s t caller old.now.trees it) (sym c.in-All.is)
    (λ moments h held n.
    let same = alike old.now.trees moments h held caller n in
    let these = are moments h held n in
    ((λ has. same.0 (these.0 has)), (λ x. these.1 (same.1 x)))))

pub returns-clause-reads_only : goal.returns-clause-reads_only
returns-clause-reads_only g c =
    let old = state g.S.Store c.args.conn.now in
    let s = c.args.selection in
    let when : to_z w64 (of_z w64 c.args.at) ≡ c.args.at = search rules in
    let reads_only = rw when at c.in_ok-rows.ensures.reads_only in
    look_told old (state g.S.Store c.rows_of.new.conn) c.read.result reads_only
    (λ clean are. numbers_told (λ h. selects s c.args.at h c.args.caller) old.now.trees c.as_slice.result.now (subst (AreRowsOf s c.args.at c.args.caller old.now.trees) (sym c.as_slice.ensures.value) are) c.read.result c.read.ensures)

pub returns-clause-unreadable : goal.returns-clause-unreadable
returns-clause-unreadable g c clean =
    let old = state g.S.Store c.args.conn.now in
    let s = c.args.selection in
    let when : to_z w64 (of_z w64 c.args.at) ≡ c.args.at = search rules in
    let reads_only = rw when at c.in_ok-rows.ensures.reads_only in
    none_held (λ h. selects s c.args.at h c.args.caller) old.now.trees c.as_slice.result.now
    (subst (AreRowsOf s c.args.at c.args.caller old.now.trees) (sym c.as_slice.ensures.value) (reads_only.given clean)) c.read.result c.read.ensures
