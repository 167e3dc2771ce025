use Rattle.std.proofs.Common.{rules, ◌≡◌, to_z, of_z, w64, ◌∙◌}
use Rattle.land_select.proofs.Named.{named_in_sight}
use Rattle.land_tables_schema.proofs.Looking.{look_lost, look_told}
use Rattle.sqlite.specs.Held.{state}
use Rattle.land_select.proofs.view.attach_names.Goals as goal

pub returns-in_err-named_entries-clause-reads_only : goal.returns-in_err-named_entries-clause-reads_only
returns-in_err-named_entries-clause-reads_only g c caller =
    look_lost (state g.S.Store c.args.conn.now) (state g.S.Store c.parties.new.conn) c.from_residual-in_err-named_entries.result c.from_residual-in_err-named_entries.ensures.0 c.in_ok-found.ensures.reads_only

pub returns-clause-reads_only : goal.returns-clause-reads_only
returns-clause-reads_only g c caller =
    let when : to_z w64 (of_z w64 c.args.at) ≡ c.args.at = search rules in
    let reads_only = rw when at c.in_ok-found.ensures.reads_only in
    let named = rw c.as_slice.ensures at c.in_ok-named_entries.ensures in
    look_told (state g.S.Store c.args.conn.now) (state g.S.Store c.parties.new.conn) _ reads_only
    (λ clean are moments h held r premise stands seen. named ∙ named_in_sight r caller c.args.unit c.args.entries.now c.in_ok-found.found seen (are moments h held r stands))
