use Rattle.std.proofs.Common.{rules, ◌≡◌, to_z, of_z, w64, ◌∙◌}
use Rattle.land_select.proofs.Viewed.{parcels_are}
use Rattle.land_tables_schema.proofs.Looking.{look_told}
use Rattle.sqlite.specs.Held.{state}
use Rattle.land_select.proofs.view.read_parcels.Goals as goal

pub returns-clause-reads_only : goal.returns-clause-reads_only
returns-clause-reads_only g c =
    let when : to_z w64 (of_z w64 c.args.at) ≡ c.args.at = search rules in
    let reads_only = rw when at c.in_ok-found.ensures.reads_only in
    look_told (state g.S.Store c.args.conn.now) (state g.S.Store c.parcels.new.conn) _ reads_only
    (λ clean is moments h held r have stands. c.in_ok-shown_parcels.ensures ∙ parcels_are r c.args.unit c.in_ok-found.found (is moments h held r have stands))
