use Rattle.std.proofs.Common.{rules, ◌≡◌, ap, is_some, to_z, of_z, w64, ◌∙◌}
use Rattle.land_select.proofs.CachedValue.{found_told, object_stands}
use Rattle.land_select.proofs.Viewed.{have_members}
use Rattle.land_tables_schema.proofs.Looking.{look_told}
use Rattle.sqlite.specs.Held.{state}
use Rattle.land_select.proofs.verdict.view.read_object.Goals as goal

pub returns-clause-reads_only : goal.returns-clause-reads_only
returns-clause-reads_only g c =
    let k = c.args.kind in
    let n = c.args.number in
    let when : to_z w64 (of_z w64 c.args.at) ≡ c.args.at = search rules in
    let reads_only = rw when at c.in_ok-found.ensures.reads_only in
    look_told (state g.S.Store c.args.conn.now) (state g.S.Store c.object.new.conn) _ reads_only
    (λ clean is moments h held r premise stands.
    let it = is moments h held r (have_members c.soundness_by_number.ensures r premise) stands in
    (c.is_some.ensures ∙ ap is_some it ∙ object_stands r k n, found_told r c.args.caller k n _ _ c.cached_object.ensures it))
