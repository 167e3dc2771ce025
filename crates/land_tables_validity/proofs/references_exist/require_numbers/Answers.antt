use Rattle.std.proofs.Common.{◌≡◌, arith, refl}
use Rattle.std.proofs.lemmas.Fn.{says_at}
use Rattle.std.proofs.lemmas.Grind.{common_steps}
use Rattle.land_tables_validity.proofs.references_exist.require_numbers.Goals as goal

pub loop-version-preserved : goal.loop-version-preserved
loop-version-preserved g c =
    let y = c.version-item.result.what in
    let computes : c.number.result ≡ g.number_of y = c.requires.1.1.1 y c.number.result (says_at g.F.Fn c.number.ensures refl) in
    (c.loop-version.invariant.0, grind (arith, common_steps))
