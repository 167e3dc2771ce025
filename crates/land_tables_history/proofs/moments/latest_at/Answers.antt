use Rattle.std.proofs.Common.{rules, ◌≡◌, ◌∙◌, ap, int_le, ℤ, to_z, of_z, w64, arith}
use Rattle.std.proofs.lemmas.Grind.{common_steps}
use Rattle.land_tables_history.specs.Moments.{latest}
use Rattle.land_tables_history.proofs.moments.latest_at.Goals as goal

pub returns : goal.returns
returns c =
    let same : to_z w64 (of_z w64 c.args.at) ≡ c.args.at = search rules in
    let found : c.loop-moment.found ≡ latest (λ m. int_le m.stamp (to_z w64 (of_z w64 c.args.at))) c.args.moments.now = first_of (search rules, grind (arith, common_steps)) in
    found ∙ ap (λ (t : ℤ). latest (λ m. int_le m.stamp t) c.args.moments.now) same
