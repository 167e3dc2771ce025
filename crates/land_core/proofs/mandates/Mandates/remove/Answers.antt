use Rattle.std.proofs.Common.{ap, ◌∙◌}
use Rattle.std.specs.FinMap as map
use Rattle.land_core.proofs.FiniteSets.{mandates_total, exact_mandates, key_removed}
use Rattle.land_core.proofs.mandates.Mandates.remove.Goals as goal

pub returns : goal.returns
returns c =
    key_removed mandates_total exact_mandates c.self.inside.pairs.keys c.remove.new.self.keys c.args.mandate c.remove.ensures.updates.0
    ∙ ap (λ s. map.remove s c.args.mandate) c.self.view_is
