use Rattle.std.proofs.Common.{ap, ◌∙◌}
use Rattle.std.specs.FinMap as map
use Rattle.land_core.proofs.FiniteSets.{mandates_total, exact_mandates, key_inserted}
use Rattle.land_core.proofs.mandates.Mandates.insert.Goals as goal

pub returns-clause-ok : goal.returns-clause-ok
returns-clause-ok c =
    key_inserted mandates_total exact_mandates c.self.inside.pairs.keys c.insert.new.self.keys c.args.mandate c.in_ok-insert.ensures.updates.0
    ∙ ap (λ s. map.insert s c.args.mandate tt) c.self.view_is
