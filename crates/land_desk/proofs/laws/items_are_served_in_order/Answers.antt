use Rattle.land_desk.proofs.ServingLemmas.{served_items}
use Rattle.land_desk.specs.Serving.{StepOf}
use Rattle.land_desk.proofs.laws.items_are_served_in_order.Goals as goal

pub returns : goal.returns
returns g c = served_items (StepOf g.C.Clock.reads)
