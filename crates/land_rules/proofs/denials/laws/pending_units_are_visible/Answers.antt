use Rattle.land_rules.proofs.Awaited.{pending_units_are_visible}
use Rattle.land_rules.proofs.denials.laws.pending_units_are_visible.Goals as goal

pub returns : goal.returns
returns c = pending_units_are_visible c.soundness_by_number.ensures
