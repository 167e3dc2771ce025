use Rattle.land_wire.proofs.Readings.{gets_do_nothing, others_ask_for_acts}
use Rattle.land_wire.proofs.laws.posts_are_acts.Goals as goal

pub returns-clause-gets : goal.returns-clause-gets
returns-clause-gets c = gets_do_nothing

pub returns-clause-others : goal.returns-clause-others
returns-clause-others c = others_ask_for_acts
