use Rattle.land_wire.proofs.Readings.{stated_moments, asked_moments}
use Rattle.land_wire.proofs.laws.stated_moments_are_valid.Goals as goal

pub returns-clause-queries : goal.returns-clause-queries
returns-clause-queries c = stated_moments

pub returns-clause-requests : goal.returns-clause-requests
returns-clause-requests c = asked_moments
