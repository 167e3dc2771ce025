use Rattle.land_rules.proofs.StandingLaws.{strangers_are_denied}
use Rattle.land_rules.proofs.laws.unregistered_callers_are_denied.Goals as goal

pub returns : goal.returns
returns c = strangers_are_denied
