use Rattle.land_rules.proofs.CircleLaws.{mandates_serve_citizens}
use Rattle.land_rules.proofs.laws.mandates_serve_citizens.Goals as goal

pub returns : goal.returns
returns c = mandates_serve_citizens
