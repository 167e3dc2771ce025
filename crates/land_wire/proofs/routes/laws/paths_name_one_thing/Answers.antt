use Rattle.land_wire.proofs.RouteNames.{one_name}
use Rattle.land_wire.proofs.routes.laws.paths_name_one_thing.Goals as goal

pub returns : goal.returns
returns c = one_name
