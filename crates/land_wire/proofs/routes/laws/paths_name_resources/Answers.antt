use Rattle.land_wire.proofs.RouteNames.{found_named, named_found}
use Rattle.land_wire.proofs.routes.laws.paths_name_resources.Goals as goal

pub returns : goal.returns
returns c path r = (named_found path r, found_named path r)
