use Rattle.land_wire.proofs.Readings.{bodies_do_not_count}
use Rattle.land_wire.proofs.laws.bodies_of_reads_are_ignored.Goals as goal

pub returns : goal.returns
returns c = bodies_do_not_count
