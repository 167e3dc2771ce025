use Rattle.land_keep.proofs.TwoRegisters.{reads_alike}
use Rattle.land_keep.proofs.laws.reads_use_two_registers.Goals as goal

pub returns : goal.returns
returns c = reads_alike
