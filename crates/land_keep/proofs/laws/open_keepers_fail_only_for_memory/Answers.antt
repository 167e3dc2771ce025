use Rattle.land_keep.proofs.OpenKeepers.{memory_alone}
use Rattle.land_keep.proofs.laws.open_keepers_fail_only_for_memory.Goals as goal

pub returns : goal.returns
returns c = memory_alone
