use Rattle.land_rules.proofs.Seeing.{seen_exactly}
use Rattle.land_rules.proofs.laws.seen_lists_are_exact.Goals as goal

pub returns : goal.returns
returns c = seen_exactly
