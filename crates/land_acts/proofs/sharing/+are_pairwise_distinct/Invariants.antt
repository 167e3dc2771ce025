use Rattle.std.proofs.Common.{length}
use Rattle.land_acts.proofs.sharing.+are_pairwise_distinct.Given as goal

abbrev pub decreases-are_pairwise_distinct : goal.decreases-are_pairwise_distinct
decreases-are_pairwise_distinct l = length l.members.now
