use Rattle.land_rules.proofs.SightLaws.{ended_entries}
use Rattle.land_rules.proofs.laws.ended_entries_give_no_sight.Goals as goal

pub returns : goal.returns
returns c = ended_entries
