use Rattle.land_commands.proofs.PlainWords.{plain_service}
use Rattle.land_commands.proofs.words.laws.plain_services_are_read.Goals as goal

pub returns : goal.returns
returns c = plain_service
