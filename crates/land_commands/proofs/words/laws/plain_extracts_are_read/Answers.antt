use Rattle.land_commands.proofs.PlainExtracts.{plain_extract}
use Rattle.land_commands.proofs.words.laws.plain_extracts_are_read.Goals as goal

pub returns : goal.returns
returns c = plain_extract
