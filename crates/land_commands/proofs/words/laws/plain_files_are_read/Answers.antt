use Rattle.land_commands.proofs.PlainWords.{plain_files}
use Rattle.land_commands.proofs.words.laws.plain_files_are_read.Goals as goal

pub returns : goal.returns
returns c = plain_files
