use Rattle.land_commands.proofs.PlainWords.{plain_talk}
use Rattle.land_commands.proofs.words.laws.plain_words_are_read.Goals as goal

pub returns : goal.returns
returns c = plain_talk
