use Rattle.land_commands.proofs.FaultlessWords.{named_by_words}
use Rattle.land_commands.proofs.words.laws.faultless_words_name_a_command.Goals as goal

pub returns : goal.returns
returns c choices words spelled faultless = named_by_words choices spelled words faultless
