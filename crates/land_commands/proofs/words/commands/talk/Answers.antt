use Rattle.land_commands.proofs.words.commands.talk.Goals as goal

pub returns : goal.returns
returns c = c.with_option.ensures _ _ c.described_command-talk.ensures c.clock_option.ensures
