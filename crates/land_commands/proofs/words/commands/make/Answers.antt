use Rattle.land_commands.proofs.words.commands.make.Goals as goal

pub returns : goal.returns
returns c = c.with_option.ensures _ _ c.described_command-make.ensures c.file_option-file.ensures
