use Rattle.land_commands.proofs.words.commands.digest.Goals as goal

pub returns : goal.returns
returns c =
    let with_file = c.in_ok-with_file.ensures _ _ c.described_command-digest.ensures c.file_option.ensures in
    c.with_option-2.ensures _ _ with_file c.upto_option.ensures
