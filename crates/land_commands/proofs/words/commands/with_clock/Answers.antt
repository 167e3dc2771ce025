use Rattle.land_commands.proofs.words.commands.with_clock.Goals as goal

pub returns : goal.returns
returns c app is =
    let with_file = c.in_ok-with_file.ensures _ _ is c.file_option.ensures in
    c.with_option-2.ensures _ _ with_file c.clock_option.ensures
