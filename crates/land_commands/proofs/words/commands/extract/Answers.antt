use Rattle.land_commands.proofs.words.commands.extract.Goals as goal

pub returns : goal.returns
returns c =
    let timed = c.in_ok-timed.ensures _ c.described_command-extract.ensures in
    let asked = c.in_ok-asked.ensures _ timed in
    let with_kind = c.in_ok-with_kind.ensures _ _ asked c.kind_option.ensures in
    c.with_option-2.ensures _ _ with_kind c.at_option.ensures
