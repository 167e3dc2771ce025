use Rattle.land_commands.proofs.words.commands.with_caller.Goals as goal

pub returns : goal.returns
returns c app is =
    let with_party = c.in_ok-with_party.ensures _ _ is c.party_option.ensures in
    c.with_option-2.ensures _ _ with_party c.role_option.ensures
