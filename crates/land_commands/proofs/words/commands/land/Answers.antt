use Rattle.land_commands.proofs.words.commands.land.Goals as goal

pub returns : goal.returns
returns c =
    let with_talk = c.in_ok-with_talk.ensures _ _ (c.of_commands-land.ensures _ c.described_command.ensures) c.in_ok-talk.ensures in
    let with_new = c.in_ok-with_new.ensures _ _ with_talk c.in_ok-make.ensures in
    let with_serve = c.in_ok-with_serve.ensures _ _ with_new c.in_ok-serve.ensures in
    let with_check = c.in_ok-with_check.ensures _ _ with_serve c.in_ok-check.ensures in
    let with_migrate = c.in_ok-with_migrate.ensures _ _ with_check c.in_ok-migrate.ensures in
    let with_extract = c.in_ok-with_extract.ensures _ _ with_migrate c.in_ok-extract.ensures in
    c.with_command-7.ensures _ _ with_extract c.in_ok-digest.ensures
