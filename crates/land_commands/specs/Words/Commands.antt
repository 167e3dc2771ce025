-- The commands of the program, as `clap` reads them.
use Rattle.std.specs.Prelude.{◌≡◌, true, false, codes}
use Rattle.clap.specs.Simple.{on_top}
use Rattle.clap.specs.Words.{App, app_of, new_app, with_rule, with_subcommand}
use Rattle.clap.specs.declared.builder.command.Command.{Command}
use Rattle.clap.specs.declared.builder.command.Command.TheViews.{out-Command}
use Rattle.land_commands.specs.Words.Choices.{Places}
use Rattle.land_commands.specs.Words.Options.{at_once_rule, at_rule, clock_rule, connections_rule, file_rule}
use Rattle.land_commands.specs.Words.Options.{kind_rule, party_rule, port_rule, role_rule}
use Rattle.land_commands.specs.declared.words.choices.Choices.{Choices}

-- One of the subcommands is required, and `help` is not one of them.
abbrev pub of_commands : App → App
of_commands = on_top (λ top. record top { subcommand_required = true; disable_help_subcommand = true })

-- `talk --clock MS`
abbrev pub talk_app : App
talk_app = with_rule (new_app (codes "talk")) clock_rule

-- `new --file FILE`
abbrev pub make_app : App
make_app = with_rule (new_app (codes "new")) file_rule

-- `serve --file FILE --port PORT --connections COUNT [--at-once LIMIT]`
abbrev pub serve_app : App
serve_app =
    with_rule
    (with_rule (with_rule (with_rule (new_app (codes "serve")) file_rule) port_rule) connections_rule)
    at_once_rule

-- `check --file FILE`
abbrev pub check_app : App
check_app = with_rule (new_app (codes "check")) file_rule

-- `migrate --file FILE`
abbrev pub migrate_app : App
migrate_app = with_rule (new_app (codes "migrate")) file_rule

-- The options `--file` and `--clock`.
abbrev pub with_clock : App → App
with_clock app = with_rule (with_rule app file_rule) clock_rule

-- The options `--party` and `--role`.
abbrev pub with_caller : (roles : Places) → App → App
with_caller roles app = with_rule (with_rule app party_rule) (role_rule roles)

-- `extract --file FILE --clock MS --party NUMBER --role ROLE --kind KIND [--at MS]`
abbrev pub extract_app : Choices → App
extract_app choices =
    with_rule
    (with_rule (with_caller choices.roles (with_clock (new_app (codes "extract")))) (kind_rule choices.kinds))
    at_rule

-- `digest --file FILE [--at MS]`
abbrev pub digest_app : App
digest_app = with_rule (with_rule (new_app (codes "digest")) file_rule) at_rule

-- The program with all commands except `extract` and `digest`.
abbrev pub plain_app : App
plain_app =
    with_subcommand
    (with_subcommand
    (with_subcommand
    (with_subcommand (with_subcommand (of_commands (new_app (codes "land"))) talk_app.top) make_app.top)
    serve_app.top)
    check_app.top)
    migrate_app.top

-- The program with all its commands. `choices`: the words for roles and kinds.
abbrev pub land_app : Choices → App
land_app choices = with_subcommand (with_subcommand plain_app (extract_app choices).top) digest_app.top

-- A command parses arguments like this one, and has no option that its subcommands share.
pub record IsCommand (app : App) (command : Command) : Type 0 where
  pub app_is : app_of command ≡ app
  pub local : (out-Command command).has_globals ≡ false
