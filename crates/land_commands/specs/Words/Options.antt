-- The options of the commands, as `clap` reads them.
use Rattle.std.specs.Prelude.{◌≡◌, Bool, true, false, Some, pos, codes}
use Rattle.clap.specs.Words.{Rule, Text, new_rule, rule_of}
use Rattle.clap.specs.declared.builder.arg.Arg.{Arg}
use Rattle.clap.specs.declared.builder.value_parser.ValueParser.{ValueParser}
use Rattle.clap.specs.declared.builder.value_parser.ValueParser.TheVariants as parser
use Rattle.land_commands.specs.Words.Choices.{Places}
use Rattle.land_core.specs.Numbers.{last_moment}

-- `--NAME VALUE`: an option with one value, which the parser accepts.
abbrev pub option_rule : (name : Text) → (is_required : Bool) → ValueParser → Rule
option_rule name is_required values = record (new_rule name) {
  long = Some name;
  value_names = 1;
  required = is_required;
  parser = Some values;
}

-- Numbers from 0 to the last moment.
abbrev pub moment_parser : ValueParser
moment_parser = parser.Signed (pos 0) last_moment

-- Numbers from 1 to 65535.
abbrev pub port_parser : ValueParser
port_parser = parser.Signed (pos 1) (pos 65535)

-- Numbers from 1 to 1000000.
abbrev pub count_parser : ValueParser
count_parser = parser.Signed (pos 1) (pos 1000000)

-- Numbers from 1 to 1024.
abbrev pub limit_parser : ValueParser
limit_parser = parser.Signed (pos 1) (pos 1024)

-- Numbers from 1 to 1000000000.
abbrev pub party_parser : ValueParser
party_parser = parser.Signed (pos 1) (pos 1000000000)

-- `--NAME MS`: a moment.
abbrev pub moment_rule : (name : Text) → (is_required : Bool) → Rule
moment_rule name is_required = option_rule name is_required moment_parser

-- `--clock MS`
abbrev pub clock_rule : Rule
clock_rule = moment_rule (codes "clock") true

-- `--at MS`, which is optional.
abbrev pub at_rule : Rule
at_rule = moment_rule (codes "at") false

-- `--file FILE`: any text.
abbrev pub file_rule : Rule
file_rule = option_rule (codes "file") true parser.String

-- `--port PORT`
abbrev pub port_rule : Rule
port_rule = option_rule (codes "port") true port_parser

-- `--connections COUNT`
abbrev pub connections_rule : Rule
connections_rule = option_rule (codes "connections") true count_parser

-- `--at-once LIMIT`, which is optional.
abbrev pub at_once_rule : Rule
at_once_rule = option_rule (codes "at-once") false limit_parser

-- `--party NUMBER`
abbrev pub party_rule : Rule
party_rule = option_rule (codes "party") true party_parser

-- `--role ROLE`: one of these words.
abbrev pub role_rule : Places → Rule
role_rule roles = option_rule (codes "role") true (parser.Names roles)

-- `--kind KIND`: one of these words.
abbrev pub kind_rule : Places → Rule
kind_rule kinds = option_rule (codes "kind") true (parser.Names kinds)

-- An option parses arguments by this rule, and belongs to its command only.
pub record IsOption (rule : Rule) (option : Arg) : Type 0 where
  pub rule_is : rule_of option ≡ rule
  pub local : option.global ≡ false
