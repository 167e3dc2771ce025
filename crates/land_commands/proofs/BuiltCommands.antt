-- Commands with their options, as `clap` builds them.
use Rattle.std.proofs.Common.{true, false, List, [], ◌∷◌, ◌++◌, codes}
use Rattle.clap.specs.Simple.{Shape, filled_from, help_rule, new_shape}
use Rattle.clap.specs.Walk.{Rule, Text}
use Rattle.land_commands.specs.Words.Options.{at_once_rule, connections_rule, file_rule, kind_rule, moment_rule, party_rule, port_rule, role_rule}
use Rattle.land_commands.specs.declared.words.choices.Choices.{Choices}

-- a command with these options, as `clap` builds it
abbrev pub built_of : (name : Text) → List Rule → Shape
built_of name options = record (new_shape name) {
  rules = filled_from 1 (options ++ help_rule ∷ []);
  is_built = true;
  disable_help_subcommand = true;
}

abbrev pub talk_built : Shape
talk_built = built_of (codes "talk") (moment_rule (codes "clock") true ∷ [])

-- a command with only a file
abbrev pub file_built : Text → Shape
file_built name = built_of name (file_rule ∷ [])

abbrev pub serve_built : Shape
serve_built = built_of (codes "serve") (file_rule ∷ port_rule ∷ connections_rule ∷ at_once_rule ∷ [])

abbrev pub extract_built : Choices → Shape
extract_built choices =
    built_of (codes "extract")
    (file_rule ∷ moment_rule (codes "clock") true ∷ party_rule ∷ role_rule choices.roles ∷ kind_rule choices.kinds ∷ moment_rule (codes "at") false ∷ [])

abbrev pub digest_built : Shape
digest_built = built_of (codes "digest") (file_rule ∷ moment_rule (codes "at") false ∷ [])
