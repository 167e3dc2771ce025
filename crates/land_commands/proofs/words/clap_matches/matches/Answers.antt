use Rattle.std.proofs.Common.{◌≡◌, ◌∙◌, ap, refl, true, map, string_bytes}
use Rattle.std.proofs.lemmas.Result.{IfOk-weaker}
use Rattle.clap.proofs.FaultLemmas.{fails_as}
use Rattle.clap.proofs.OnLiterals.{clap_on_literals}
use Rattle.clap.specs.Words.{App, fault_of, is_simple, is_simple_and_free, subcommand_of}
use Rattle.land_commands.specs.Words.Commands.{land_app}
use Rattle.land_commands.specs.declared.words.choices.Choices.{Choices}
use Rattle.land_commands.proofs.words.clap_matches.matches.Goals as goal

simple : (choices : Choices) → is_simple (land_app choices) ≡ true
unfolding clap_on_literals
simple choices = refl

free : (choices : Choices) → is_simple_and_free (land_app choices) ≡ true
unfolding clap_on_literals
free choices = refl

pub returns-clause-found : goal.returns-clause-found
returns-clause-found c =
    let land_is = c.in_ok-land.ensures.app_is in
    IfOk-weaker c.try_get_matches_from.result _ _
    (λ m h. (h (ap is_simple land_is ∙ simple c.args.choices)).1 ∙ ap (λ (a : App). subcommand_of a (map string_bytes c.args.words.now)) land_is) c.try_get_matches_from.ensures.matches

pub returns-clause-kinds : goal.returns-clause-kinds
returns-clause-kinds c =
    let land_is = c.in_ok-land.ensures.app_is in
    fails_as c.try_get_matches_from.result _ _ (ap (λ (a : App). fault_of a (map string_bytes c.args.words.now)) land_is)
    (c.try_get_matches_from.ensures.kinds (ap is_simple_and_free land_is ∙ free c.args.choices))
