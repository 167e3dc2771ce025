use Rattle.std.proofs.Common.{◌≡◌, ◌∙◌, ℕ, List, Bor, Option, Some, None, option_map, refl}
use Rattle.clap.specs.Words.{Row, Text, found_of, rows_of, subcommand_name_of, subcommand_rows_of}
use Rattle.clap.specs.declared.parser.matches.ArgMatches.{ArgMatches}
use Rattle.clap.specs.declared.parser.matches.ArgMatches.TheViews.{out-ArgMatches}
use Rattle.land_commands.proofs.words.clap_matches.subcommand_found.Goals as goal

pairs : (X A B : Type 0) (f : X → A) (g : X → B) (r : Option X) (o : Option (A × B)) → option_map f r ≡ option_map (λ p. p.0) o → option_map g r ≡ option_map (λ p. p.1) o
    → option_map (λ x. (f x, g x)) r ≡ o
pairs X A B f g None None e h = refl
pairs X A B f g None (Some p) e h = cc
pairs X A B f g (Some x) None e h = cc
pairs X A B f g (Some x) (Some (a, b)) e h = cc

map_first : {S A B : Type 0} (f : S → A) (g : S → B) (s : Option S) → option_map f s ≡ option_map (λ (p : A × B). p.0) (option_map (λ b. (f b, g b)) s)
map_first f g None = refl
map_first f g (Some b) = refl

name_of_rows : (m : ArgMatches) → subcommand_name_of m ≡ option_map (λ (p : Text × List Row). p.0) (subcommand_rows_of m)
name_of_rows m = map_first _ _ (out-ArgMatches m).subcommand

pub returns : goal.returns
returns c =
    pairs (Bor (List ℕ) × Bor ArgMatches) Text (List Row) (λ p. p.0.now) (λ p. rows_of (found_of p.1.now)) c.subcommand.result (subcommand_rows_of c.args.found.now)
    (c.subcommand.ensures.name ∙ name_of_rows c.args.found.now) c.subcommand.ensures.rows
