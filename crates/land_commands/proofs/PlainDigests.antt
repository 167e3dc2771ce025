-- Arguments of `digest` with each option once, in the order of the help text, name this digest.
use Rattle.std.proofs.Common.{◌≡◌, ◌∙◌, ◌==◌, refl, ap, arith, ℕ, pos, true, false, List, [], ◌∷◌, Some, None, codes}
use Rattle.clap.proofs.OnLiterals.{clap_on_literals}
use Rattle.clap.proofs.ValueTestLemmas.{Accepts-accepts}
use Rattle.clap.specs.Faults.{fault_of, level_fault, turn_fault}
use Rattle.clap.specs.Kinds.{or_else}
use Rattle.clap.specs.ValueTests.{accepts}
use Rattle.clap.specs.Walk.{Row, Text, Walk, nothing_held, rows_after, walk_from, walked}
use Rattle.clap.specs.Words.{subcommand_of}
use Rattle.land_commands.proofs.BuiltCommands.{digest_built}
use Rattle.land_commands.proofs.PlainExtracts.{at_row}
use Rattle.land_commands.proofs.PlainWords.{EndsWell, IsRead, Leads, empty_walk, expects_value, file_row, level_well, no_hyphen, none_of_both, numeral_reads, on_to, rows_well, with_value}
use Rattle.land_commands.specs.Words.Commands.{land_app}
use Rattle.land_commands.specs.Words.Laws.{IsNumeralIn, PlainDigestLaw}
use Rattle.land_commands.specs.Words.Names.{NamesBy}
use Rattle.land_commands.specs.Words.Options.{moment_parser}
use Rattle.land_commands.specs.Words.PlainCommands.{to_digest}
use Rattle.land_commands.specs.declared.words.choices.Choices.{Choices}
use Rattle.land_core.specs.Numbers.{last_millisecond}

-- ---- the walk

file_asked : walked digest_built.rules [] (walk_from nothing_held) (codes "--file") ≡ expects_value [] (codes "file")
unfolding clap_on_literals
file_asked = refl

file_asked_well : turn_fault digest_built [] (walk_from nothing_held) (codes "--file") ≡ []
unfolding clap_on_literals
file_asked_well = refl

file_answered : (x : ℕ) (xs : Text) → (x == 45) ≡ false → walked digest_built.rules [] (expects_value [] (codes "file")) (x ∷ xs) ≡ with_value [] (codes "file") (x ∷ xs)
unfolding clap_on_literals
file_answered x xs sign = rw sign (rw sign refl)

file_answered_well : (x : ℕ) (xs : Text) → (x == 45) ≡ false → turn_fault digest_built [] (expects_value [] (codes "file")) (x ∷ xs) ≡ []
unfolding clap_on_literals
file_answered_well x xs sign = rw sign (rw sign refl)

at_asked : (file : Text) → walked digest_built.rules [] (with_value [] (codes "file") file) (codes "--at") ≡ expects_value (file_row file ∷ []) (codes "at")
unfolding clap_on_literals
at_asked file = refl

at_asked_well : (file : Text) → turn_fault digest_built [] (with_value [] (codes "file") file) (codes "--at") ≡ []
unfolding clap_on_literals
at_asked_well file = refl

at_answered : (rows : List Row) (x : ℕ) (xs : Text) → (x == 45) ≡ false
    → walked digest_built.rules [] (expects_value rows (codes "at")) (x ∷ xs) ≡ with_value rows (codes "at") (x ∷ xs)
unfolding clap_on_literals
at_answered rows x xs sign = rw sign (rw sign refl)

at_answered_well : (rows : List Row) (x : ℕ) (xs : Text) → (x == 45) ≡ false → turn_fault digest_built [] (expects_value rows (codes "at")) (x ∷ xs) ≡ []
unfolding clap_on_literals
at_answered_well rows x xs sign = rw sign (rw sign refl)

file_ends : (file : Text) → EndsWell digest_built (with_value [] (codes "file") file).held
unfolding clap_on_literals
file_ends file = record { settles = refl; defaults = refl; checks = refl }

at_ends : (file at : Text) → accepts false moment_parser at ≡ true → EndsWell digest_built (with_value (file_row file ∷ []) (codes "at") at).held
unfolding clap_on_literals
at_ends file at accepted = record { settles = rw accepted refl; defaults = refl; checks = refl }

-- the walk until the file
to_file : (x : ℕ) (xs : Text) (more : List Text) (end : Walk) → (x == 45) ≡ false → Leads digest_built (with_value [] (codes "file") (x ∷ xs)) more end
    → Leads digest_built (walk_from nothing_held) (codes "--file" ∷ (x ∷ xs) ∷ more) end
to_file x xs more end sign rest =
    on_to digest_built _ _ _ _ _ file_asked file_asked_well
    (on_to digest_built _ _ _ _ _ (file_answered x xs sign) (file_answered_well x xs sign) rest)

-- ---- the arguments of the program are those of `digest` after its name

fault_below : (choices : Choices) (program file : Text) → fault_of (land_app choices) (program ∷ codes "digest" ∷ codes "--file" ∷ file ∷ [])
    ≡ or_else (level_fault digest_built [] nothing_held (codes "--file" ∷ file ∷ []) false []) []
unfolding clap_on_literals
fault_below choices program file = refl

rows_below : (choices : Choices) (program file : Text) → subcommand_of (land_app choices) (program ∷ codes "digest" ∷ codes "--file" ∷ file ∷ [])
    ≡ Some (codes "digest", rows_after digest_built.rules [] (codes "--file" ∷ file ∷ []))
unfolding clap_on_literals
rows_below choices program file = refl

fault_below_at : (choices : Choices) (program file at : Text)
    → fault_of (land_app choices) (program ∷ codes "digest" ∷ codes "--file" ∷ file ∷ codes "--at" ∷ at ∷ [])
    ≡ or_else (level_fault digest_built [] nothing_held (codes "--file" ∷ file ∷ codes "--at" ∷ at ∷ []) false []) []
unfolding clap_on_literals
fault_below_at choices program file at = refl

rows_below_at : (choices : Choices) (program file at : Text)
    → subcommand_of (land_app choices) (program ∷ codes "digest" ∷ codes "--file" ∷ file ∷ codes "--at" ∷ at ∷ [])
    ≡ Some (codes "digest", rows_after digest_built.rules [] (codes "--file" ∷ file ∷ codes "--at" ∷ at ∷ []))
unfolding clap_on_literals
rows_below_at choices program file at = refl

-- ---- the law

module _ (choices : Choices) (program : Text) (x : ℕ) (xs : Text) (sign : (x == 45) ≡ false) where
  of_all : NamesBy choices (program ∷ codes "digest" ∷ codes "--file" ∷ (x ∷ xs) ∷ []) (to_digest (x ∷ xs) None)
  of_all =
      let leads = to_file x xs [] _ sign (empty_walk digest_built _) in
      record {
        faultless = fault_below choices program (x ∷ xs) ∙ none_of_both _ _ (level_well digest_built _ _ leads (file_ends (x ∷ xs))) refl;
        found = (
          file_row (x ∷ xs) ∷ [],
          rows_below choices program (x ∷ xs) ∙ ap (λ (rows : List Row). Some (codes "digest", rows)) (rows_well digest_built _ _ leads),
          (refl, refl),
        );
      }

  up_to : (y : ℕ) (ys : Text) (at : ℕ) → IsRead (y ∷ ys) 0 last_millisecond at
      → NamesBy choices (program ∷ codes "digest" ∷ codes "--file" ∷ (x ∷ xs) ∷ codes "--at" ∷ (y ∷ ys) ∷ []) (to_digest (x ∷ xs) (Some (pos at)))
  up_to y ys at at_read =
      let at_sign = no_hyphen y at_read.0 in
      let leads =
      to_file x xs (codes "--at" ∷ (y ∷ ys) ∷ []) _ sign
      (on_to digest_built _ _ _ _ _ (at_asked (x ∷ xs)) (at_asked_well (x ∷ xs))
      (on_to digest_built _ _ _ _ _ (at_answered _ y ys at_sign) (at_answered_well _ y ys at_sign) (empty_walk digest_built _))) in
      let ends = at_ends (x ∷ xs) (y ∷ ys) (Accepts-accepts false moment_parser (y ∷ ys) at_read.1) in
      record {
        faultless = fault_below_at choices program (x ∷ xs) (y ∷ ys) ∙ none_of_both _ _ (level_well digest_built _ _ leads ends) refl;
        found = (
          file_row (x ∷ xs) ∷ at_row (y ∷ ys) ∷ [],
          rows_below_at choices program (x ∷ xs) (y ∷ ys) ∙ ap (λ (rows : List Row). Some (codes "digest", rows)) (rows_well digest_built _ _ leads),
          (refl, record { text = y ∷ ys; found = refl; in_range = at_read.1; value = at_read.2 }),
        );
      }

  up_to_any : (at_digits : Text) (at : ℕ) → IsNumeralIn at_digits 0 last_millisecond at
      → NamesBy choices (program ∷ codes "digest" ∷ codes "--file" ∷ (x ∷ xs) ∷ codes "--at" ∷ at_digits ∷ []) (to_digest (x ∷ xs) (Some (pos at)))
  up_to_any [] at written = absurd (omega arith)
  up_to_any (y ∷ ys) at written = up_to y ys at (numeral_reads (y ∷ ys) 0 last_millisecond at (omega arith) written)

pub plain_digest : PlainDigestLaw
plain_digest choices program [] plain = absurd plain
plain_digest choices program (x ∷ xs) plain =
    let sign = no_hyphen x plain in
    (of_all choices program x xs sign, up_to_any choices program x xs sign)
