-- Arguments of `extract` with each option once, in the order of the help text, name this extract.
use Rattle.std.proofs.Common.{◌≡◌, ◌∙◌, ◌==◌, refl, ap, arith, ℕ, pos, true, false, List, [], ◌∷◌, ◌++◌, Some, None, codes}
use Rattle.std.specs.List.{list_any}
use Rattle.std.specs.Str.{bytes_eq}
use Rattle.clap.proofs.OnLiterals.{clap_on_literals}
use Rattle.clap.proofs.ValueTestLemmas.{Accepts-accepts}
use Rattle.clap.specs.Faults.{fault_of, level_fault, turn_fault}
use Rattle.clap.specs.Kinds.{or_else}
use Rattle.clap.specs.ValueTests.{accepts}
use Rattle.clap.specs.Walk.{Row, Text, Walk, nothing_held, rows_after, texts, walk_from, walked}
use Rattle.clap.specs.Words.{subcommand_of}
use Rattle.clap.specs.declared.builder.value_parser.Reading.TheVariants as reading
use Rattle.clap.specs.declared.builder.value_parser.ValueParser.TheVariants as parser
use Rattle.land_commands.proofs.BuiltCommands.{extract_built}
use Rattle.land_commands.proofs.FaultlessExtract.{any_text}
use Rattle.land_commands.proofs.PlainWords.{EndsWell, IsRead, Leads, with_value, expects_value, clock_row, file_row, level_well, no_hyphen, none_of_both, empty_walk, on_to, row_with, rows_well, numeral_reads}
use Rattle.land_commands.specs.Words.Choices.{Places, kind_word, kind_words, role_word, role_words}
use Rattle.land_commands.specs.Words.Commands.{land_app}
use Rattle.land_commands.specs.Words.Laws.{IsPlainText, PlainExtractLaw, extract_words}
use Rattle.land_commands.specs.Words.Names.{NamesBy}
use Rattle.land_commands.specs.Words.Options.{moment_parser, party_parser}
use Rattle.land_commands.specs.Words.PlainCommands.{to_extract}
use Rattle.land_commands.specs.declared.words.choices.Choices.{Choices}
use Rattle.land_core.specs.Numbers.{last_millisecond}
use Rattle.land_core.specs.declared.kind.Kind.{Kind}
use Rattle.land_core.specs.declared.kind.Kind.TheVariants as kind
use Rattle.land_core.specs.declared.role.Role.{Role}
use Rattle.land_core.specs.declared.role.Role.TheVariants as role

abbrev party_row : Text → Row
party_row = row_with (codes "party") reading.WithoutMinus

abbrev role_row : Text → Row
role_row = row_with (codes "role") reading.AsWritten

abbrev kind_row : Text → Row
kind_row = row_with (codes "kind") reading.AsWritten

abbrev pub at_row : Text → Row
at_row = row_with (codes "at") reading.WithoutMinus

-- ---- options with a fixed set of words

chosen_passes : (places : Places) (words : List Text) (text : Text) → texts places.now ≡ words → list_any (λ word. bytes_eq word text) words ≡ true
    → accepts false (parser.Names places) text ≡ true
chosen_passes places words text e among =
    any_text text places.now ∙ (ap (λ (words : List Text). list_any (λ word. bytes_eq word text) words) e ∙ among)

passing_role : (places : Places) (role : Role) → texts places.now ≡ role_words → accepts false (parser.Names places) (role_word role) ≡ true
passing_role places role.Citizen e = chosen_passes places role_words _ e refl
passing_role places role.Conveyancer e = chosen_passes places role_words _ e refl
passing_role places role.Notary e = chosen_passes places role_words _ e refl
passing_role places role.Bank e = chosen_passes places role_words _ e refl
passing_role places role.CertifiedSurveyor e = chosen_passes places role_words _ e refl
passing_role places role.StateAdministrator e = chosen_passes places role_words _ e refl

passing_kind : (places : Places) (kind : Kind) → texts places.now ≡ kind_words → accepts false (parser.Names places) (kind_word kind) ≡ true
passing_kind places kind.Party e = chosen_passes places kind_words _ e refl
passing_kind places kind.Unit e = chosen_passes places kind_words _ e refl
passing_kind places kind.Parcel e = chosen_passes places kind_words _ e refl
passing_kind places kind.Rrr e = chosen_passes places kind_words _ e refl
passing_kind places kind.Source e = chosen_passes places kind_words _ e refl
passing_kind places kind.Mutation e = chosen_passes places kind_words _ e refl

plain_role : (role : Role) → IsPlainText (role_word role)
plain_role role.Citizen = λ e. absurd (omega arith)
plain_role role.Conveyancer = λ e. absurd (omega arith)
plain_role role.Notary = λ e. absurd (omega arith)
plain_role role.Bank = λ e. absurd (omega arith)
plain_role role.CertifiedSurveyor = λ e. absurd (omega arith)
plain_role role.StateAdministrator = λ e. absurd (omega arith)

plain_kind : (kind : Kind) → IsPlainText (kind_word kind)
plain_kind kind.Party = λ e. absurd (omega arith)
plain_kind kind.Unit = λ e. absurd (omega arith)
plain_kind kind.Parcel = λ e. absurd (omega arith)
plain_kind kind.Rrr = λ e. absurd (omega arith)
plain_kind kind.Source = λ e. absurd (omega arith)
plain_kind kind.Mutation = λ e. absurd (omega arith)

-- the arguments of `extract` after its name, for any words for role and kind
abbrev extract_texts : (file clock party role kind : Text) → List Text
extract_texts file clock party role kind =
    codes "--file" ∷ file ∷ codes "--clock" ∷ clock ∷ codes "--party" ∷ party ∷ codes "--role" ∷ role ∷ codes "--kind" ∷ kind ∷ []

-- ---- the walk

module _ (choices : Choices) where
  -- a value after the name of an option is its value, without a fault
  record Answers (name : Text) : Type 0 where
    answers : (rows : List Row) (x : ℕ) (xs : Text) → (x == 45) ≡ false
        → walked (extract_built choices).rules [] (expects_value rows name) (x ∷ xs) ≡ with_value rows name (x ∷ xs)
    well : (rows : List Row) (x : ℕ) (xs : Text) → (x == 45) ≡ false → turn_fault (extract_built choices) [] (expects_value rows name) (x ∷ xs) ≡ []

  file_answers : Answers (codes "file")
  unfolding clap_on_literals
  file_answers = record { answers = λ rows x xs sign. rw sign (rw sign refl); well = λ rows x xs sign. rw sign (rw sign refl) }

  clock_answers : Answers (codes "clock")
  unfolding clap_on_literals
  clock_answers = record { answers = λ rows x xs sign. rw sign (rw sign refl); well = λ rows x xs sign. rw sign (rw sign refl) }

  party_answers : Answers (codes "party")
  unfolding clap_on_literals
  party_answers = record { answers = λ rows x xs sign. rw sign (rw sign refl); well = λ rows x xs sign. rw sign (rw sign refl) }

  role_answers : Answers (codes "role")
  unfolding clap_on_literals
  role_answers = record { answers = λ rows x xs sign. rw sign (rw sign refl); well = λ rows x xs sign. rw sign (rw sign refl) }

  kind_answers : Answers (codes "kind")
  unfolding clap_on_literals
  kind_answers = record { answers = λ rows x xs sign. rw sign (rw sign refl); well = λ rows x xs sign. rw sign (rw sign refl) }

  at_answers : Answers (codes "at")
  unfolding clap_on_literals
  at_answers = record { answers = λ rows x xs sign. rw sign (rw sign refl); well = λ rows x xs sign. rw sign (rw sign refl) }

  file_asked : walked (extract_built choices).rules [] (walk_from nothing_held) (codes "--file") ≡ expects_value [] (codes "file")
  unfolding clap_on_literals
  file_asked = refl

  file_asked_well : turn_fault (extract_built choices) [] (walk_from nothing_held) (codes "--file") ≡ []
  unfolding clap_on_literals
  file_asked_well = refl

  clock_asked : (file : Text) → walked (extract_built choices).rules [] (with_value [] (codes "file") file) (codes "--clock") ≡ expects_value (file_row file ∷ []) (codes "clock")
  unfolding clap_on_literals
  clock_asked file = refl

  clock_asked_well : (file : Text) → turn_fault (extract_built choices) [] (with_value [] (codes "file") file) (codes "--clock") ≡ []
  unfolding clap_on_literals
  clock_asked_well file = refl

  party_asked : (file clock : Text) → walked (extract_built choices).rules [] (with_value (file_row file ∷ []) (codes "clock") clock) (codes "--party")
      ≡ expects_value (file_row file ∷ clock_row clock ∷ []) (codes "party")
  unfolding clap_on_literals
  party_asked file clock = refl

  party_asked_well : (file clock : Text) → accepts false moment_parser clock ≡ true
      → turn_fault (extract_built choices) [] (with_value (file_row file ∷ []) (codes "clock") clock) (codes "--party") ≡ []
  unfolding clap_on_literals
  party_asked_well file clock accepted = rw accepted refl

  role_asked : (file clock party : Text)
      → walked (extract_built choices).rules [] (with_value (file_row file ∷ clock_row clock ∷ []) (codes "party") party) (codes "--role")
      ≡ expects_value (file_row file ∷ clock_row clock ∷ party_row party ∷ []) (codes "role")
  unfolding clap_on_literals
  role_asked file clock party = refl

  role_asked_well : (file clock party : Text) → accepts false party_parser party ≡ true
      → turn_fault (extract_built choices) [] (with_value (file_row file ∷ clock_row clock ∷ []) (codes "party") party) (codes "--role") ≡ []
  unfolding clap_on_literals
  role_asked_well file clock party accepted = rw accepted refl

  kind_asked : (file clock party role : Text)
      → walked (extract_built choices).rules [] (with_value (file_row file ∷ clock_row clock ∷ party_row party ∷ []) (codes "role") role) (codes "--kind")
      ≡ expects_value (file_row file ∷ clock_row clock ∷ party_row party ∷ role_row role ∷ []) (codes "kind")
  unfolding clap_on_literals
  kind_asked file clock party role = refl

  kind_asked_well : (file clock party role : Text) → accepts false (parser.Names choices.roles) role ≡ true
      → turn_fault (extract_built choices) [] (with_value (file_row file ∷ clock_row clock ∷ party_row party ∷ []) (codes "role") role) (codes "--kind") ≡ []
  unfolding clap_on_literals
  kind_asked_well file clock party role accepted = rw accepted refl

  at_asked : (file clock party role kind : Text)
      → walked (extract_built choices).rules [] (with_value (file_row file ∷ clock_row clock ∷ party_row party ∷ role_row role ∷ []) (codes "kind") kind) (codes "--at")
      ≡ expects_value (file_row file ∷ clock_row clock ∷ party_row party ∷ role_row role ∷ kind_row kind ∷ []) (codes "at")
  unfolding clap_on_literals
  at_asked file clock party role kind = refl

  at_asked_well : (file clock party role kind : Text) → accepts false (parser.Names choices.kinds) kind ≡ true
      → turn_fault (extract_built choices) [] (with_value (file_row file ∷ clock_row clock ∷ party_row party ∷ role_row role ∷ []) (codes "kind") kind) (codes "--at") ≡ []
  unfolding clap_on_literals
  at_asked_well file clock party role kind accepted = rw accepted refl

  kind_ends : (file clock party role kind : Text) → accepts false (parser.Names choices.kinds) kind ≡ true
      → EndsWell (extract_built choices) (with_value (file_row file ∷ clock_row clock ∷ party_row party ∷ role_row role ∷ []) (codes "kind") kind).held
  unfolding clap_on_literals
  kind_ends file clock party role kind accepted = record { settles = rw accepted refl; defaults = refl; checks = refl }

  at_ends : (file clock party role kind at : Text) → accepts false moment_parser at ≡ true
      → EndsWell (extract_built choices)
      (with_value (file_row file ∷ clock_row clock ∷ party_row party ∷ role_row role ∷ kind_row kind ∷ []) (codes "at") at).held
  unfolding clap_on_literals
  at_ends file clock party role kind at accepted = record { settles = rw accepted refl; defaults = refl; checks = refl }

  -- the arguments of the program are those of `extract` after its name
  fault_below : (program file clock party role kind : Text) → fault_of (land_app choices) (program ∷ codes "extract" ∷ extract_texts file clock party role kind)
      ≡ or_else (level_fault (extract_built choices) [] nothing_held (extract_texts file clock party role kind) false []) []
  unfolding clap_on_literals
  fault_below program file clock party role kind = refl

  rows_below : (program file clock party role kind : Text) → subcommand_of (land_app choices) (program ∷ codes "extract" ∷ extract_texts file clock party role kind)
      ≡ Some (codes "extract", rows_after (extract_built choices).rules [] (extract_texts file clock party role kind))
  unfolding clap_on_literals
  rows_below program file clock party role kind = refl

  fault_below_at : (program file clock party role kind at : Text)
      → fault_of (land_app choices) (program ∷ codes "extract" ∷ (extract_texts file clock party role kind ++ codes "--at" ∷ at ∷ []))
      ≡ or_else (level_fault (extract_built choices) [] nothing_held (extract_texts file clock party role kind ++ codes "--at" ∷ at ∷ []) false []) []
  unfolding clap_on_literals
  fault_below_at program file clock party role kind at = refl

  rows_below_at : (program file clock party role kind at : Text)
      → subcommand_of (land_app choices) (program ∷ codes "extract" ∷ (extract_texts file clock party role kind ++ codes "--at" ∷ at ∷ []))
      ≡ Some (codes "extract", rows_after (extract_built choices).rules [] (extract_texts file clock party role kind ++ codes "--at" ∷ at ∷ []))
  unfolding clap_on_literals
  rows_below_at program file clock party role kind at = refl

  -- after a value of an option the walk continues
  answer_on : (name : Text) → Answers name → (rows : List Row) (text : Text) (words : List Text) (end : Walk) → IsPlainText text
      → Leads (extract_built choices) (with_value rows name text) words end → Leads (extract_built choices) (expects_value rows name) (text ∷ words) end
  answer_on name it rows [] words end plain rest = absurd plain
  answer_on name it rows (x ∷ xs) words end plain rest =
      let sign = no_hyphen x plain in
      on_to (extract_built choices) _ _ _ _ _ (it.answers rows x xs sign) (it.well rows x xs sign) rest

  -- values that the options accept
  record AreTaken (file clock party role kind : Text) : Type 0 where
    file_plain : IsPlainText file
    clock_plain : IsPlainText clock
    party_plain : IsPlainText party
    role_plain : IsPlainText role
    kind_plain : IsPlainText kind
    clock_passes : accepts false moment_parser clock ≡ true
    party_passes : accepts false party_parser party ≡ true
    role_passes : accepts false (parser.Names choices.roles) role ≡ true
    kind_passes : accepts false (parser.Names choices.kinds) kind ≡ true

  to_kind : (file clock party role kind : Text) (more : List Text) (end : Walk) → AreTaken file clock party role kind
      → Leads (extract_built choices) (with_value (file_row file ∷ clock_row clock ∷ party_row party ∷ role_row role ∷ []) (codes "kind") kind) more end
      → Leads (extract_built choices) (walk_from nothing_held) (extract_texts file clock party role kind ++ more) end
  to_kind file clock party role kind more end taken rest =
      on_to (extract_built choices) _ _ _ _ _ file_asked file_asked_well
      (answer_on (codes "file") file_answers _ file _ _ taken.file_plain
      (on_to (extract_built choices) _ _ _ _ _ (clock_asked file) (clock_asked_well file)
      (answer_on (codes "clock") clock_answers _ clock _ _ taken.clock_plain
      (on_to (extract_built choices) _ _ _ _ _ (party_asked file clock) (party_asked_well file clock taken.clock_passes)
      (answer_on (codes "party") party_answers _ party _ _ taken.party_plain
      (on_to (extract_built choices) _ _ _ _ _ (role_asked file clock party) (role_asked_well file clock party taken.party_passes)
      (answer_on (codes "role") role_answers _ role _ _ taken.role_plain
      (on_to (extract_built choices) _ _ _ _ _ (kind_asked file clock party role) (kind_asked_well file clock party role taken.role_passes)
      (answer_on (codes "kind") kind_answers _ kind _ _ taken.kind_plain rest)))))))))

  module _ (program file clock_digits party_digits : Text) (clock party : ℕ) (role : Role) (kind : Kind)
      (taken : AreTaken file clock_digits party_digits (role_word role) (kind_word kind)) (clock_read : IsRead clock_digits 0 last_millisecond clock)
      (party_read : IsRead party_digits 1 1000000000 party) where
    at_clock : NamesBy choices (program ∷ codes "extract" ∷ extract_words file clock_digits party_digits role kind)
        (to_extract file (pos clock) party role kind None)
    at_clock =
        let leads = to_kind file clock_digits party_digits (role_word role) (kind_word kind) [] _ taken (empty_walk (extract_built choices) _) in
        let ends = kind_ends file clock_digits party_digits (role_word role) (kind_word kind) taken.kind_passes in
        record {
          faultless =
              fault_below program file clock_digits party_digits (role_word role) (kind_word kind)
              ∙ none_of_both _ _ (level_well (extract_built choices) _ _ leads ends) refl;
          found = (
            file_row file ∷ clock_row clock_digits ∷ party_row party_digits ∷ role_row (role_word role) ∷ kind_row (kind_word kind) ∷ [],
            rows_below program file clock_digits party_digits (role_word role) (kind_word kind)
                ∙ ap (λ (rows : List Row). Some (codes "extract", rows)) (rows_well (extract_built choices) _ _ leads),
            (
              refl,
              record { text = clock_digits; found = refl; in_range = clock_read.1; value = clock_read.2 },
              (record { text = party_digits; found = refl; in_range = party_read.1; value = party_read.2 }, refl),
              refl,
              refl,
            ),
          );
        }

    at_moment : (at_digits : Text) (at : ℕ) → IsRead at_digits 0 last_millisecond at → accepts false moment_parser at_digits ≡ true
        → NamesBy choices (program ∷ codes "extract" ∷ (extract_words file clock_digits party_digits role kind ++ codes "--at" ∷ at_digits ∷ []))
        (to_extract file (pos clock) party role kind (Some (pos at)))
    at_moment at_digits at at_read at_passes =
        let leads =
        to_kind file clock_digits party_digits (role_word role) (kind_word kind) (codes "--at" ∷ at_digits ∷ []) _ taken
        (on_to (extract_built choices) _ _ _ _ _ (at_asked file clock_digits party_digits (role_word role) (kind_word kind))
        (at_asked_well file clock_digits party_digits (role_word role) (kind_word kind) taken.kind_passes)
        (answer_on (codes "at") at_answers _ at_digits _ _ at_read.0 (empty_walk (extract_built choices) _))) in
        let ends = at_ends file clock_digits party_digits (role_word role) (kind_word kind) at_digits at_passes in
        record {
          faultless =
              fault_below_at program file clock_digits party_digits (role_word role) (kind_word kind) at_digits
              ∙ none_of_both _ _ (level_well (extract_built choices) _ _ leads ends) refl;
          found = (
            file_row file ∷ clock_row clock_digits ∷ party_row party_digits ∷ role_row (role_word role) ∷ kind_row (kind_word kind) ∷ at_row at_digits ∷ [],
            rows_below_at program file clock_digits party_digits (role_word role) (kind_word kind) at_digits
                ∙ ap (λ (rows : List Row). Some (codes "extract", rows)) (rows_well (extract_built choices) _ _ leads),
            (
              refl,
              record { text = clock_digits; found = refl; in_range = clock_read.1; value = clock_read.2 },
              (record { text = party_digits; found = refl; in_range = party_read.1; value = party_read.2 }, refl),
              refl,
              record { text = at_digits; found = refl; in_range = at_read.1; value = at_read.2 },
            ),
          );
        }

pub plain_extract : PlainExtractLaw
plain_extract choices program file clock_digits party_digits clock party role kind spelled plain clock_written party_written =
    let clock_read = numeral_reads clock_digits 0 last_millisecond clock (omega arith) clock_written in
    let party_read = numeral_reads party_digits 1 1000000000 party (omega arith) party_written in
    let taken : AreTaken choices file clock_digits party_digits (role_word role) (kind_word kind) = record {
      file_plain = plain;
      clock_plain = clock_read.0;
      party_plain = party_read.0;
      role_plain = plain_role role;
      kind_plain = plain_kind kind;
      clock_passes = Accepts-accepts false moment_parser clock_digits clock_read.1;
      party_passes = Accepts-accepts false party_parser party_digits party_read.1;
      role_passes = passing_role choices.roles role spelled.roles;
      kind_passes = passing_kind choices.kinds kind spelled.kinds;
    } in (
      at_clock choices program file clock_digits party_digits clock party role kind taken clock_read party_read,
      λ at_digits at at_written.
          let at_read = numeral_reads at_digits 0 last_millisecond at (omega arith) at_written in
          at_moment choices program file clock_digits party_digits clock party role kind taken clock_read party_read at_digits at at_read
          (Accepts-accepts false moment_parser at_digits at_read.1),
    )
