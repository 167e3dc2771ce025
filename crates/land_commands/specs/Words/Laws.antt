-- Theorems about arguments, for choices at any place in memory.
use Rattle.std.specs.Prelude.{◌≡◌, ◌≢◌, ◌≤◌, ℕ, pos, List, [], ◌∷◌, ◌++◌, Some, None, codes}
use Rattle.std.specs.Str.Parse.{IsNumeral, digits_value}
use Rattle.clap.specs.Words.{Text, fault_of}
use Rattle.land_commands.specs.Words.Choices.{AreChoiceWords, kind_word, role_word}
use Rattle.land_commands.specs.Words.Commands.{land_app}
use Rattle.land_commands.specs.Words.Names.{NamesBy}
use Rattle.land_commands.specs.Words.PlainCommands.{PlainCommand, to_talk, to_make, to_serve, to_check}
use Rattle.land_commands.specs.Words.PlainCommands.{to_migrate, to_extract, to_digest}
use Rattle.land_commands.specs.declared.words.choices.Choices.{Choices}
use Rattle.land_core.specs.Numbers.{last_millisecond}
use Rattle.land_core.specs.declared.kind.Kind.{Kind}
use Rattle.land_core.specs.declared.role.Role.{Role}

-- Decimal digits of a number in a range. Leading zeros are accepted.
abbrev pub IsNumeralIn : (digits : Text) → (least most number : ℕ) → Type 0
IsNumeralIn digits least most number =
    IsNumeral 10 digits × (digits_value 10 digits ≡ number) × (least ≤ number) × (number ≤ most)

-- Decimal digits of a moment, in Unix milliseconds.
abbrev pub IsMomentNumeral : (digits : Text) (moment : ℕ) → Type 0
IsMomentNumeral digits moment = IsNumeralIn digits 0 last_millisecond moment

-- A value of an option is not empty and does not start with a hyphen.
abbrev pub IsPlainText : Text → Type 0
IsPlainText [] = ⊥
IsPlainText (first ∷ rest) = first ≢ 45

-- Arguments name at most one command.
abbrev pub OneCommandLaw : Type 0
OneCommandLaw =
    (choices : Choices) (words : List Text) (a b : PlainCommand) → NamesBy choices words a
    → NamesBy choices words b → a ≡ b

-- Arguments in which `clap` finds no fault name a command.
abbrev pub FaultlessWordsLaw : Type 0
FaultlessWordsLaw =
    (choices : Choices) (words : List Text) → AreChoiceWords choices → fault_of (land_app choices) words ≡ []
    → (order : PlainCommand) × NamesBy choices words order

-- `talk --clock MS` names `talk`, if MS is a moment in decimal digits, for any name of the program.
abbrev pub PlainTalkLaw : Type 0
PlainTalkLaw =
    (choices : Choices) (program digits : Text) (moment : ℕ) → IsMomentNumeral digits moment
    → NamesBy choices (program ∷ codes "talk" ∷ codes "--clock" ∷ digits ∷ []) (to_talk (pos moment))

-- `new --file FILE`, `check --file FILE` and `migrate --file FILE` name these commands with that file.
abbrev pub PlainFileLaw : Type 0
PlainFileLaw = (choices : Choices) (program file : Text) → IsPlainText file
    → NamesBy choices (program ∷ codes "new" ∷ codes "--file" ∷ file ∷ []) (to_make file)
    × NamesBy choices (program ∷ codes "check" ∷ codes "--file" ∷ file ∷ []) (to_check file)
    × NamesBy choices (program ∷ codes "migrate" ∷ codes "--file" ∷ file ∷ []) (to_migrate file)

-- The arguments of `serve` after its name.
abbrev pub serve_words : (file port_digits count_digits : Text) → List Text
serve_words file port_digits count_digits =
    codes "--file" ∷ file ∷ codes "--port" ∷ port_digits ∷ codes "--connections" ∷ count_digits ∷ []

-- `serve --file FILE --port PORT --connections COUNT` names `serve` for one connection at a time, and with
-- `--at-once LIMIT` for this number of them, if PORT, COUNT and LIMIT are decimal digits.
abbrev pub PlainServiceLaw : Type 0
PlainServiceLaw =
    (choices : Choices) (program file port_digits count_digits : Text) (port connections : ℕ)
    → IsPlainText file
    → IsNumeralIn port_digits 1 65535 port → IsNumeralIn count_digits 1 1000000 connections
    → NamesBy choices (program ∷ codes "serve" ∷ serve_words file port_digits count_digits)
    (to_serve file port connections 1)
    × ((limit_digits : Text) (at_once : ℕ) → IsNumeralIn limit_digits 1 1024 at_once
    → NamesBy choices (program ∷ codes "serve"
    ∷ (serve_words file port_digits count_digits ++ codes "--at-once" ∷ limit_digits ∷ []))
    (to_serve file port connections at_once))

-- The arguments of `extract` after its name.
abbrev pub extract_words : (file clock_digits party_digits : Text) → Role → Kind → List Text
extract_words file clock_digits party_digits role kind =
    codes "--file" ∷ file ∷ codes "--clock" ∷ clock_digits ∷ codes "--party" ∷ party_digits
    ∷ codes "--role" ∷ role_word role ∷ codes "--kind" ∷ kind_word kind ∷ []

-- `extract --file FILE --clock MS --party NUMBER --role ROLE --kind KIND` names `extract` at the time of the
-- clock, and with `--at MS` at that time, if the numbers are decimal digits.
abbrev pub PlainExtractLaw : Type 0
PlainExtractLaw =
    (choices : Choices) (program file clock_digits party_digits : Text) (clock party : ℕ)
    (role : Role) (kind : Kind)
    → AreChoiceWords choices → IsPlainText file → IsMomentNumeral clock_digits clock
    → IsNumeralIn party_digits 1 1000000000 party
    → NamesBy choices (program ∷ codes "extract" ∷ extract_words file clock_digits party_digits role kind)
    (to_extract file (pos clock) party role kind None)
    × ((at_digits : Text) (at : ℕ) → IsMomentNumeral at_digits at
    → NamesBy choices (program ∷ codes "extract"
    ∷ (extract_words file clock_digits party_digits role kind ++ codes "--at" ∷ at_digits ∷ []))
    (to_extract file (pos clock) party role kind (Some (pos at))))

-- `digest --file FILE` names `digest` for all of the history, and with `--at MS` for the history up to that
-- time, if MS is a moment in decimal digits.
abbrev pub PlainDigestLaw : Type 0
PlainDigestLaw =
    (choices : Choices) (program file : Text) → IsPlainText file
    → NamesBy choices (program ∷ codes "digest" ∷ codes "--file" ∷ file ∷ []) (to_digest file None)
    × ((at_digits : Text) (at : ℕ) → IsMomentNumeral at_digits at
    → NamesBy choices (program ∷ codes "digest" ∷ codes "--file" ∷ file ∷ codes "--at" ∷ at_digits ∷ [])
    (to_digest file (Some (pos at))))
