-- The command that the arguments name.
use Rattle.std.specs.Prelude.{◌≡◌, ◌≢◌, ◌⊎◌, ℕ, ℤ, pos, List, [], codes, Option, Some, None, Result, Ok, Err}
use Rattle.std.specs.Str.Parse.{signed_digits_value}
use Rattle.clap.specs.Words.{IsSignedIn, Row, Text, fault_of, first_of, kind_of, subcommand_of}
use Rattle.clap.specs.declared.error.Error.{Error}
use Rattle.clap.specs.declared.error.kind.ErrorKind.TheVariants as kind
use Rattle.land_commands.specs.Words.Choices.{AreChoiceWords, kind_word, role_word}
use Rattle.land_commands.specs.Words.Commands.{land_app}
use Rattle.land_commands.specs.Words.PlainCommands.{PlainCommand, to_talk, to_make, to_serve, to_check}
use Rattle.land_commands.specs.Words.PlainCommands.{to_migrate, to_extract, to_digest, order_of}
use Rattle.land_commands.specs.declared.words.choices.Choices.{Choices}
use Rattle.land_commands.specs.declared.words.command.Command.{Command}
use Rattle.land_commands.specs.declared.words.words_fault.WordsFault.{WordsFault}
use Rattle.land_commands.specs.declared.words.words_fault.WordsFault.TheVariants.{Refused, NoMemory}
use Rattle.land_core.specs.Numbers.{last_moment}
use Rattle.land_core.specs.declared.caller.Caller.{Caller}
use Rattle.land_core.specs.declared.role.Role.{Role}

-- An option found by `clap` has a value that is this number, in the range of the option.
pub record HasNumber (rows : List Row) (option : Text) (least most number : ℤ) : Type 0 where
  pub text : Text
  pub found : first_of option rows ≡ Some text
  pub in_range : IsSignedIn least most text
  pub value : signed_digits_value 10 text ≡ number

-- The number of an option, or it has none.
abbrev pub IsOptionNumber : List Row → Text → (least most : ℤ) → Option ℤ → Type 0
IsOptionNumber rows option least most (Some number) = HasNumber rows option least most number
IsOptionNumber rows option least most None = (number : ℤ) → HasNumber rows option least most number → ⊥

-- The number of an option, or the option is absent.
abbrev pub HasOptionalNumber : List Row → Text → (least most : ℤ) → Option ℤ → Type 0
HasOptionalNumber rows option least most (Some number) = HasNumber rows option least most number
HasOptionalNumber rows option least most None = first_of option rows ≡ None

-- The number of an optional option, or its value is not valid.
abbrev pub IsOptionalNumber : List Row → Text → (least most : ℤ) → Option (Option ℤ) → Type 0
IsOptionalNumber rows option least most (Some maybe) = HasOptionalNumber rows option least most maybe
IsOptionalNumber rows option least most None = (maybe : Option ℤ)
    → HasOptionalNumber rows option least most maybe → ⊥

-- The number of an option, or the default if the option is absent.
abbrev pub HasNumberOr : List Row → Text → (least most default number : ℤ) → Type 0
HasNumberOr rows option least most default number =
    HasNumber rows option least most number ⊎ ((first_of option rows ≡ None) × (number ≡ default))

-- The number of an option with a default, or its value is not valid.
abbrev pub IsNumberOr : List Row → Text → (least most default : ℤ) → Option ℤ → Type 0
IsNumberOr rows option least most default (Some number) = HasNumberOr rows option least most default number
IsNumberOr rows option least most default None = (number : ℤ)
    → HasNumberOr rows option least most default number → ⊥

-- The value whose word is given for an option, or the word is of no value.
module _ {A : Type 0} (spell : A → Text) where
  abbrev pub IsChoiceOf : List Row → Text → Option A → Type 0
  IsChoiceOf rows option (Some a) = first_of option rows ≡ Some (spell a)
  IsChoiceOf rows option None = (a : A) → first_of option rows ≡ Some (spell a) → ⊥

-- The options give this party and role as the caller.
abbrev pub HasCaller : List Row → (party : ℕ) → Role → Type 0
HasCaller rows party role =
    HasNumber rows (codes "party") (pos 1) (pos 1000000000) (pos party)
    × (first_of (codes "role") rows ≡ Some (role_word role))

-- The caller, or the options give none.
abbrev pub IsCallerOption : List Row → Option Caller → Type 0
IsCallerOption rows (Some caller) = HasCaller rows caller.party caller.role
IsCallerOption rows None = (party : ℕ) (role : Role) → HasCaller rows party role → ⊥

-- The name of a command.
abbrev pub command_word : PlainCommand → Text
command_word (to_talk clock) = codes "talk"
command_word (to_make file) = codes "new"
command_word (to_serve file port connections at_once) = codes "serve"
command_word (to_check file) = codes "check"
command_word (to_migrate file) = codes "migrate"
command_word (to_extract file clock party role kind at) = codes "extract"
command_word (to_digest file at) = codes "digest"

-- The options of a command are those that `clap` found, each number in its range: moments from 0 to the end
-- of the year 2099, ports from 1 to 65535, parties from 1 to 1,000,000,000, connections from 1 to 1,000,000,
-- and those at the same time from 1 to 1,024, by default 1.
abbrev pub HasOptions : List Row → PlainCommand → Type 0
HasOptions rows (to_talk clock) = HasNumber rows (codes "clock") (pos 0) last_moment clock
HasOptions rows (to_make file) = first_of (codes "file") rows ≡ Some file
HasOptions rows (to_serve file port connections at_once) =
    (first_of (codes "file") rows ≡ Some file) × HasNumber rows (codes "port") (pos 1) (pos 65535) (pos port)
    × HasNumber rows (codes "connections") (pos 1) (pos 1000000) (pos connections)
    × HasNumberOr rows (codes "at-once") (pos 1) (pos 1024) (pos 1) (pos at_once)
HasOptions rows (to_check file) = first_of (codes "file") rows ≡ Some file
HasOptions rows (to_migrate file) = first_of (codes "file") rows ≡ Some file
HasOptions rows (to_extract file clock party role kind at) =
    (first_of (codes "file") rows ≡ Some file)
    × HasNumber rows (codes "clock") (pos 0) last_moment clock × HasCaller rows party role
    × (first_of (codes "kind") rows ≡ Some (kind_word kind))
    × HasOptionalNumber rows (codes "at") (pos 0) last_moment at
HasOptions rows (to_digest file at) =
    (first_of (codes "file") rows ≡ Some file) × HasOptionalNumber rows (codes "at") (pos 0) last_moment at

-- `clap` found this command with its options.
abbrev pub IsCommandIn : Option (Text × List Row) → PlainCommand → Type 0
IsCommandIn found order =
    (rows : List Row) × (found ≡ Some (command_word order, rows)) × HasOptions rows order

-- The arguments name a command, with these words for roles and kinds: `clap` finds no fault, and finds the
-- command with its options.
pub record NamesBy (choices : Choices) (words : List Text) (order : PlainCommand) : Type 0 where
  pub faultless : fault_of (land_app choices) words ≡ []
  pub found : IsCommandIn (subcommand_of (land_app choices) words) order

-- The arguments name a command, for choices at some place in memory.
abbrev pub Names : List Text → PlainCommand → Type 0
Names words order = (choices : Choices) × AreChoiceWords choices × NamesBy choices words order

-- `clap` finds a fault in the arguments.
abbrev pub HaveFault : List Text → Type 0
HaveFault words = (choices : Choices) × AreChoiceWords choices × (fault_of (land_app choices) words ≢ [])

-- The command that was found, or none was.
abbrev pub FindsCommand : Option (Text × List Row) → Option PlainCommand → Type 0
FindsCommand found (Some order) = IsCommandIn found order
FindsCommand found None = (order : PlainCommand) → IsCommandIn found order → ⊥

-- The command with this name and the options that were found, or they are not valid for it.
abbrev pub HasOptionsOf : (word : Text) → List Row → Option PlainCommand → Type 0
HasOptionsOf word rows (Some order) = (command_word order ≡ word) × HasOptions rows order
HasOptionsOf word rows None = (order : PlainCommand) → command_word order ≡ word → HasOptions rows order → ⊥

-- An error of `clap` other than out of memory rejects the arguments.
abbrev pub IsFaultOfError : Error → WordsFault → Type 0
IsFaultOfError error (Refused text) = kind_of error ≢ kind.OutOfMemory
IsFaultOfError error NoMemory = Unit {0}

-- The result of reading the arguments: the command that they name. If they are rejected, `clap` finds a fault
-- in them.
abbrev pub IsReading : List Text → Result Command WordsFault → Type 0
IsReading words (Ok command) = Names words (order_of command)
IsReading words (Err (Refused text)) = HaveFault words
IsReading words (Err NoMemory) = Unit {0}
