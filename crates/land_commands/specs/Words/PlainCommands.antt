-- Commands as plain values.
use Rattle.std.specs.Prelude.{ℕ, ℤ, Option}
use Rattle.clap.specs.Words.{Text}
use Rattle.land_commands.specs.declared.words.command.Command.{Command}
use Rattle.land_commands.specs.declared.words.command.Command.TheVariants.{Talk, New, Serve, Check, Migrate}
use Rattle.land_commands.specs.declared.words.command.Command.TheVariants.{Extract, Digest}
use Rattle.land_core.specs.declared.kind.Kind.{Kind}
use Rattle.land_core.specs.declared.role.Role.{Role}

-- A command with the values of its options, without references.
pub data PlainCommand : Type 0 where
  to_talk : (clock : ℤ) → PlainCommand
  to_make : (file : Text) → PlainCommand
  to_serve : (file : Text) (port connections at_once : ℕ) → PlainCommand
  to_check : (file : Text) → PlainCommand
  to_migrate : (file : Text) → PlainCommand
  to_extract : (file : Text) (clock : ℤ) (party : ℕ) (role : Role) (kind : Kind) (at : Option ℤ)
      → PlainCommand
  to_digest : (file : Text) (at : Option ℤ) → PlainCommand

-- The plain value of a command.
abbrev pub order_of : Command → PlainCommand
order_of (Talk clock) = to_talk clock
order_of (New file) = to_make file.now
order_of (Serve file port connections at_once) = to_serve file.now port connections at_once
order_of (Check file) = to_check file.now
order_of (Migrate file) = to_migrate file.now
order_of (Extract file clock caller kind at) = to_extract file.now clock caller.party caller.role kind at
order_of (Digest file at) = to_digest file.now at
