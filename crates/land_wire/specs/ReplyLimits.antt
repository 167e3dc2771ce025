-- The limits within which a text determines its reply.
use Rattle.std.specs.List.{AllByRecursion}
use Rattle.land_core.specs.declared.change.Done.{Done}
use Rattle.land_keep.specs.declared.reply.Reply.{Reply}
use Rattle.land_keep.specs.declared.reply.Reply.TheVariants as reply
use Rattle.land_wire_json.specs.Texts.Limits.{FitsU64, FitsU64Moment, IsObjectWithin}

pub record IsDoneWithin (done : Done) : Type 0 where
  pub number : FitsU64 done.number
  pub made : AllByRecursion FitsU64 done.made
  pub stamp : FitsU64Moment done.stamp

-- a title sheet is not JSON, so it is excluded
abbrev pub IsReplyWithin : Reply → Type 0
IsReplyWithin (reply.Object it) = IsObjectWithin it
IsReplyWithin (reply.Numbers numbers) = AllByRecursion FitsU64 numbers
IsReplyWithin (reply.Sheet view) = ⊥
IsReplyWithin (reply.Done it) = IsDoneWithin it
IsReplyWithin (reply.Denied rule) = FitsU64 rule
IsReplyWithin (reply.Fault fault) = FitsU64 fault
IsReplyWithin (reply.Refused refusal) = FitsU64 refusal
IsReplyWithin (reply.Store fault) = FitsU64 fault
