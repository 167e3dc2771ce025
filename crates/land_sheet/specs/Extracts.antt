-- Extracts: the names of a kind's columns, then a row for each object that a caller sees at a moment.
pub mod Left
pub mod Seeing
pub mod Timelines
pub mod Writing
use Rattle.std.specs.Prelude.{ℕ, ℤ, List, [], ◌++◌, Option}
use Rattle.std.specs.List.{flat_map}
use Rattle.std.specs.Option.{option_map_or}
use Rattle.land_core.specs.Register.{object_at}
use Rattle.land_core.specs.declared.ask.Ask.TheVariants as ask
use Rattle.land_core.specs.declared.caller.Caller.{Caller}
use Rattle.land_core.specs.declared.kind.Kind.{Kind}
use Rattle.land_core.specs.declared.register.Register.{Register}
use Rattle.land_keep.specs.Machine.{step}
use Rattle.land_keep.specs.Named.{party_name_beside}
use Rattle.land_keep.specs.Timeline.{Timeline}
use Rattle.land_keep.specs.declared.reply.Reply.{Reply}
use Rattle.land_rules.specs.Rules.{seen_of}
use Rattle.land_sheet.specs.Rows.{header_text, object_row}

-- the row of the object with a number, of an entry with the name of its party; empty if the object does not
-- exist
abbrev pub row_at : Register → Kind → (number : ℕ) → List ℕ
row_at r k number = option_map_or (λ it. object_row it (party_name_beside r it)) (object_at r k number) []

-- the rows of these objects in order
abbrev pub rows_at : Register → Kind → List ℕ → List ℕ
rows_at r k numbers = flat_map (row_at r k) numbers

-- the extract of a kind: its header, and the rows of all objects that the caller sees, by increasing number
abbrev pub extract_of : Register → Caller → Kind → List ℕ
extract_of r caller k = header_text k ++ rows_at r k (seen_of r caller k)

-- the reply of the model to the list of the kind
abbrev pub list_reply : (clock : ℤ) → Caller → Kind → (at : Option ℤ) → Timeline → Reply
list_reply clock caller k at tl = (step clock (record { caller = caller; ask = ask.List k at }) tl).0
