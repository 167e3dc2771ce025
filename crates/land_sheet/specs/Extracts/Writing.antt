-- The bytes written of an extract, and the meaning of its result.
use Rattle.std.specs.Prelude.{◌≡◌, ◌⊎◌, ℕ, List, [], Option, Result, Ok, Err}
use Rattle.std.specs.Io.KnownBytes.{Appends}
use Rattle.std.specs.List.{flat_map}
use Rattle.land_keep.specs.declared.named.NamedObject.{NamedObject}
use Rattle.land_keep.specs.declared.reply.Reply.{Reply}
use Rattle.land_keep.specs.declared.reply.Reply.TheVariants as reply
use Rattle.land_keep.specs.declared.store_fault.StoreFault.{StoreFault}
use Rattle.land_sheet.specs.declared.extracts.fault.ExtractFault.{ExtractFault}
use Rattle.land_sheet.specs.declared.extracts.fault.ExtractFault.TheVariants.{Denied, Fault, Write, Store}
use Rattle.land_sheet.specs.Rows.{object_row}
use Rattle.land_sheet.specs.declared.extracts.list.VisibleList.{VisibleList}
use Rattle.land_streams.specs.Writing.{WritesPrefix, WritesAll}

-- the rows of listed objects in order
abbrev pub rows_of : List NamedObject → List ℕ
rows_of objects = flat_map (λ it. object_row it.object it.name) objects

-- a text is written after this number of bytes: all of it, or only a prefix if the writer or the store fails
abbrev pub WritesText : (text : List ℕ) → (before : ℕ) → (old new : Option (List ℕ))
    → Result ℕ ExtractFault → Type 0
WritesText text before old new (Ok after) = WritesAll text before after old new
WritesText text before old new (Err (Write after)) = WritesPrefix text before after old new
WritesText text before old new (Err (Store fault after)) = WritesPrefix text before after old new
WritesText text before old new (Err (Denied rule)) = ⊥
WritesText text before old new (Err (Fault number)) = ⊥

-- the reply is a list
abbrev pub IsListReply : Reply → Type 0
IsListReply r = (numbers : List ℕ) × (r ≡ reply.Numbers numbers)

-- If the list is denied, or requested for a future moment, nothing is written. Otherwise its extract is
-- written and counted: all of it, or only a prefix if the writer or the store fails. If the store fails
-- before the list is read, nothing is written.
abbrev pub IsExtracted : (list : Reply) → (extract : List ℕ) → (old new : Option (List ℕ))
    → Result ℕ ExtractFault → Type 0
IsExtracted list extract old new (Ok written) = IsListReply list × WritesAll extract 0 written old new
IsExtracted list extract old new (Err (Write written)) = IsListReply list
    × WritesPrefix extract 0 written old new
IsExtracted list extract old new (Err (Store fault written)) =
    (IsListReply list ⊎ (written ≡ 0)) × WritesPrefix extract 0 written old new
IsExtracted list extract old new (Err (Denied rule)) = (list ≡ reply.Denied rule) × Appends old new []
IsExtracted list extract old new (Err (Fault number)) = (list ≡ reply.Fault number) × Appends old new []

-- the numbers of the list, or its denial or fault
abbrev pub IsListed : (list : Reply) → Result VisibleList ExtractFault → Type 0
IsListed list (Ok it) = list ≡ reply.Numbers it.numbers
IsListed list (Err (Denied rule)) = list ≡ reply.Denied rule
IsListed list (Err (Fault number)) = list ≡ reply.Fault number
IsListed list (Err (Store fault written)) = written ≡ 0
IsListed list (Err (Write written)) = ⊥

-- the store's part of a result
abbrev pub store_result : {T : Type 0} → Result T ExtractFault → Result (Unit {0}) StoreFault
store_result (Ok it) = Ok tt
store_result (Err (Denied rule)) = Ok tt
store_result (Err (Fault number)) = Ok tt
store_result (Err (Write written)) = Ok tt
store_result (Err (Store fault written)) = Err fault
