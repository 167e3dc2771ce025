-- Responses, and serving the first item of a stream.
use Rattle.std.specs.Prelude.{◌≡◌, ℕ, ◌+◌, ◌*◌, ◌<◌, ◌≤◌, Bool, true, false, ◌||◌, List, [], ◌++◌, length}
use Rattle.std.specs.Prelude.{take}
use Rattle.std.specs.Prelude.{◌⊎◌, Option, Some, Result, Ok, Err, IfErr, IfOk, IfSome}
use Rattle.std.specs.Io.KnownBytes.{Appends, Keeps, prepend_known}
use Rattle.land_desk.specs.Responses.{IsResponse}
use Rattle.land_desk.specs.Serving.{AnswersItem, Exchange, ServesItem, Transition, closes, is_closing}
use Rattle.land_desk.specs.Serving.Asking.{ReadsForFirst, IfBoth}
use Rattle.land_desk.specs.declared.handler.Response.{Response}
use Rattle.land_desk.specs.declared.handler.ResponseBytes.{ResponseBytes}
use Rattle.land_desk.specs.declared.handler.ResponseBytes.TheVariants.{Owned, Static}
use Rattle.land_desk.specs.declared.serve.DeskFault.{DeskFault}
use Rattle.land_desk.specs.declared.serve.DeskFault.TheVariants as desk
use Rattle.land_desk.specs.declared.next_item.AfterItem.{AfterItem}
use Rattle.land_desk.specs.declared.next_item.AfterItem.TheVariants as next_item
use Rattle.land_keep.specs.Machine.{State}
use Rattle.land_keep.specs.declared.reply.Reply.{Reply}
use Rattle.land_wire.specs.Framing.Items.{IsItem}

-- The bytes of a response.
abbrev pub wire_bytes : ResponseBytes → List ℕ
wire_bytes (Owned bytes) = bytes.items
wire_bytes (Static bytes) = bytes.now

-- The response is the one for a reply. `wants_close`: the item closes the connection. `is_head`: the item is
-- a HEAD
-- request.
abbrev pub IsResponseTo : Response → Reply → (wants_close is_head : Bool) → Type 0
IsResponseTo a r wants_close is_head =
    IsResponse r (wants_close || closes r) is_head (wire_bytes a.bytes)
    × (a.close_after ≡ (wants_close || closes r))

-- The response is the one for a reply to the first item of the bytes.
abbrev pub AnswersFirst : {C : Type 0} → Transition C → List ℕ → State C → Response → List ℕ → State C
    → Type 0
AnswersFirst step bytes from a rest to =
    (x : Exchange) × ServesItem step bytes from x rest to × (x.sent ≡ wire_bytes a.bytes)
    × (is_closing x ≡ a.close_after)

-- What to do after a response.
abbrev pub after_reply : (close_after : Bool) → AfterItem
after_reply true = next_item.Close
after_reply false = next_item.KeepAlive

-- A response is written, or a prefix of it if a write fails.
abbrev pub SendsResponse : List ℕ → (close_after : Bool) → (old new : Option (List ℕ))
    → Result AfterItem DeskFault
    → Type 0
SendsResponse bytes close_after old new (Ok it) = (it ≡ after_reply close_after) × Appends old new bytes
SendsResponse bytes close_after old new (Err desk.Write) = (n : ℕ) × Appends old new (take n bytes)
SendsResponse bytes close_after old new (Err desk.Read) = ⊥
SendsResponse bytes close_after old new (Err desk.NoMemory) = ⊥

-- Serving the first item of a stream, by at most one transition. `input` and `left`: its bytes before and
-- after, if they are known.
abbrev pub ServesNext : {C : Type 0} → Transition C → (input left : Option (List ℕ)) → State C → State C
    → (old new : Option (List ℕ)) → Result AfterItem DeskFault → Type 0
ServesNext step input left from to old new (Ok next_item.Eof) =
    IfSome input (λ bytes. bytes ≡ []) × (to ≡ from) × Appends old new []
ServesNext step input left from to old new (Ok next_item.Close) =
    (x : Exchange) × AnswersItem step from x to
    × IfSome input (λ bytes. (rest : List ℕ) × IsItem bytes x.item rest) × (is_closing x ≡ true)
    × Appends old new x.sent
ServesNext step input left from to old new (Ok next_item.KeepAlive) =
    (x : Exchange) × AnswersItem step from x to
    × IfBoth input left (λ bytes rest. IsItem bytes x.item rest) × (is_closing x ≡ false)
    × Appends old new x.sent
ServesNext step input left from to old new (Err desk.Write) =
    (x : Exchange) × AnswersItem step from x to
    × IfSome input (λ bytes. (rest : List ℕ) × IsItem bytes x.item rest)
    × (n : ℕ) × Appends old new (take n x.sent)
-- Nothing was answered, and no byte is lost. The item can be served later.
ServesNext step input left from to old new (Err desk.Read) =
    (to ≡ from) × Keeps input left × Appends old new []
ServesNext step input left from to old new (Err desk.NoMemory) =
    (to ≡ from) × Keeps input left × Appends old new []

-- How far the reader was read to serve one item. `buffer`: the bytes read ahead. `left`: the bytes still in
-- the reader.
abbrev pub ReadsForNext : (bytes buffer left : List ℕ) → Result AfterItem DeskFault → Type 0
ReadsForNext bytes buffer left (Ok next_item.Eof) = (bytes ≡ []) × (left ≡ [])
ReadsForNext bytes buffer left (Ok next_item.Close) = ReadsForFirst bytes left
ReadsForNext bytes buffer left (Ok next_item.KeepAlive) = length buffer < 1024
ReadsForNext bytes buffer left (Err e) = Unit {0}

-- Some bytes of a stream were consumed. `could` and `can`: the bytes obtainable before and after.
abbrev pub SpendsReadBudget : (could can : ℕ) → (bytes rest : List ℕ) → Type 0
SpendsReadBudget could can bytes rest = (gone : List ℕ) × (bytes ≡ gone ++ rest) × (length gone + can ≤ could)

-- ---- reading no more than the item requires, and within the budget

-- Nothing was read that the item did not require, if the buffer had at most a chunk of 1024 bytes before.
-- `input` and `left`: the bytes in the reader before and after.
abbrev pub ReadsOnlyItem : (buffer new : List ℕ) → (input left : Option (List ℕ)) → Result AfterItem DeskFault
    → Type 0
ReadsOnlyItem buffer new input left result =
    length buffer ≤ 1024
    → IfBoth (prepend_known buffer input) left (λ bytes rest. ReadsForNext bytes new rest result)

-- The bytes that can still be obtained: those of the buffer, and 1024 for each call of the reader that is
-- left.
abbrev pub obtainable : (buffer : List ℕ) → (calls : ℕ) → ℕ
obtainable buffer calls = length buffer + 1024 * calls

-- What was consumed counts against the budget of calls of the reader.
abbrev pub StaysWithinBudget : (buffer new : List ℕ) → (input left : Option (List ℕ)) → (calls rest : ℕ)
    → Type 0
StaysWithinBudget buffer new input left calls rest =
    IfBoth (prepend_known buffer input) (prepend_known new left)
    (SpendsReadBudget (obtainable buffer calls) (obtainable new rest))

-- If the connection stays open, fewer bytes can be obtained than before.
abbrev pub MakesProgress : (buffer new : List ℕ) → (calls rest : ℕ) → Result AfterItem DeskFault → Type 0
MakesProgress buffer new calls rest result =
    IfOk result (λ t. t ≡ next_item.KeepAlive → obtainable new rest < obtainable buffer calls)

-- A failed read was one of the calls in the budget, or the budget was spent.
abbrev pub CountsFailedRead : {T : Type 0} → (calls rest : ℕ) → Result T DeskFault → Type 0
CountsFailedRead calls rest result = IfErr result (λ fault. fault ≡ desk.Read → (rest ≡ 0) ⊎ (rest < calls))
