-- Serving a stream: the items of the stream, each with its reply, and the transitions of the model that they
-- cause.
pub mod Asking
use Rattle.std.specs.Prelude.{◌≡◌, ℕ, ℤ, Bool, true, false, ◌||◌, nat_eq, List, [], ◌∷◌, ◌++◌, length, map}
use Rattle.std.specs.Prelude.{take, Option, Result, Ok, Err, ◌⊎◌}
use Rattle.std.specs.List.{flat_map}
use Rattle.std.specs.Io.KnownBytes.{Appends}
use Rattle.land_core.specs.declared.ask.Request.{Request}
use Rattle.land_desk.specs.Responses.{IsResponse}
use Rattle.land_desk.specs.declared.serve.DeskFault.{DeskFault}
use Rattle.land_desk.specs.declared.serve.DeskFault.TheVariants as desk
use Rattle.land_desk.specs.declared.serve.Served.{Served}
use Rattle.land_keep.specs.Keeping.{ReportsClosing}
use Rattle.land_keep.specs.Machine.{State, StepOrFault}
use Rattle.land_keep.specs.declared.reply.Reply.{Reply}
use Rattle.land_keep.specs.declared.reply.Reply.TheVariants as reply
use Rattle.land_wire.specs.Fields.{field_map}
use Rattle.land_wire.specs.Framing.Frame.{header_fields, is_head}
use Rattle.land_wire.specs.Framing.FrameFaults.{frame_fault_number}
use Rattle.land_wire.specs.Framing.Items.{Item, request, faulty, IsItem, AreItems, is_last}
use Rattle.land_wire.specs.Reading.{request_reading}
use Rattle.land_wire_json.specs.Bodies.WireFaults.{fault_number}
use Rattle.land_wire_json.specs.declared.bodies.wire_fault.WireFault.{WireFault}

-- A reply closes the connection if it reports a fault that closed the store: 502 or 503.
abbrev pub closes : Reply → Bool
closes (reply.Object it) = false
closes (reply.Numbers it) = false
closes (reply.Sheet view) = false
closes (reply.Done it) = false
closes (reply.Denied rule) = false
closes (reply.Fault number) = false
closes (reply.Refused number) = false
closes (reply.Store number) = nat_eq number 502 || nat_eq number 503

-- The item is a whole HEAD request. Its response has no body.
abbrev pub is_head_request : Item → Bool
is_head_request (request h body) = is_head h
is_head_request (faulty f) = false

-- An item, its reply, and the bytes of the response.
pub record Exchange : Type 0 where
  pub item : Item
  pub reply : Reply
  pub sent : List ℕ

-- The connection is closed after it, because of the item or of the reply.
abbrev pub is_closing : Exchange → Bool
is_closing x = is_last x.item || closes x.reply

-- All bytes written for these items.
abbrev pub all_sent : List Exchange → List ℕ
all_sent xs = flat_map (λ x. x.sent) xs

-- ---- transitions of the model

-- A transition takes a request and gives a reply.
abbrev pub Transition : Type 0 → Type 1
Transition C = State C → Request → Reply → State C → Type 0

-- A request is answered by one transition of the model. The clock is read once.
abbrev pub StepOf : {C : Type 0} → (C → ℤ → C → Type 0) → Transition C
StepOf reads from asked r to =
    (clock : ℤ) × reads from.clock clock to.clock
    × StepOrFault from.closed clock asked from.timeline r to.timeline to.closed

-- The same, if the store is honest. In any case the clock is read once, and the reply reports whether the
-- store is closed.
abbrev pub StepIfHonest : {C : Type 0} → (honest : Type 0) → (C → ℤ → C → Type 0) → Transition C
StepIfHonest honest reads from asked r to =
    (clock : ℤ) × reads from.clock clock to.clock × ReportsClosing from.closed r to.closed
    × (honest → StepOrFault from.closed clock asked from.timeline r to.timeline to.closed)

-- Forward simulation: from each state that is represented before, a step leads to one that is represented
-- after.
abbrev pub ForwardSimulation : {C : Type 0} → (stood stands : State C → Type 0)
    → (way : State C → State C → Type 0) → Type 0
ForwardSimulation {C} stood stands way =
    (from : State C) → stood from → (to : State C) × way from to × stands to

-- The model handles a request that was parsed. For one that was not, the reply is its first fault, and
-- nothing changes.
abbrev pub Handles : {C : Type 0} → Transition C → Result Request WireFault → State C → Reply → State C
    → Type 0
Handles step (Err fault) from r to = (r ≡ reply.Fault (fault_number fault)) × (to ≡ from)
Handles step (Ok asked) from r to = step from asked r to

-- Or the reply is 501 (out of memory), and nothing changes.
abbrev pub HandlesOr501 : {C : Type 0} → Transition C → Result Request WireFault → State C → Reply → State C
    → Type 0
HandlesOr501 step q from r to = ((r ≡ reply.Store 501) × (to ≡ from)) ⊎ Handles step q from r to

-- The reply to an item: that of its request, or the fault of framing (or 501), which changes nothing.
abbrev pub RepliesTo : {C : Type 0} → Transition C → State C → Item → Reply → State C → Type 0
RepliesTo step from (request h body) r to =
    HandlesOr501 step (request_reading h.method h.target (field_map (header_fields h)) body) from r to
RepliesTo step from (faulty f) r to =
    ((r ≡ reply.Fault (frame_fault_number f)) ⊎ (r ≡ reply.Store 501)) × (to ≡ from)

-- ---- transitions caused by a stream, whether its bytes are known or not

-- At most one transition.
abbrev pub MayStep : {C : Type 0} → Transition C → State C → State C → Type 0
MayStep step from to = (to ≡ from) ⊎ ((asked : Request) × (r : Reply) × step from asked r to)

-- A trace: these requests, in order, get these replies.
abbrev pub Trace : {C : Type 0} → Transition C → State C → List Request → List Reply → State C → Type 0
Trace step from [] [] to = to ≡ from
Trace {C} step from (asked ∷ requests) (r ∷ replies) to =
    (mid : State C) × step from asked r mid × Trace step mid requests replies to
Trace step from [] (r ∷ replies) to = ⊥
Trace step from (asked ∷ requests) [] to = ⊥

-- `to` is reachable from `from` by requests, and by nothing else.
abbrev pub Reachable : {C : Type 0} → Transition C → State C → State C → Type 0
Reachable step from to =
    (requests : List Request) × (replies : List Reply) × Trace step from requests replies to

-- Some state that is represented after the call is reachable.
abbrev pub ReachesSome : {C : Type 0} → Transition C → State C → (stands : State C → Type 0) → Type 0
ReachesSome {C} step from stands = (to : State C) × Reachable step from to × stands to

-- ---- items of known bytes

-- An item of any stream gets this reply, and its response is sent.
abbrev pub AnswersItem : {C : Type 0} → Transition C → State C → Exchange → State C → Type 0
AnswersItem step from x to =
    RepliesTo step from x.item x.reply to × IsResponse x.reply (is_closing x) (is_head_request x.item) x.sent

-- The first item of the bytes gets this reply, and its response is sent. `rest` follows the item.
abbrev pub ServesItem : {C : Type 0} → Transition C → List ℕ → State C → Exchange → List ℕ → State C → Type 0
ServesItem step bytes from x rest to =
    IsItem bytes x.item rest × RepliesTo step from x.item x.reply to
    × IsResponse x.reply (is_closing x) (is_head_request x.item) x.sent

-- These items are answered in order, and none of them closes the connection. `rest` follows them.
abbrev pub ServesPrefix : {C : Type 0} → Transition C → List ℕ → State C → List Exchange → List ℕ → State C
    → Type 0
ServesPrefix step bytes from [] rest to = (rest ≡ bytes) × (to ≡ from)
ServesPrefix {C} step bytes from (x ∷ xs) rest to =
    (mid : List ℕ) × (next : State C) × ServesItem step bytes from x mid next × (is_closing x ≡ false)
    × ServesPrefix step mid next xs rest to

-- The items of the bytes are answered, until no byte is left or one of them closes the connection.
abbrev pub ServesAll : {C : Type 0} → Transition C → List ℕ → State C → List Exchange → State C → Type 0
ServesAll step bytes from [] to = (bytes ≡ []) × (to ≡ from)
ServesAll {C} step bytes from (x ∷ xs) to =
    (mid : List ℕ) × (next : State C) × ServesItem step bytes from x mid next
    × (is_closing x ≡ true → (xs ≡ []) × (to ≡ next)) × (is_closing x ≡ false → ServesAll step mid next xs to)

-- This number of items was answered, exactly their responses were written, and `rest` follows them.
abbrev pub HasServed : {C : Type 0} → Transition C → (bytes rest : List ℕ) → (from to : State C)
    → (old new : Option (List ℕ)) → (replies : ℕ) → Type 0
HasServed step bytes rest from to old new replies =
    (xs : List Exchange) × ServesPrefix step bytes from xs rest to × Appends old new (all_sent xs)
    × (length xs ≡ replies)

-- Serving known bytes. Without a fault, all responses are written, and counted.
abbrev pub Serves : {C : Type 0} → Transition C → List ℕ → State C → State C → (old new : Option (List ℕ))
    → Result Served DeskFault → Type 0
Serves step bytes from to old new (Ok served) =
    (xs : List Exchange) × ServesAll step bytes from xs to × Appends old new (all_sent xs)
    × (served.replies ≡ length xs)
-- After a failed write a prefix of the last response is written, and its change is committed.
Serves {C} step bytes from to old new (Err desk.Write) =
    (xs : List Exchange) × (x : Exchange) × (rest after : List ℕ) × (now : State C) × (n : ℕ)
    × ServesPrefix step bytes from xs rest now × ServesItem step rest now x after to
    × Appends old new (all_sent xs ++ take n x.sent)
-- After a failed read, or out of memory for the input, the responses to all items before it are written.
Serves step bytes from to old new (Err desk.Read) =
    (rest : List ℕ) × (n : ℕ) × HasServed step bytes rest from to old new n
Serves step bytes from to old new (Err desk.NoMemory) =
    (rest : List ℕ) × (n : ℕ) × HasServed step bytes rest from to old new n

-- Serving known bytes up to a state that is represented after the call.
abbrev pub ServesToSome : {C : Type 0} → Transition C → List ℕ → State C → (stands : State C → Type 0)
    → (old new : Option (List ℕ)) → Result Served DeskFault → Type 0
ServesToSome {C} step bytes from stands old new result =
    (to : State C) × Serves step bytes from to old new result × stands to

-- Serving known bytes by a run of the model, over a store that is honest.
abbrev pub ServesByRun : {C : Type 0} → (C → ℤ → C → Type 0) → List ℕ → State C → State C
    → (old new : Option (List ℕ)) → Result Served DeskFault → Type 0
ServesByRun reads bytes from to old new result = Serves (StepOf reads) bytes from to old new result

-- The items that are answered are the first items of the stream, in their order.
abbrev pub ServesItemsInOrder : {C : Type 0} → Transition C → Type 0
ServesItemsInOrder {C} step =
    (bytes : List ℕ) (from to : State C) (xs : List Exchange) (items : List Item)
    → ServesAll step bytes from xs to → AreItems bytes items → (more : List Item)
    × (items ≡ map (λ x. x.item) xs ++ more)
