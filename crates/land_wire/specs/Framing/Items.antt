-- The items of a stream: whole requests in order, and at the end a fault if the stream is malformed.
use Rattle.std.specs.Prelude.{◌≡◌, ℕ, ◌+◌, ◌<◌, ◌≤◌, Bool, true, false, List, [], ◌∷◌, ◌++◌, length, take}
use Rattle.std.specs.Prelude.{drop, Result, Ok, Err, ◌⊎◌}
use Rattle.httparse.specs.Grammar.{RequestHead, print_request}
use Rattle.httparse.specs.Spans.{IsRequestAt, IsRequestWithin}
use Rattle.httparse.specs.declared.spans.HeaderSpan.{HeaderSpan}
use Rattle.httparse.specs.declared.spans.RequestSpans.{RequestSpans}
use Rattle.land_wire.specs.Framing.Frame.{body_length_of, wants_close}
use Rattle.land_wire.specs.Framing.Stream.{max_head_length, HasHead, IsHeadFault, LastReadWasNeeded}
use Rattle.land_wire.specs.declared.framing.frame_fault.FrameFault.{FrameFault}
use Rattle.land_wire.specs.declared.framing.frame_fault.FrameFault.TheVariants as fault
use Rattle.land_wire.specs.declared.framing.item.NextItem.{NextItem}
use Rattle.land_wire.specs.declared.framing.item.NextItem.TheVariants as front

-- a whole request, head and body, or a framing fault
pub data Item : Type 0 where
  request : (head : RequestHead) → (body : List ℕ) → Item
  faulty : (number : FrameFault) → Item

-- the fault after a whole head: a fault of the head, or a truncated body
abbrev pub IsBodyFault : List ℕ → Result ℕ FrameFault → FrameFault → Type 0
IsBodyFault rest (Err g) f = f ≡ g
IsBodyFault rest (Ok n) f = (f ≡ fault.Cut) × (length rest < n)

-- the first item of the bytes, and the rest after it
abbrev pub IsItem : List ℕ → Item → List ℕ → Type 0
-- a head, and then a body of the length in the head, for each method
IsItem bytes (request h body) rest = HasHead bytes h (body ++ rest) × (body_length_of h ≡ Ok (length body))
-- a fault takes all remaining bytes, and there is at least one
IsItem bytes (faulty f) rest =
    (rest ≡ []) × (0 < length bytes)
    × (IsHeadFault bytes f
    ⊎ ((h : RequestHead) × (after : List ℕ) × HasHead bytes h after × IsBodyFault after (body_length_of h) f))

-- the connection closes after the item, so it is the last one
abbrev pub is_last : Item → Bool
is_last (request h body) = wants_close h
is_last (faulty f) = true

-- the items of the bytes in order, up to the end or to an item that is the last
abbrev pub AreItems : List ℕ → List Item → Type 0
AreItems bytes [] = bytes ≡ []
AreItems bytes (item ∷ items) =
    (rest : List ℕ) × IsItem bytes item rest
    × (is_last item ≡ true → items ≡ []) × (is_last item ≡ false → AreItems rest items)

-- a stream has exactly one first item, and one rest after it
abbrev pub ItemsAreUnique : Type 0
ItemsAreUnique =
    (bytes : List ℕ) (a b : Item) (r q : List ℕ) → IsItem bytes a r → IsItem bytes b q → (a ≡ b) × (r ≡ q)

-- a stream has exactly one list of items
abbrev pub ItemListsAreUnique : Type 0
ItemListsAreUnique = (bytes : List ℕ) (xs ys : List Item) → AreItems bytes xs → AreItems bytes ys → xs ≡ ys

-- the bytes begin with the head at the spans, and n bytes of a body follow
abbrev pub IsRequestIn : List ℕ → List HeaderSpan → RequestSpans → ℕ → Type 0
IsRequestIn bytes headers spans n =
    IsRequestWithin bytes headers spans
    × ((h : RequestHead) × IsRequestAt bytes headers spans h
    × (length (print_request h) ≤ max_head_length) × (body_length_of h ≡ Ok n))
    × (spans.len + n ≤ length bytes)

-- the part of the next item that a buffer shows: the spans of a request
abbrev pub IsNextIn : List ℕ → List HeaderSpan → NextItem → Type 0
IsNextIn bytes headers front.End = Unit {0}
IsNextIn bytes headers (front.Fault f) = Unit {0}
IsNextIn bytes headers (front.Request spans n) = IsRequestIn bytes headers spans n

-- the number of bytes read for the next item: after a request less than a chunk, and for a fault only the
-- chunk that shows it; a truncated stream may be read to its end
abbrev pub ReadsUpTo : List ℕ → NextItem → Type 0
ReadsUpTo bytes front.End = Unit {0}
ReadsUpTo bytes (front.Fault f) = (f ≡ fault.Cut) ⊎ LastReadWasNeeded bytes
ReadsUpTo bytes (front.Request spans n) = length bytes < spans.len + n + 1024

-- the part of the next item that the stream shows: the end, or the item
abbrev pub IsNextOf : List ℕ → NextItem → Type 0
IsNextOf bytes front.End = bytes ≡ []
IsNextOf bytes (front.Fault f) = IsItem bytes (faulty f) []
IsNextOf bytes (front.Request spans n) =
    (h : RequestHead) × IsItem bytes (request h (take n (drop spans.len bytes))) (drop (spans.len + n) bytes)

-- at the end of input there is a fault only if the head has a byte
abbrev pub next_of_fault : FrameFault → (empty : Bool) → NextItem
next_of_fault fault.Head empty = front.Fault fault.Head
next_of_fault fault.HeadLong empty = front.Fault fault.HeadLong
next_of_fault fault.BodyLong empty = front.Fault fault.BodyLong
next_of_fault fault.Encoding empty = front.Fault fault.Encoding
next_of_fault fault.Cut true = front.End
next_of_fault fault.Cut false = front.Fault fault.Cut
