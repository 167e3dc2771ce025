-- The head at the front of a stream (RFC 9112, sections 2 to 5), and the fault if there is none.
use Rattle.std.specs.Prelude.{◌≡◌, ℕ, ◌≤◌, ◌<◌, List, ◌++◌, length, take}
use Rattle.httparse.specs.Grammar.{RequestHead, ReadsRequest, print_request, HasNoRequest, NeverHasRequest}
use Rattle.httparse.specs.Grammar.{MayBecomeRequest, EndsInTarget}
use Rattle.httparse.specs.Spans.{IsRequestAt, IsRequestWithin}
use Rattle.httparse.specs.declared.spans.HeaderSpan.{HeaderSpan}
use Rattle.land_wire.specs.declared.framing.frame_fault.FrameFault.{FrameFault}
use Rattle.land_wire.specs.declared.framing.frame_fault.FrameFault.TheVariants as fault
use Rattle.land_wire.specs.declared.framing.head.HeadResult.{HeadResult}
use Rattle.land_wire.specs.declared.framing.head.HeadResult.TheVariants as found
use Rattle.land_wire.specs.declared.framing.head.HeadParse.{HeadParse}
use Rattle.land_wire.specs.declared.framing.head.HeadParse.TheVariants as look

-- a head, with the empty lines before it, has at most 8192 bytes
abbrev pub max_head_length : ℕ
max_head_length = 8192

-- a head within the limit has at most 2731 fields, since each takes three bytes or more (`FIELD_ROOM` in
-- code)
abbrev pub field_room : ℕ
field_room = 2731

-- the bytes of a stream in which a head may lie
abbrev pub window : List ℕ → List ℕ
window bytes = take max_head_length bytes

-- the bytes begin with the head, which is within the limit, and the rest follows
pub record HasHead (bytes : List ℕ) (h : RequestHead) (rest : List ℕ) : Type 0 where
  pub reads : ReadsRequest bytes h rest
  pub fits : length (print_request h) ≤ max_head_length

-- the head is incomplete, and more bytes may complete it, or end the target that is being read
abbrev pub IsPartialHead : List ℕ → Type 0
IsPartialHead bytes = HasNoRequest bytes × MayBecomeRequest bytes

-- the last read was needed: without its chunk of at most 1024 bytes the head was incomplete
pub record LastReadWasNeeded (bytes : List ℕ) : Type 0 where
  pub before : List ℕ
  pub piece : List ℕ
  pub is : bytes ≡ before ++ piece
  pub small : length piece ≤ 1024
  pub begun : IsPartialHead before
  pub short : length before < max_head_length

-- the bytes are not a prefix of a head, and do not end inside a target
abbrev pub IsInvalidHead : List ℕ → Type 0
IsInvalidHead bytes = NeverHasRequest bytes × ¬ (EndsInTarget bytes)

-- the fault of a stream that does not begin with a head
abbrev pub IsHeadFault : List ℕ → FrameFault → Type 0
-- the first bytes are not a prefix of a head
IsHeadFault bytes fault.Head = IsInvalidHead (window bytes)
-- 8192 bytes contain only a part of a head
IsHeadFault bytes fault.HeadLong = IsPartialHead (window bytes) × (max_head_length ≤ length bytes)
-- the stream ends inside a head
IsHeadFault bytes fault.Cut = IsPartialHead (window bytes) × (length bytes < max_head_length)
-- these faults come only after a whole head
IsHeadFault bytes fault.BodyLong = ⊥
IsHeadFault bytes fault.Encoding = ⊥

-- the result of parsing a window
abbrev pub IsHeadParse : List ℕ → List HeaderSpan → HeadParse → Type 0
IsHeadParse bytes headers (look.Whole spans) =
    IsRequestWithin bytes headers spans × ((h : RequestHead) × IsRequestAt bytes headers spans h)
IsHeadParse bytes headers look.More = IsPartialHead bytes
IsHeadParse bytes headers look.Never = IsInvalidHead bytes

-- the head in a buffer, by its spans
abbrev pub IsHeadIn : List ℕ → List HeaderSpan → HeadResult → Type 0
IsHeadIn bytes headers (found.Whole spans) =
    IsRequestWithin bytes headers spans
    × ((h : RequestHead) × IsRequestAt bytes headers spans h × (length (print_request h) ≤ max_head_length))
IsHeadIn bytes headers (found.Fault f) = Unit {0}

-- the fault at the front of the stream
abbrev pub IsHeadFaultOf : List ℕ → HeadResult → Type 0
IsHeadFaultOf bytes (found.Whole spans) = Unit {0}
IsHeadFaultOf bytes (found.Fault f) = IsHeadFault bytes f
