-- The effect of reading an item or a head on the reader and its buffer.
use Rattle.std.specs.Prelude.{◌≡◌, ◌≤◌, ◌<◌, ◌+◌, ◌*◌, ◌⊎◌, ℕ, List, length, IfErr, Option, Result}
use Rattle.std.specs.Io.KnownBytes.{Keeps, prepend_known}
use Rattle.land_streams.specs.declared.stream_fault.StreamFault.{StreamFault}
use Rattle.land_streams.specs.declared.stream_fault.StreamFault.TheVariants as fault
use Rattle.land_wire.specs.Framing.Frame.{body_limit}
use Rattle.land_wire.specs.Framing.Stream.{max_head_length}

-- each read takes one of the reads that are left, and adds at most 1024 bytes to the buffer
abbrev pub ReadsChunks : (length left : ℕ) → (new_length new_left : ℕ) → Type 0
ReadsChunks length left new_length new_left = new_length + 1024 * new_left ≤ length + 1024 * left

-- a bound on the buffer that is at least this limit stays a bound
abbrev pub StaysWithin : (limit : ℕ) → (buffer new_buffer : List ℕ) → Type 0
StaysWithin limit buffer new_buffer =
    (most : ℕ) → limit ≤ most → length buffer ≤ most → length new_buffer ≤ most

-- the most bytes that reading an item keeps in the buffer: the longest head, the longest body, and the rest
-- of a chunk of 1024 bytes
abbrev pub input_limit : ℕ
input_limit = max_head_length + body_limit + 1023

-- the bytes of the buffer and of the reader together are unchanged
abbrev pub LosesNoByte : (buffer : List ℕ) → (rest : Option (List ℕ)) → (new_buffer : List ℕ)
    → (new_rest : Option (List ℕ)) → Type 0
LosesNoByte buffer rest new_buffer new_rest =
    Keeps (prepend_known buffer rest) (prepend_known new_buffer new_rest)

-- `NoMemory` is returned only if the buffer has no capacity for a chunk
abbrev pub IsOutOfMemoryOnlyIfFull : {T : Type 0} → Result T StreamFault → (length capacity : ℕ) → Type 0
IsOutOfMemoryOnlyIfFull result length capacity =
    IfErr result (λ error. error ≡ fault.NoMemory → capacity < length + 1024)

-- `Read` is returned only if the reader was called with capacity for a chunk, or no reads are left
abbrev pub FailsOnlyIfCalled : {T : Type 0} → Result T StreamFault
    → (left new_left length capacity : ℕ) → Type 0
FailsOnlyIfCalled result left new_left length capacity =
    IfErr result (λ error. error ≡ fault.Read → (new_left ≡ 0)
    ⊎ ((new_left < left) × (length + 1024 ≤ capacity)))
