-- How far the reader of a stream is read: no further than the last item requires.
use Rattle.std.specs.Prelude.{◌≡◌, ℕ, ◌+◌, ◌<◌, ◌≤◌, List, [], ◌∷◌, ◌++◌, length, ◌⊎◌, Option, Some, None}
use Rattle.std.specs.Prelude.{Result, IfOk}
use Rattle.land_desk.specs.declared.serve.DeskFault.{DeskFault}
use Rattle.land_desk.specs.declared.serve.Served.{Served}
use Rattle.land_wire.specs.Framing.Items.{Item, request, faulty, IsItem}
use Rattle.land_wire.specs.Framing.Stream.{LastReadWasNeeded}
use Rattle.land_wire.specs.declared.framing.frame_fault.FrameFault.TheVariants as fault

-- A condition on the bytes of a reader before and after, if they are known.
abbrev pub IfBoth : (bytes left : Option (List ℕ)) → (List ℕ → List ℕ → Type 0) → Type 0
IfBoth None left P = Unit {0}
IfBoth (Some bytes) None P = ⊥
IfBoth (Some bytes) (Some left) P = P bytes left

-- At most this number of bytes was taken from the reader.
abbrev pub TakesAtMost : (most : ℕ) → (bytes left : List ℕ) → Type 0
TakesAtMost most bytes left = (taken : List ℕ) × (bytes ≡ taken ++ left) × (length taken ≤ most)

-- The bytes begin with these items, and `rest` follows them.
abbrev pub BeginsWith : List ℕ → List Item → List ℕ → Type 0
BeginsWith bytes [] rest = rest ≡ bytes
BeginsWith bytes (item ∷ items) rest = (mid : List ℕ) × IsItem bytes item mid × BeginsWith mid items rest

-- The reader was not called once the first item was complete. `rest` follows the item, `left` is still in the
-- reader.
abbrev pub ReadsNoFurther : (bytes : List ℕ) → Item → (rest left : List ℕ) → Type 0
-- After a request at most 1023 bytes were read ahead.
ReadsNoFurther bytes (request h body) rest left =
    (ahead : List ℕ) × (rest ≡ ahead ++ left) × (length ahead < 1024)
-- Without the last chunk the fault could not be found. A stream that is truncated may be read to its end.
ReadsNoFurther bytes (faulty f) rest left =
    (f ≡ fault.Cut) ⊎ ((taken : List ℕ) × (bytes ≡ taken ++ left) × LastReadWasNeeded taken)

-- The first item of the bytes was the last one that was read.
abbrev pub ReadsForFirst : (bytes left : List ℕ) → Type 0
ReadsForFirst bytes left =
    (item : Item) × (rest : List ℕ) × IsItem bytes item rest × ReadsNoFurther bytes item rest left

-- This number of items was read, and no more. If there was none, the reader was read to its end.
abbrev pub ReadsForItems : (items : ℕ) → (bytes left : List ℕ) → Type 0
ReadsForItems n bytes left =
    ((n ≡ 0) × (left ≡ []))
    ⊎ ((items : List Item) × (at_last : List ℕ) × BeginsWith bytes items at_last × (n ≡ length items + 1)
    × ReadsForFirst at_last left)

-- If serving ended without a fault, the reader was read no further than the served items require.
abbrev pub ReadsOnlyItems : (old new : Option (List ℕ)) → Result Served DeskFault → Type 0
ReadsOnlyItems old new result =
    IfBoth old new (λ bytes left. IfOk result (λ served. ReadsForItems served.replies bytes left))

-- At most this number of bytes was taken from the reader, if its bytes are known.
abbrev pub ReadsAtMost : (most : ℕ) → (old new : Option (List ℕ)) → Type 0
ReadsAtMost most old new = IfBoth old new (TakesAtMost most)
