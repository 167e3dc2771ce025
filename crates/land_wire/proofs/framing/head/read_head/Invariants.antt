use Rattle.std.proofs.Common.{◌≡◌, ℕ, List, ◌+◌, ◌*◌, ◌≤◌, length}
use Rattle.std.specs.Io.KnownBytes.{Keeps, prepend_known}
use Rattle.httparse.specs.Grammar.{RequestHead}
use Rattle.land_wire.specs.Framing.Stream.{HasHead, LastReadWasNeeded}
use Rattle.land_wire.proofs.framing.head.read_head.Given as goal

abbrev pub invariant-loop-spans : goal.invariant-loop-spans
invariant-loop-spans g l = Keeps (prepend_known l.fn.buffer.items (g.R.Read.remaining l.fn.reader.reader.now)) (prepend_known l.buffer.items (g.R.Read.remaining l.reader.reader.now))
    × ((h : RequestHead) (rest : List ℕ) → HasHead l.fn.buffer.items h rest → (l.reader ≡ l.fn.reader) × (l.buffer.items ≡ l.fn.buffer.items))
    × (length l.buffer.items + 1024 * l.reader.left ≤ length l.fn.buffer.items + 1024 * l.fn.reader.left)
    × (length l.fn.buffer.items ≤ 1024 → LastReadWasNeeded l.buffer.items)
    × (l.reader.reader.ghost_name ≡ l.fn.reader.reader.ghost_name)
    × (l.reader.left ≤ l.fn.reader.left)
    × ((most : ℕ) → 9215 ≤ most → length l.fn.buffer.items ≤ most → length l.buffer.items ≤ most)

abbrev pub decreases-loop-spans : goal.decreases-loop-spans
decreases-loop-spans g l = l.reader.left
