use Rattle.std.proofs.Common.{◌≡◌, ℕ, ◌+◌, ◌*◌, ◌<◌, ◌≤◌, List, ◌++◌, length}
use Rattle.std.specs.Io.KnownBytes.{Keeps, prepend_known}
use Rattle.land_streams.proofs.buffer.read_to.Given as goal

abbrev pub invariant-loop-end : goal.invariant-loop-end
invariant-loop-end g l =
    Keeps (prepend_known l.fn.buffer.items (g.R.Read.remaining l.fn.reader.reader.now)) (prepend_known l.buffer.items (g.R.Read.remaining l.reader.reader.now))
    × ((more : List ℕ) × (l.buffer.items ≡ l.fn.buffer.items ++ more))
    × (l.end ≤ length l.fn.buffer.items → l.reader ≡ l.fn.reader)
    × (length l.buffer.items + 1024 * l.reader.left ≤ length l.fn.buffer.items + 1024 * l.fn.reader.left)
    × (length l.fn.buffer.items < l.end + 1024 → length l.buffer.items < l.end + 1024)
    × ((most : ℕ) → l.end + 1023 ≤ most → length l.fn.buffer.items ≤ most → length l.buffer.items ≤ most)
    × (l.reader.reader.ghost_name ≡ l.fn.reader.reader.ghost_name)
    × (l.reader.left ≤ l.fn.reader.left)

abbrev pub decreases-loop-end : goal.decreases-loop-end
decreases-loop-end g l = l.reader.left
