use Rattle.std.proofs.Common.{◌≡◌, ◌≤◌, ◌+◌, ◌*◌, length}
use Rattle.std.specs.Io.KnownBytes.{prepend_known}
use Rattle.land_desk.specs.Serving.{StepIfHonest, ReachesSome, HasServed}
use Rattle.land_desk.specs.Serving.Asking.{IfBoth}
use Rattle.land_desk.specs.Turns.{SpendsReadBudget}
use Rattle.land_keep.specs.Keeping.{IsStateOf}
use Rattle.land_keep.specs.Machine.{State}
use Rattle.land_wire.specs.Framing.Stream.{field_room}
use Rattle.land_desk.proofs.serve.serve_items.Given as goal

-- There is room for the header spans. The items answered until now end in a state that the keeper represents. At most
-- one chunk is read ahead, and the bytes taken are within the budget of reads.
abbrev pub invariant-loop-fault : goal.invariant-loop-fault
invariant-loop-fault g l =
    (field_room ≤ length l.headers)
    × IfBoth (g.R.Read.remaining l.initial.reader.reader.now) (prepend_known l.buffer.items (g.R.Read.remaining l.reader.reader.now)) (λ bytes rest.
    (now : State g.row.C.Denot) × HasServed (StepIfHonest (g.K.Keeper.honest l.keeper) g.C.Clock.reads) bytes rest
    (record { closed = g.K.Keeper.closed l.initial.keeper; timeline = g.K.Keeper.timeline l.initial.keeper; clock = l.initial.clock })
    now (g.W.Write.contents l.initial.writer) (g.W.Write.contents l.writer) l.replies
    × IsStateOf (g.K.Keeper.honest l.keeper) (g.K.Keeper.closed l.keeper) (g.K.Keeper.timeline l.keeper) l.clock now)
    × ReachesSome (StepIfHonest (g.K.Keeper.honest l.keeper) g.C.Clock.reads)
    (record { closed = g.K.Keeper.closed l.initial.keeper; timeline = g.K.Keeper.timeline l.initial.keeper; clock = l.initial.clock })
    (IsStateOf (g.K.Keeper.honest l.keeper) (g.K.Keeper.closed l.keeper) (g.K.Keeper.timeline l.keeper) l.clock)
    × (g.K.Keeper.honest l.keeper → g.K.Keeper.honest l.initial.keeper)
    × IfBoth (g.R.Read.remaining l.initial.reader.reader.now) (prepend_known l.buffer.items (g.R.Read.remaining l.reader.reader.now)) (λ bytes rest. length l.buffer.items ≤ 1024)
    × IfBoth (g.R.Read.remaining l.initial.reader.reader.now) (prepend_known l.buffer.items (g.R.Read.remaining l.reader.reader.now))
    (SpendsReadBudget (1024 * l.initial.reader.left) (length l.buffer.items + 1024 * l.reader.left))
    × (l.reader.reader.ghost_name ≡ l.initial.reader.reader.ghost_name)
    × (l.replies + (length l.buffer.items + 1024 * l.reader.left) ≤ 1024 * l.initial.reader.left)
    × (l.reader.left ≤ l.initial.reader.left)

-- Each item after which the connection stays open takes a byte from the buffer, and each read takes 1024 from the budget.
abbrev pub decreases-loop-fault : goal.decreases-loop-fault
decreases-loop-fault g l = length l.buffer.items + 1024 * l.reader.left
