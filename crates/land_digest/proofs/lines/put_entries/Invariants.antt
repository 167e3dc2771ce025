use Rattle.std.proofs.Common.{take, map as map_list}
use Rattle.land_digest.proofs.lines.put_entries.Given as goal
use Rattle.land_digest.specs.Entries.{Gains, event_of}
use Rattle.land_digest.specs.Events.{events_text}

-- the lines of the entries before the index are written
abbrev pub invariant-entries : goal.invariant-entries
invariant-entries l =
    Gains l.initial.hasher l.hasher (events_text (map_list event_of (take l.entry-index l.entries)))
