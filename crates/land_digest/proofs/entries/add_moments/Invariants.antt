use Rattle.std.proofs.Common.{◌≡◌, ◌++◌, take, map as map_list}
use Rattle.land_digest.proofs.entries.add_moments.Given as goal
use Rattle.land_digest.specs.Entries.{event_of}
use Rattle.land_digest.specs.Events.{events_between}
use Rattle.land_digest.specs.Versions.{moment_events}

-- the moments before the index are added
abbrev pub invariant-moments : goal.invariant-moments
invariant-moments l =
    map_list event_of l.entries.items
    ≡ map_list event_of l.initial.entries.items
    ++ events_between l.after l.upto (moment_events (take l.moment-index l.moments))
