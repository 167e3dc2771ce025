use Rattle.std.proofs.Common.{◌≡◌, ◌++◌, take, map as map_list}
use Rattle.land_digest.proofs.entries.add_versions.Given as goal
use Rattle.land_digest.specs.Entries.{event_of}
use Rattle.land_digest.specs.Events.{events_between}
use Rattle.land_digest.specs.Versions.{table_events}

-- the versions before the index are added
abbrev pub invariant-versions : goal.invariant-versions
invariant-versions g l =
    map_list event_of l.entries.items
    ≡ map_list event_of l.initial.entries.items
    ++ events_between l.after l.upto (table_events g.X.Recorded.row (take l.version-index l.versions))
