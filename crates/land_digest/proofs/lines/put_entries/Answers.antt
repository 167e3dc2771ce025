use Rattle.std.proofs.Common.{◌++◌, map as map_list, take, subst, append_assoc, ◌∙◌, ap}
use Rattle.sha2.specs.Hashers.{Holds256}
use Rattle.land_digest.proofs.WrittenLines.{lines_of_more}
use Rattle.land_digest.proofs.lines.put_entries.Goals as goal
use Rattle.land_digest.specs.Entries.{event_of}
use Rattle.land_digest.specs.Events.{event_line, events_text}

pub entries-preserved : goal.entries-preserved
entries-preserved c m h =
    let entries = c.args.entries.now in
    let i = c.entries.entry-index in
    let e = c.entry-item.result in
    subst (Holds256 c.put_entry.new.hasher)
    (append_assoc m (events_text (map_list event_of (take i entries))) (event_line (event_of e))
    ∙ ap (λ l. m ++ l) (lines_of_more entries i e c.entries-test.true c.entry-item.is))
    (c.in_ok-put_entry.ensures _ (c.entries.invariant m h))
