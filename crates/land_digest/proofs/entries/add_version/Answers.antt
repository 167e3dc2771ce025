use Rattle.std.proofs.Common.{◌++◌, ℤ, map as map_list, ◌∙◌, ap, to_z, of_z, w64}
use Rattle.std.proofs.lemmas.Int.{to_z-of_z}
use Rattle.land_digest.proofs.Collected.{version_added}
use Rattle.land_digest.proofs.entries.add_version.Goals as goal
use Rattle.land_digest.specs.Entries.{event_of}
use Rattle.land_digest.specs.Events.{events_between, is_stamp_between}
use Rattle.land_digest.specs.Versions.{version_events}

pub returns : goal.returns
returns g c =
    let u = to_z w64 (of_z w64 c.args.upto) in
    let old = map_list event_of c.args.entries.now.items in
    let v = c.args.version.now in
    version_added g.X.Recorded.row v (λ e. is_stamp_between c.args.after u e.stamp) _ _ old (map_list event_of c.add_entry.new.entries.items) _
    c.start_entry.ensures c.end_entry.ensures c.in_ok-add_entry.ensures c.in_ok-add_entry-2.ensures
    ∙ ap (λ (t : ℤ). old ++ events_between c.args.after t (version_events g.X.Recorded.row v))
    (to_z-of_z w64 c.args.upto c.ranges.upto)
