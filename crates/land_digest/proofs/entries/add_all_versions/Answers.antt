use Rattle.std.proofs.Common.{Bool, ◌++◌, ℤ, map as map_list, ◌∙◌, ap, to_z, of_z, w64}
use Rattle.std.proofs.lemmas.Int.{to_z-of_z}
use Rattle.land_digest.proofs.Collected.{Adds, adds_none, adds_versions}
use Rattle.land_digest.proofs.entries.add_all_versions.Goals as goal
use Rattle.land_digest.specs.Entries.{event_of}
use Rattle.land_digest.specs.Events.{Event, events_between, is_stamp_between}
use Rattle.land_digest.specs.History.{all_version_events, events_by_table}
use Rattle.land_digest.specs.Rows.{mandate_row, member_row, mutation_row, naming_row, parcel_row, party_row}
use Rattle.land_digest.specs.Rows.{role_row, rrr_row, source_row, unit_row}

pub returns : goal.returns
returns c =
    let u = to_z w64 (of_z w64 c.args.upto) in
    let p : Event → Bool = λ e. is_stamp_between c.args.after u e.stamp in
    let h = c.args.history.now in
    let m0 = map_list event_of c.args.entries.now.items in
    let m1 = map_list event_of c.add_versions.new.entries.items in
    let m2 = map_list event_of c.add_versions-2.new.entries.items in
    let m3 = map_list event_of c.add_versions-3.new.entries.items in
    let m4 = map_list event_of c.add_versions-4.new.entries.items in
    let m5 = map_list event_of c.add_versions-5.new.entries.items in
    let m6 = map_list event_of c.add_versions-6.new.entries.items in
    let m7 = map_list event_of c.add_versions-7.new.entries.items in
    let m8 = map_list event_of c.add_versions-8.new.entries.items in
    let m9 = map_list event_of c.add_versions-9.new.entries.items in
    let m10 = map_list event_of c.add_versions-10.new.entries.items in
    let all : Adds p (events_by_table h) m0 m10 =
    adds_versions party_row p _ h.parties _ m0 m1 m10
    c.as_slice.ensures c.in_ok-add_versions.ensures
    (adds_versions role_row p _ h.roles _ m1 m2 m10
    c.as_slice-2.ensures c.in_ok-add_versions-2.ensures
    (adds_versions member_row p _ h.members _ m2 m3 m10
    c.as_slice-3.ensures c.in_ok-add_versions-3.ensures
    (adds_versions unit_row p _ h.units _ m3 m4 m10
    c.as_slice-4.ensures c.in_ok-add_versions-4.ensures
    (adds_versions parcel_row p _ h.parcels _ m4 m5 m10
    c.as_slice-5.ensures c.in_ok-add_versions-5.ensures
    (adds_versions rrr_row p _ h.rrrs _ m5 m6 m10
    c.as_slice-6.ensures c.in_ok-add_versions-6.ensures
    (adds_versions source_row p _ h.sources _ m6 m7 m10
    c.as_slice-7.ensures c.in_ok-add_versions-7.ensures
    (adds_versions mutation_row p _ h.mutations _ m7 m8 m10
    c.as_slice-8.ensures c.in_ok-add_versions-8.ensures
    (adds_versions naming_row p _ h.namings _ m8 m9 m10
    c.as_slice-9.ensures c.in_ok-add_versions-9.ensures
    (adds_versions mandate_row p _ h.mandates _ m9 m10 m10
    c.as_slice-10.ensures c.in_ok-add_versions-10.ensures
    (adds_none p m10)))))))))) in
    all.is
    ∙ ap (λ (t : ℤ). m0 ++ events_between c.args.after t (all_version_events h)) (to_z-of_z w64 c.args.upto c.ranges.upto)
