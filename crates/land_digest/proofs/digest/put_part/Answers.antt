use Rattle.std.proofs.Common.{ℤ, Bool, map as map_list, ◌∙◌, ap, subst, to_z, of_z, w64}
use Rattle.std.specs.Result.{OnOk}
use Rattle.std.proofs.lemmas.Int.{to_z-of_z}
use Rattle.land_digest.proofs.Collected.{collected, collected_distinct}
use Rattle.land_digest.proofs.digest.put_part.Goals as goal
use Rattle.land_digest.specs.Entries.{Gains, event_of}
use Rattle.land_digest.specs.Events.{Event, events_between, events_text, in_order, is_stamp_between}
use Rattle.land_digest.specs.History.{history_events}

pub put_in_order-requires : goal.put_in_order-requires
put_in_order-requires c =
    let u = to_z w64 (of_z w64 c.args.upto) in
    let p : Event → Bool = λ e. is_stamp_between c.args.after u e.stamp in
    let all =
    collected p c.args.moments.now c.args.history.now (map_list event_of c.new-entries.result.items) _ _
    (ap (map_list event_of) c.new-entries.ensures.items) c.in_ok-add_moments.ensures
    c.in_ok-add_all_versions.ensures in
    collected_distinct p c.args.moments.now c.args.history.now _ c.requires
    (ap (map_list event_of) c.deref_mut.ensures.value ∙ all)

pub returns : goal.returns
returns c =
    let u = to_z w64 (of_z w64 c.args.upto) in
    let p : Event → Bool = λ e. is_stamp_between c.args.after u e.stamp in
    let moments = c.args.moments.now in
    let history = c.args.history.now in
    let all =
    collected p moments history (map_list event_of c.new-entries.result.items) _ _
    (ap (map_list event_of) c.new-entries.ensures.items) c.in_ok-add_moments.ensures
    c.in_ok-add_all_versions.ensures in
    subst (λ es. OnOk c.put_in_order.result
    (Gains c.args.hasher.now c.put_in_order.new.hasher (events_text (in_order es))))
    (ap (map_list event_of) c.deref_mut.ensures.value ∙ all
    ∙ ap (λ (t : ℤ). events_between c.args.after t (history_events moments history))
    (to_z-of_z w64 c.args.upto c.ranges.upto))
    c.put_in_order.ensures
