use Rattle.std.proofs.Common.{◌≡◌, false, rules, sym, ◌∙◌}
use Rattle.std.proofs.lemmas.Bool.{false≢true}
use Rattle.land_acts.proofs.Fitting.{sound_has_room}
use Rattle.land_acts.specs.Outcome.{HasNoRefusal, has_room_for}
use Rattle.land_acts.proofs.plan.plan.Goals as goal

pub returns-then-not-has_room : goal.returns-then-not-has_room
returns-then-not-has_room c sound some =
    let unrefused : HasNoRefusal c.args.slice.now c.args.caller c.args.act.now = record { stamp = c.args.stamp; none_holds = search rules } in
    let full : has_room_for c.args.slice.now c.args.act.now ≡ false = search rules in
    absurd (false≢true (sym full ∙ sound_has_room c.args.slice.now c.args.caller c.args.act.now sound unrefused))
