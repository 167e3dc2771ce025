use Rattle.std.proofs.Common.{◌≡◌, ◌∙◌, ap, Bool}
use Rattle.std.specs.Prelude.{ℤ, List}
use Rattle.std.proofs.lemmas.Result.{IfOk-weaker}
use Rattle.land_tables_history.proofs.StampIntervals.{by_stamps}
use Rattle.land_tables_history.specs.Intervals.{has_intervals, has_intervals_of}
use Rattle.land_tables_history.proofs.intervals.has_intervals.Goals as goal

pub returns : goal.returns
returns c =
    IfOk-weaker c.has_intervals_of.result (λ (it : Bool). it ≡ has_intervals_of c.as_slice.result.now c.args.history.now) (λ (it : Bool). it ≡ has_intervals c.args.moments.now c.args.history.now)
    (λ it is. is ∙ ap (λ (l : List ℤ). has_intervals_of l c.args.history.now) c.as_slice.ensures.value ∙ by_stamps c.args.moments.now c.in_ok-stamps.stamps.items c.in_ok-stamps.ensures.same c.args.history.now)
    c.has_intervals_of.ensures
