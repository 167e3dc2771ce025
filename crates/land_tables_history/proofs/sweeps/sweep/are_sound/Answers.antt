use Rattle.std.proofs.Common.{◌≡◌, ◌↔◌, ◌∙◌, Bool, List, [], true, sym, ap, ap₂, subst, IsPermutation}
use Rattle.std.proofs.lemmas.Result.{IfOk-weaker}
use Rattle.land_tables_history.proofs.Swept.{sound_in_order}
use Rattle.land_tables_history.specs.Sweeps.Sweep.{AreSound}
use Rattle.land_tables_history.specs.Sweeps.SweepSteps.{sound_from, all_ticks}
use Rattle.land_tables_history.specs.declared.sweeps.sweep.Tick.{Tick}
use Rattle.land_tables_history.proofs.sweeps.sweep.are_sound.Goals as goal

pub returns : goal.returns
returns g c =
    let it = sound_in_order g.T.Ord.cmp g.met.T.Ord.total g.T.SweepItem.is_sound g.met.T.SweepItem.empty_is_sound g.met.T.SweepItem.in_any_order c.args.live_spans.now.items c.sort_unstable-2.new.self.items c.sort_unstable.new.self.items
    c.sort_unstable-2.ensures.permutation c.sort_unstable-2.ensures.sorted (subst (λ (l : List Tick). IsPermutation l c.sort_unstable.new.self.items) (c.in_ok-ticks.ensures ∙ ap all_ticks c.as_slice.ensures.value) c.sort_unstable.ensures.permutation) c.sort_unstable.ensures.sorted in
    let same = ap₂ (sound_from g.T.SweepItem.is_sound []) c.as_slice-2.ensures.value c.as_slice-3.ensures.value in
    IfOk-weaker c.are_sound_in_order.result (λ (b : Bool). b ≡ sound_from g.T.SweepItem.is_sound [] c.as_slice-2.result.now c.as_slice-3.result.now)
    (λ (b : Bool). (b ≡ true) ↔ AreSound g.T.SweepItem.is_sound c.args.live_spans.now.items)
    (λ b e. (λ h. it.0 (sym (e ∙ same) ∙ h), λ h. e ∙ same ∙ it.1 h)) c.are_sound_in_order.ensures
