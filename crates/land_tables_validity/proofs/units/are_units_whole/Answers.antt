use Rattle.std.proofs.Common.{◌≡◌, ◌↔◌, ◌++◌, ◌∙◌, Bool, true, ap, ap₂}
use Rattle.std.proofs.lemmas.Result.{IfOk-weaker}
use Rattle.land_core.specs.Soundness.{has_crowded_unit, has_unit_without_whole_shares}
use Rattle.land_tables_validity.specs.Holdings.{is_unit_sound, entry_spans, holdings_in, parcel_spans, unit_spans}
use Rattle.land_tables_validity.specs.Never.{Never}
use Rattle.land_tables_validity.proofs.Together.{answered}
use Rattle.land_tables_validity.proofs.WholeUnits.{units_are_whole}
use Rattle.land_tables_history.specs.Sweeps.Sweep.{AreSound}
use Rattle.land_tables_validity.proofs.units.are_units_whole.Goals as goal

pub returns : goal.returns
returns c =
    let h = c.args.history.now in
    let moments = c.args.moments.now in
    let made = c.in_ok-live_spans.live_spans.items in
    let both : made ≡ holdings_in h =
    c.in_ok-live_spans.ensures
    ∙ ap₂ (λ a b. a ++ b) (ap₂ (λ us ps. unit_spans us ++ parcel_spans ps) c.as_slice.ensures c.as_slice-2.ensures) (ap entry_spans c.as_slice-3.ensures) in
    IfOk-weaker c.are_sound.result (λ (b : Bool). (b ≡ true) ↔ AreSound is_unit_sound made)
    (λ (b : Bool). (b ≡ true) ↔ (Never has_unit_without_whole_shares moments h × Never has_crowded_unit moments h))
    (λ b. answered is_unit_sound made (holdings_in h) both (units_are_whole moments h c.requires.intervals c.requires.in_time) b) c.are_sound.ensures
