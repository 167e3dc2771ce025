use Rattle.std.proofs.Common.{◌≡◌, ◌↔◌, ◌++◌, ◌∙◌, Bool, true, ap₂}
use Rattle.std.proofs.lemmas.Result.{IfOk-weaker}
use Rattle.land_core.specs.Soundness.{has_broken_group}
use Rattle.land_tables_validity.specs.Memberships.{are_members_sound, group_live_spans, member_live_spans, memberships_in}
use Rattle.land_tables_validity.specs.Never.{Never}
use Rattle.land_tables_validity.proofs.Together.{answered}
use Rattle.land_tables_validity.proofs.WholeGroups.{groups_are_whole}
use Rattle.land_tables_history.specs.Sweeps.Sweep.{AreSound}
use Rattle.land_tables_validity.proofs.groups.are_groups_whole.Goals as goal

pub returns : goal.returns
returns c =
    let h = c.args.history.now in
    let moments = c.args.moments.now in
    let made = c.in_ok-live_spans.live_spans.items in
    let all : made ≡ memberships_in h =
    c.in_ok-live_spans.ensures ∙ ap₂ (λ ps ms. group_live_spans ps ++ member_live_spans ms) c.as_slice.ensures c.as_slice-2.ensures in
    IfOk-weaker c.are_sound.result (λ (b : Bool). (b ≡ true) ↔ AreSound are_members_sound made) (λ (b : Bool). (b ≡ true) ↔ Never has_broken_group moments h)
    (λ b. answered are_members_sound made (memberships_in h) all (groups_are_whole moments h c.requires.intervals c.requires.in_time) b) c.are_sound.ensures
