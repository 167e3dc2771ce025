use Rattle.std.proofs.Common.{ap, ◌∙◌}
use Rattle.std.specs.Prelude.{slice_get, length, ◌-◌}
use Rattle.land_keep.proofs.Timelines.{last_is}
use Rattle.land_keep.specs.Timeline.{Timeline, last_version}
use Rattle.land_keep.proofs.plain_keeper.PlainKeeper.last_version.Goals as goal

pub returns-clause-last : goal.returns-clause-last
returns-clause-last c =
    c.last.ensures.value ∙ ap (λ (tl : Timeline). slice_get tl (length tl - 1)) c.deref.ensures.value
    ∙ last_is c.self.inside.versions.items ∙ ap last_version c.self.view_is
