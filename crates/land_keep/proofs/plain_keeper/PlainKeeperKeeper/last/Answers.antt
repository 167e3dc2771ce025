use Rattle.std.proofs.Common.{◌≡◌, rules, sym, ap, Option, subst}
use Rattle.std.specs.Prelude.{ℤ, pos, ◌≤ℤ◌, FitsSigned, unwrap_or}
use Rattle.std.specs.Int.{w64}
use Rattle.std.specs.Option.{option_map}
use Rattle.std.proofs.lemmas.Int.{to_z-of_z}
use Rattle.land_core.specs.Numbers.{last_moment}
use Rattle.land_keep.proofs.Timelines.{last_is_moment}
use Rattle.land_keep.specs.Timeline.{last_stamp}
use Rattle.land_keep.specs.declared.timeline.Version.{Version}
use Rattle.land_keep.proofs.plain_keeper.PlainKeeperKeeper.last.Goals as goal

pub returns-in-Some-clause-moment : goal.returns-in-Some-clause-moment
returns-in-Some-clause-moment c =
    let fit : FitsSigned w64 c.in-Some.version.now.stamp = search rules in
    let stamp_is : c.in-Some.version.now.stamp ≡ last_stamp c.args.self.now =
    ap (λ (o : Option Version). unwrap_or (option_map (λ v. v.stamp) o) (pos 0)) c.in-Some.ensures.last in
    rw to_z-of_z (subst (λ (s : ℤ). s ≤ℤ last_moment) (sym stamp_is) (last_is_moment c.args.self.now c.in-Some.ensures.sound))
