use Rattle.std.proofs.Common.{ap, of_z, rules, subst, sym, to_z, w64, ◌≡◌, ◌∙◌}
use Rattle.std.specs.Int.{int_min}
use Rattle.land_core.specs.Numbers.{last_moment}
use Rattle.land_core.specs.declared.kind.Kind.TheVariants as kind
use Rattle.land_keep.proofs.Steps.{opens}
use Rattle.land_keep.specs.Sheets.{view_at}
use Rattle.land_keep.specs.Timeline.{register_at}
use Rattle.land_select.proofs.KnownRoles.{still_known}
use Rattle.land_select.proofs.Seen.{given_stands}
use Rattle.land_select.proofs.Viewed.{renamed}
use Rattle.land_select.specs.Cache.{IsValueOf, IsCacheOf}
use Rattle.land_select.specs.Views.{view_at_moment}
use Rattle.land_tables.proofs.LookedAt.{look_moment}
use Rattle.land_tables.specs.TablesState.{IsHonest, held_timeline}
use Rattle.sqlite.specs.Held.{state}
use Rattle.land_select.proofs.sql_keeper.SqlKeeperKeeper.view.Goals as goal

pub returns-clause-value : goal.returns-clause-value
returns-clause-value g c clean =
    let s = state g.S.Store c.args.self.now.conn in
    let caller = c.args.caller in
    let unit = c.args.unit in
    let t : to_z w64 (of_z w64 c.args.at) ≡ c.args.at = search rules in
    let u : to_z w64 (of_z w64 c.min-moment.result) ≡ c.min-moment.result = search rules in
    let least : c.min-moment.result ≡ int_min c.args.at last_moment = search rules in
    let was = c.in_ok-shown.ensures.was clean in
    let closed = (opens c.self.inside.tables.is_closed c.execute.new.tables.is_closed c.in_ok-shown.shown c.in_ok-shown.ensures.closes).0 in
    let tl = held_timeline g.S.Store c.self.inside.tables in
    let kept = subst (IsCacheOf tl) (sym c.take-cache.ensures.value) (c.self.invariant (was, closed)).0 in
    let given = rw (c.self.view_is, t) at (c.take_value-found.ensures tl kept) in
    let answer = rw (c.self.view_is, u) at (c.in_ok-shown.ensures.value clean) in
    let found = given_stands (λ r. IsValueOf r caller kind.Unit unit c.take_value-found.result) (λ r. view_at r caller unit c.min-moment.result) s c.args.at c.min-moment.result (look_moment c.args.at c.min-moment.result least) c.in_ok-shown.shown answer given in
    let named = rw t at c.with_moment.ensures in
    named ∙ ap (view_at_moment c.args.at) found ∙ renamed (register_at (held_timeline g.S.Store c.args.self.now) c.args.at) caller unit c.args.at c.min-moment.result

pub invariant_of-self : goal.invariant_of-self
invariant_of-self g c live = (
  subst (IsCacheOf (held_timeline g.S.Store c.execute.new.tables)) (sym c.take-cache.ensures.after) tt,
  still_known (IsHonest g.S.Store c.self.inside.tables) (IsHonest g.S.Store c.execute.new.tables) c.self.inside.tables.is_closed c.execute.new.tables.is_closed c.execute.result
      (held_timeline g.S.Store c.self.inside.tables) (held_timeline g.S.Store c.execute.new.tables) c.self.inside.known c.execute.ensures.closes c.execute.ensures.was c.execute.ensures.same (λ was. (c.self.invariant was).1) live,
)
