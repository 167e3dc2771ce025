use Rattle.std.proofs.Common.{of_z, rules, subst, sym, to_z, w64, ◌≡◌, ◌∙◌}
use Rattle.std.specs.Int.{int_min}
use Rattle.land_core.specs.Numbers.{last_moment}
use Rattle.land_core.specs.Register.{object_at}
use Rattle.land_select.proofs.KnownRoles.{still_known}
use Rattle.land_select.proofs.Seen.{part_stands}
use Rattle.land_select.specs.Cache.{IsCacheOf}
use Rattle.land_tables.proofs.LookedAt.{look_moment}
use Rattle.land_tables.specs.TablesState.{IsHonest, held_timeline}
use Rattle.sqlite.specs.Held.{state}
use Rattle.land_select.proofs.sql_keeper.SqlKeeperKeeper.object.Goals as goal

pub returns-in-Some-clause-value : goal.returns-in-Some-clause-value
returns-in-Some-clause-value g c clean =
    let when : to_z w64 (of_z w64 c.args.at) ≡ c.args.at = search rules in
    let tl = held_timeline g.S.Store c.self.inside.tables in
    let kept = subst (IsCacheOf tl) (sym c.take-cache.ensures.value) (c.self.invariant (clean, sym c.is_closed.ensures ∙ c.if-is_closed.false)).0 in
    rw (c.self.view_is, when) at (sym (c.in-Some.ensures tl kept))

pub returns-clause-value : goal.returns-clause-value
returns-clause-value g c clean =
    let s = state g.S.Store c.args.self.now.conn in
    let u : to_z w64 (of_z w64 c.min-looked_at.result) ≡ c.min-looked_at.result = search rules in
    let least : c.min-looked_at.result ≡ int_min c.args.at last_moment = search rules in
    let answer = rw (c.self.view_is, u) at (c.execute.ensures.value clean) in
    part_stands c.soundness_by_number.ensures (λ r. object_at r c.args.kind c.args.number) s c.args.at c.min-looked_at.result (look_moment c.args.at c.min-looked_at.result least) c.execute.result answer

pub invariant_of-self : goal.invariant_of-self
invariant_of-self g c live =
    (subst (IsCacheOf (held_timeline g.S.Store c.self.inside.tables)) (sym c.take-cache.ensures.after) tt, (c.self.invariant live).1)

pub invariant_of-self-2 : goal.invariant_of-self-2
invariant_of-self-2 g c live = (
  subst (IsCacheOf (held_timeline g.S.Store c.execute.new.tables)) (sym c.take-cache.ensures.after) tt,
  still_known (IsHonest g.S.Store c.self.inside.tables) (IsHonest g.S.Store c.execute.new.tables) c.self.inside.tables.is_closed c.execute.new.tables.is_closed c.execute.result
      (held_timeline g.S.Store c.self.inside.tables) (held_timeline g.S.Store c.execute.new.tables) c.self.inside.known c.execute.ensures.closes c.execute.ensures.was c.execute.ensures.same (λ was. (c.self.invariant was).1) live,
)
