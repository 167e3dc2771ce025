use Rattle.std.proofs.Common.{false, subst, sym}
use Rattle.land_select.proofs.KnownRoles.{still_known}
use Rattle.land_select.proofs.Seen.{slice_stands}
use Rattle.land_select.specs.Cache.{IsCacheOf}
use Rattle.land_tables.specs.TablesState.{IsHonest, held_timeline}
use Rattle.sqlite.specs.Held.{state}
use Rattle.land_select.proofs.sql_keeper.SqlKeeperKeeper.slice.Goals as goal

pub returns-clause-value : goal.returns-clause-value
returns-clause-value g c clean =
    let tl = held_timeline g.S.Store c.self.inside.tables in
    rw c.self.view_is at (slice_stands c.soundness_by_number.ensures false (state g.S.Store c.self.inside.tables.conn) c.args.caller c.args.act.now c.take_mutation-known.result _ _ _ c.execute.result c.execute.ensures.closes
    (λ not_closed. c.next.ensures.next (c.execute.ensures.was clean, not_closed))
    (λ not_closed. c.take_mutation-known.ensures tl (subst (IsCacheOf tl) (sym c.take-cache.ensures.value) (c.self.invariant (c.execute.ensures.was clean, not_closed)).0))
    (c.execute.ensures.value clean))

pub invariant_of-self : goal.invariant_of-self
invariant_of-self g c live = (
  subst (IsCacheOf (held_timeline g.S.Store c.execute.new.tables)) (sym c.take-cache.ensures.after) tt,
  still_known (IsHonest g.S.Store c.self.inside.tables) (IsHonest g.S.Store c.execute.new.tables) c.self.inside.tables.is_closed c.execute.new.tables.is_closed c.execute.result
      (held_timeline g.S.Store c.self.inside.tables) (held_timeline g.S.Store c.execute.new.tables) c.self.inside.known c.execute.ensures.closes c.execute.ensures.was c.execute.ensures.same (λ was. (c.self.invariant was).1) live,
)
