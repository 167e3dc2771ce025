use Rattle.std.proofs.Common.{of_z, rules, to_z, w64, ◌≡◌}
use Rattle.std.specs.Int.{int_min}
use Rattle.land_core.specs.Numbers.{last_moment}
use Rattle.land_keep.specs.Named.{objects_at}
use Rattle.land_select.proofs.KnownRoles.{still_known}
use Rattle.land_select.proofs.Seen.{part_stands}
use Rattle.land_tables.proofs.LookedAt.{look_moment}
use Rattle.land_tables.specs.TablesState.{IsHonest, held_timeline}
use Rattle.sqlite.specs.Held.{state}
use Rattle.land_select.proofs.sql_keeper.SqlKeeperKeeper.objects.Goals as goal

pub returns-clause-value : goal.returns-clause-value
returns-clause-value g c clean =
    let s = state g.S.Store c.args.self.now.conn in
    let u : to_z w64 (of_z w64 c.min-moment.result) ≡ c.min-moment.result = search rules in
    let least : c.min-moment.result ≡ int_min c.args.at last_moment = search rules in
    let answer = rw (c.self.view_is, u) at (c.execute.ensures.value clean) in
    part_stands c.soundness_by_number.ensures (λ r. objects_at r c.args.kind c.args.numbers.now) s c.args.at c.min-moment.result (look_moment c.args.at c.min-moment.result least) c.execute.result answer

pub invariant_of-self : goal.invariant_of-self
invariant_of-self g c live = (
  tt,
  still_known (IsHonest g.S.Store c.self.inside.tables) (IsHonest g.S.Store c.execute.new.tables) c.self.inside.tables.is_closed c.execute.new.tables.is_closed c.execute.result
      (held_timeline g.S.Store c.self.inside.tables) (held_timeline g.S.Store c.execute.new.tables) c.self.inside.known c.execute.ensures.closes c.execute.ensures.was c.execute.ensures.same (λ was. (c.self.invariant was).1) live,
)
