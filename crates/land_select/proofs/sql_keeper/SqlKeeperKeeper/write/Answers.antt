use Rattle.std.proofs.Common.{rules, ◌≡◌, to_z, of_z, w64}
use Rattle.land_keep.specs.Keeping.{IsHonestAndOpen}
use Rattle.land_keep.specs.Timeline.{last_register}
use Rattle.land_select.proofs.KnownRoles.{known_when_written, was_open}
use Rattle.land_tables.specs.TablesState.{IsHonest, held_timeline}
use Rattle.land_select.proofs.sql_keeper.SqlKeeperKeeper.write.Goals as goal

pub invariant_of-self : goal.invariant_of-self
invariant_of-self g c live =
    let old = c.self.inside.tables in
    let when : to_z w64 (of_z w64 c.args.stamp) ≡ c.args.stamp = search rules in
    let was_live : IsHonestAndOpen (IsHonest g.S.Store old) old.is_closed = (c.write.ensures.was live.0, was_open old.is_closed c.write.new.self.is_closed c.write.result c.write.ensures.closes live.1) in (
      tt,
      known_when_written c.write.result (held_timeline g.S.Store old) (held_timeline g.S.Store c.write.new.self) c.args.change.now _ _ (c.write.ensures.ok live) (c.write.ensures.err live)
          (c.forget_outdated.ensures (last_register (held_timeline g.S.Store old)) (c.self.invariant was_live).1),
    )
