use Rattle.std.proofs.Common.{◌≡◌, ◌∙◌, ap, of_z, rules, to_z, w64}
use Rattle.land_core.specs.declared.register.Register.{Register}
use Rattle.land_keep.specs.Named.{objects_at}
use Rattle.land_keep.specs.Timeline.{register_at}
use Rattle.land_tables.specs.TablesState.{held_timeline}
use Rattle.land_tables.proofs.table_keeper.TableKeeperKeeper.objects.Goals as goal

-- the list is of the register that was read
pub returns-clause-value : goal.returns-clause-value
returns-clause-value g c clean =
    let alike : to_z w64 (of_z w64 c.args.at) ≡ c.args.at = search rules in
    let read : c.in_ok-then.then ≡ register_at (held_timeline g.S.Store c.args.self.now.tables) c.args.at = rw alike at (c.in_ok-then.ensures.value clean) in
    c.in_ok-objects_of.ensures ∙ ap (λ (r : Register). objects_at r c.args.kind c.args.numbers.now) read
