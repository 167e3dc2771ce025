use Rattle.std.proofs.Common.{of_z, rules, subst, to_z, w64, IfOk, ◌≡◌}
use Rattle.std.specs.Prelude.{ℤ}
use Rattle.land_keep.specs.Timeline.{register_at}
use Rattle.land_tables.proofs.ReadBack.{read_last}
use Rattle.land_tables.specs.TablesState.{held_timeline}
use Rattle.land_tables.proofs.tables.Tables.last_register.Goals as goal

pub returns-clause-value : goal.returns-clause-value
returns-clause-value g c clean =
    let was = c.read_at.ensures.was clean in
    let tl = held_timeline g.S.Store c.args.self.now in
    let t : to_z w64 (of_z w64 c.last-last.result) ≡ c.last-last.result = search rules in
    let value = subst (λ (x : ℤ). IfOk c.read_at.result (λ it. it ≡ register_at tl x)) t (c.read_at.ensures.value clean) in
    read_last tl c.last-last.result c.args.self.now.is_closed c.read_at.new.self.is_closed c.read_at.result c.read_at.ensures.closes
    (λ still. (c.last-last.ensures.last (was, still), c.last-last.ensures.sound (was, still))) value
