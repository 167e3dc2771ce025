use Rattle.std.proofs.Common.{of_z, rules, subst, to_z, w64, ◌≡◌}
use Rattle.std.specs.Prelude.{ℤ}
use Rattle.land_tables.proofs.Written.{not_recorded}
use Rattle.land_tables.specs.Calls.{MayWriteChange}
use Rattle.sqlite.specs.Held.{state}
use Rattle.sqlite.specs.State.{Survives}
use Rattle.land_tables.proofs.committing.record.Goals as goal

pub returns-in-Err-clause-safe : goal.returns-in-Err-clause-safe
returns-in-Err-clause-safe g c =
    let a = state g.S.Store c.args.conn.now in
    let b = state g.S.Store c.commit_change.new.conn in
    let t : to_z w64 (of_z w64 c.args.stamp) ≡ c.args.stamp = search rules in
    let crash = subst (λ (x : ℤ). Survives a b (MayWriteChange c.args.change.now c.args.next x a.now)) t c.in-Err.ensures.crash in
    not_recorded a b (state g.S.Store c.fault_after.new.conn) c.fault_after.result c.requires.register c.in-Err.ensures.neither crash c.fault_after.ensures.same c.fault_after.ensures.survives
