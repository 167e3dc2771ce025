use Rattle.std.proofs.Common.{arith, of_z, pos, rules, subst, to_z, w64, ◌≡◌, ◌≤ℤ◌, ◌<ℤ◌}
use Rattle.std.proofs.lemmas.Int.{ints}
use Rattle.std.specs.Prelude.{ℤ}
use Rattle.std.specs.Int.{int_min}
use Rattle.land_core.specs.Numbers.{last_moment}
use Rattle.land_tables.proofs.ReadBack.{not_before, read_moment, read_nothing, read_register}
use Rattle.land_tables.specs.Calls.{IsSafeRead}
use Rattle.land_tables.specs.Standing.{ReadsAt}
use Rattle.sqlite.specs.Held.{state}
use Rattle.land_tables.proofs.register.register_in.Goals as goal

pub returns-then-at-lt0-clause-safe : goal.returns-then-at-lt0-clause-safe
returns-then-at-lt0-clause-safe g c =
    let t : to_z w64 (of_z w64 c.args.at) ≡ c.args.at = search rules in
    let less : c.args.at <ℤ pos 0 = grind (arith, ints) in
    read_nothing (state g.S.Store c.args.conn.now) c.args.at c.requires less c.empty.result c.empty.ensures

pub returns-clause-safe : goal.returns-clause-safe
returns-clause-safe g c =
    let t : to_z w64 (of_z w64 c.args.at) ≡ c.args.at = search rules in
    let le : pos 0 ≤ℤ c.args.at = not_before c.args.at (search rules) in
    let least : c.min.result ≡ int_min c.args.at last_moment = search rules in
    let u : to_z w64 (of_z w64 c.min.result) ≡ c.min.result = search rules in
    let a = state g.S.Store c.args.conn.now in
    let safe = subst (λ (x : ℤ). IsSafeRead c.read_at.result (ReadsAt a.now.trees x) a (state g.S.Store c.read_at.new.conn)) u c.read_at.ensures.safe in
    read_register c.histories_represent_one_timeline.ensures c.order_does_not_matter.ensures c.reading_is_the_register.ensures a (state g.S.Store c.read_at.new.conn) c.args.at c.min.result c.requires
    (read_moment c.args.at c.min.result le least) c.read_at.result safe
