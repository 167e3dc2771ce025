use Rattle.std.proofs.Common.{◌≡◌, IfOk, ◌-◌, ◌+◌, arith, rules, refl, vec_items}
use Rattle.std.specs.List.{range_with_len}
use Rattle.std.proofs.lemmas.Iterator.{items_from_collect, YieldsList-from_range}
use Rattle.land_acts.proofs.mutations.planning.numbers_from.Goals as goal

pub returns : goal.returns
returns c =
    let count : (c.args.first + c.args.count) - c.args.first ≡ c.args.count = omega arith in
    let ran : IfOk c.collect.result (λ w. vec_items w ≡ range_with_len c.args.first c.args.count) =
    items_from_collect c.collect.result c.collect.ensures.ran (YieldsList-from_range c.args.first (c.args.first + c.args.count) c.args.count refl count) in
    search (rules, ran)
