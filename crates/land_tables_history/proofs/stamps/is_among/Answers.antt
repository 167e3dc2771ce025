use Rattle.std.proofs.Common.{rules, ◌≡◌, ◌∙◌, ap, to_z, of_z, w64}
use Rattle.land_tables_history.proofs.StampOrders.{found_among}
use Rattle.land_tables_history.specs.Intervals.{is_stamp_among}
use Rattle.land_tables_history.proofs.stamps.is_among.Goals as goal

pub returns : goal.returns
returns c =
    let at : to_z w64 (of_z w64 c.args.at) ≡ c.args.at = search rules in
    c.is_ok.ensures.value
    ∙ found_among c.args.stamps.now (to_z w64 (of_z w64 c.args.at)) c.binary_search.result c.requires c.binary_search.ensures.bound c.binary_search.ensures.position
    ∙ ap (is_stamp_among c.args.stamps.now) at
