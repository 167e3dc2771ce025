use Rattle.std.proofs.Common.{◌∙◌, ap}
use Rattle.land_tables_validity.proofs.MomentOrders.{chained}
use Rattle.land_tables_validity.specs.Chains.{is_chain}
use Rattle.land_tables_validity.proofs.moments.are_moments.Goals as goal

pub returns : goal.returns
returns c =
    c.is_chain.ensures ∙ ap is_chain c.as_slice.ensures.value
    ∙ chained c.args.moments.now c.in_ok-sorted.sorted.items c.in_ok-sorted.ensures.same c.in_ok-sorted.ensures.sorted
