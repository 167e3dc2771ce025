use Rattle.std.proofs.Common.{◌∙◌, sym, ap, None}
use Rattle.land_tables_history.proofs.Covered.{covered_in_order}
use Rattle.land_tables_history.specs.Sweeps.CoverSteps.{covered_from}
use Rattle.land_tables_history.proofs.sweeps.cover.is_covered.Goals as goal

pub returns : goal.returns
returns c =
    let told = c.is_covered_in_order.ensures ∙ ap (covered_from None) c.as_slice.ensures.value in
    let it = covered_in_order c.args.coverage_spans.now.items c.sort_unstable.new.self.items c.requires c.sort_unstable.ensures.permutation c.sort_unstable.ensures.sorted in
    (λ h. it.0 (sym told ∙ h), λ h. told ∙ it.1 h)
