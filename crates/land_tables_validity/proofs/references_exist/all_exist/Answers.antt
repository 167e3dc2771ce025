use Rattle.std.proofs.Common.{◌≡◌, ◌↔◌, List, true, subst, arith}
use Rattle.std.proofs.lemmas.Grind.{common_steps}
use Rattle.land_tables_history.specs.Sweeps.Cover.{IsCovered}
use Rattle.land_tables_history.specs.declared.sweeps.cover.CoverageSpan.{CoverageSpan}
use Rattle.land_tables_validity.specs.CoverageSpans.{coverage_spans}
use Rattle.land_tables_validity.proofs.references_exist.all_exist.Goals as goal

pub returns : goal.returns
returns g c =
    let computes : c.require_numbers.new.coverage_spans.items ≡ coverage_spans (λ e. e.0) c.args.there.now g.number_of c.args.versions.now =
    grind (arith, common_steps) in
    subst (λ (l : List CoverageSpan). (c.is_covered.result ≡ true) ↔ IsCovered l) computes c.is_covered.ensures
