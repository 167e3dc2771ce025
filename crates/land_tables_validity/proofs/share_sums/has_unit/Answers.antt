use Rattle.std.proofs.Common.{rules, tests, sym, ◌∙◌}
use Rattle.std.proofs.lemmas.Iterator.{YieldsList-from_slice}
use Rattle.std.proofs.lemmas.Iterator.Search.{any_from_yields_List}
use Rattle.land_core.proofs.Reflection.{list_any-map}
use Rattle.land_tables_validity.specs.Holdings.{is_unit_holding}
use Rattle.land_tables_validity.proofs.share_sums.has_unit.Goals as goal

pub returns : goal.returns
returns c =
    any_from_yields_List (λ x. is_unit_holding x.what) _ _ _ c.any.ensures.ran (YieldsList-from_slice c.args.there.now cc) (λ x b q k. search (rules, tests))
    ∙ sym (list_any-map is_unit_holding (λ x. x.what) c.args.there.now)
