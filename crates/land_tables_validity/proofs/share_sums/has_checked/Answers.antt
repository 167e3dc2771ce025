use Rattle.std.proofs.Common.{rules, tests, sym, ◌∙◌}
use Rattle.std.proofs.lemmas.Iterator.{YieldsList-from_slice}
use Rattle.std.proofs.lemmas.Iterator.Search.{any_from_yields_List}
use Rattle.land_core.proofs.Reflection.{list_any-map}
use Rattle.land_tables_validity.specs.Holdings.{is_checked_unit}
use Rattle.land_tables_validity.proofs.share_sums.has_checked.Goals as goal

pub returns : goal.returns
returns c =
    any_from_yields_List (λ x. is_checked_unit x.what) _ _ _ c.any.ensures.ran (YieldsList-from_slice c.args.there.now cc) (λ x b q k. search (rules, tests))
    ∙ sym (list_any-map is_checked_unit (λ x. x.what) c.args.there.now)
