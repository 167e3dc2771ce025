use Rattle.std.proofs.Common.{rules, tests, ◌&&◌, nat_eq, sym, ◌∙◌}
use Rattle.std.proofs.lemmas.Iterator.Consumers.{YieldsList-from_rest}
use Rattle.std.proofs.lemmas.Iterator.Search.{any_from_yields_List}
use Rattle.land_core.specs.Mandates.{mandates_in}
use Rattle.land_rules.proofs.InCircles.{some_principal}
use Rattle.land_rules.specs.Relations.{is_holder}
use Rattle.land_rules.proofs.circles.has_holding_principal.Goals as goal

pub returns : goal.returns
returns c =
    any_from_yields_List (λ m. nat_eq m.agent c.args.party && is_holder c.args.at.now m.principal c.args.unit) _ _ _ c.any.ensures.ran (YieldsList-from_rest (mandates_in c.args.at.now.mandates) c.iter.ensures.rest)
    (λ x b q k. search (rules, tests))
    ∙ sym (some_principal (λ p. is_holder c.args.at.now p c.args.unit) c.args.at.now c.args.party)
