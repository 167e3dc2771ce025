use Rattle.std.proofs.Common.{rules, subst, sym, ◌∙◌}
use Rattle.std.proofs.lemmas.List.Elements.{Contains-push}
use Rattle.std.specs.List.{Contains}
use Rattle.land_select_queries.proofs.lookups.by_number.record_of.Goals as goal

pub returns-in-Some : goal.returns-in-Some
returns-in-Some g c =
    let v = c.in-Some.version in
    (v, subst (λ l. Contains l v) (sym (sym c.into_vec-versions.ensures ∙ c.in-Some.ensures.items)) (Contains-push c.pop.new.self.items v), search rules)
