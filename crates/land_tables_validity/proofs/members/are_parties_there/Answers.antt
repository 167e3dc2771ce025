use Rattle.std.proofs.Common.{◌≡◌, ◌↔◌, List, true, subst, sym, arith, rules}
use Rattle.std.proofs.lemmas.Grind.{common_steps}
use Rattle.std.specs.List.{list_all}
use Rattle.std.specs.Prelude.{int_lt}
use Rattle.land_tables_validity.specs.Members.{member_spans}
use Rattle.land_tables_history.specs.Sweeps.Cover.{IsCovered}
use Rattle.land_tables_history.specs.declared.sweeps.cover.CoverageSpan.{CoverageSpan}
use Rattle.land_tables_validity.proofs.members.are_parties_there.Goals as goal

pub require_numbers-requires-whole : goal.require_numbers-requires-whole
require_numbers-requires-whole c = search rules

pub is_covered-requires : goal.is_covered-requires
is_covered-requires c =
    let h = c.args.history.now in
    let listed : c.require_numbers.new.coverage_spans.items ≡ member_spans h.parties h.members = grind (arith, common_steps) in
    subst (λ (l : List CoverageSpan). list_all (λ x. int_lt x.since x.until) l ≡ true) (sym listed) c.requires

pub returns : goal.returns
returns c =
    let h = c.args.history.now in
    let listed : c.require_numbers.new.coverage_spans.items ≡ member_spans h.parties h.members = grind (arith, common_steps) in
    subst (λ (l : List CoverageSpan). (c.is_covered.result ≡ true) ↔ IsCovered l) listed c.is_covered.ensures
