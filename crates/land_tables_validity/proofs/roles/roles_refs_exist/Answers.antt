use Rattle.std.proofs.Common.{◌≡◌, ◌↔◌, List, true, subst, sym, arith, rules}
use Rattle.std.proofs.lemmas.Grind.{common_steps}
use Rattle.std.specs.List.{list_all}
use Rattle.std.specs.Prelude.{int_lt}
use Rattle.land_tables_validity.proofs.RoleHolders.{role_pieces, roles_begin, roles_refer}
use Rattle.land_tables_history.specs.Sweeps.Cover.{IsCovered}
use Rattle.land_tables_history.specs.declared.sweeps.cover.CoverageSpan.{CoverageSpan}
use Rattle.land_tables_validity.proofs.roles.roles_refs_exist.Goals as goal

pub require_numbers-requires-whole : goal.require_numbers-requires-whole
require_numbers-requires-whole c = search rules

pub is_covered-requires : goal.is_covered-requires
is_covered-requires c =
    let listed : c.require_numbers.new.coverage_spans.items ≡ role_pieces c.args.history.now = grind (arith, common_steps) in
    subst (λ (l : List CoverageSpan). list_all (λ x. int_lt x.since x.until) l ≡ true) (sym listed)
    (roles_begin c.args.moments.now c.args.history.now c.requires.intervals)

pub returns : goal.returns
returns c =
    let listed : c.require_numbers.new.coverage_spans.items ≡ role_pieces c.args.history.now = grind (arith, common_steps) in
    roles_refer c.args.moments.now c.args.history.now c.requires.intervals c.requires.in_time c.is_covered.result
    (subst (λ (l : List CoverageSpan). (c.is_covered.result ≡ true) ↔ IsCovered l) listed c.is_covered.ensures)
