use Rattle.std.proofs.Common.{◌≡◌, ◌↔◌, List, true, subst, sym, arith}
use Rattle.std.proofs.lemmas.Grind.{common_steps}
use Rattle.std.specs.List.{list_all}
use Rattle.std.specs.Prelude.{int_lt}
use Rattle.land_tables_validity.proofs.Administrators.{administered, administrator_pieces, administrators_begin}
use Rattle.land_tables_history.specs.Sweeps.Cover.{IsCovered}
use Rattle.land_tables_history.specs.declared.sweeps.cover.CoverageSpan.{CoverageSpan}
use Rattle.land_tables_validity.proofs.administrator.has_administrators.Goals as goal

pub is_covered-requires : goal.is_covered-requires
is_covered-requires c =
    let roles = c.args.history.now.roles in
    let listed : c.require_at_moments.new.coverage_spans.items ≡ administrator_pieces roles c.args.moments.now = grind (arith, common_steps) in
    subst (λ (l : List CoverageSpan). list_all (λ x. int_lt x.since x.until) l ≡ true) (sym listed)
    (administrators_begin c.args.moments.now c.args.history.now c.requires.intervals)

pub returns : goal.returns
returns c =
    let roles = c.args.history.now.roles in
    let listed : c.require_at_moments.new.coverage_spans.items ≡ administrator_pieces roles c.args.moments.now = grind (arith, common_steps) in
    administered c.args.moments.now c.args.history.now c.requires.intervals c.is_covered.result
    (subst (λ (l : List CoverageSpan). (c.is_covered.result ≡ true) ↔ IsCovered l) listed c.is_covered.ensures)
