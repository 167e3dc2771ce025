use Rattle.std.proofs.Common.{◌≡◌, ◌↔◌, ◌∙◌, Bool, true, subst, sym}
use Rattle.land_tables_history.specs.ValidHistory.{IsValidHistory}
use Rattle.land_tables_validity.proofs.LawfulHistories.{all_used, valid_history, unreferred}
use Rattle.land_tables_validity.proofs.valid_history.is_valid_history.Goals as goal

pub returns : goal.returns
returns c =
    subst (λ (b : Bool). (b ≡ true) ↔ IsValidHistory c.args.moments.now c.args.history.now) (sym c.are_four.ensures)
    (valid_history c.args.moments.now c.args.history.now (sym c.in_ok-are_moments.ensures ∙ c.if-not-branch.false) (c.in_ok-refs_exist.ensures.0 c.if-not-branch-2.false)
    c.in_ok-number_range.number_range c.in_ok-wholes.wholes c.in_ok-once.once c.in_ok-named.named
    (all_used c.args.moments.now c.args.history.now c.in_ok-number_range.number_range c.in_ok-number_range.ensures) c.in_ok-wholes.ensures c.in_ok-once.ensures c.in_ok-named.ensures)

pub returns-then-not-branch-2 : goal.returns-then-not-branch-2
returns-then-not-branch-2 c = unreferred c.args.moments.now c.args.history.now c.in_ok-refs_exist.field-0 c.if-not-branch-2.true c.in_ok-refs_exist.ensures
