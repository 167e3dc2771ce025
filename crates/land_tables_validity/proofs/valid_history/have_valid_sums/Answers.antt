use Rattle.std.proofs.Common.{◌≡◌, ◌↔◌, Bool, true, subst, sym}
use Rattle.land_tables_validity.proofs.LawfulHistories.{all_whole}
use Rattle.land_tables_validity.specs.Conditions.{HaveValidSums}
use Rattle.land_tables_validity.proofs.valid_history.have_valid_sums.Goals as goal

pub returns : goal.returns
returns c = subst (λ (b : Bool). (b ≡ true) ↔ HaveValidSums c.args.moments.now c.args.history.now) (sym c.are_four.ensures)
    (all_whole c.args.moments.now c.args.history.now c.in_ok-units.units c.in_ok-bare_units.bare_units c.in_ok-groups.groups c.in_ok-administrator.administrator
    c.in_ok-units.ensures c.in_ok-bare_units.ensures c.in_ok-groups.ensures c.in_ok-administrator.ensures)
