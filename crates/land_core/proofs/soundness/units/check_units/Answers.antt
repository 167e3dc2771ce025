use Rattle.std.proofs.Common.{sym, ◌∙◌}
use Rattle.land_core.proofs.SoundRegisters.{refers}
use Rattle.land_core.proofs.UnitLists.{bare_same, clash_same, crowded_same, parts_same}
use Rattle.land_core.proofs.soundness.units.check_units.Goals as goal

pub returns-then-has_bare_unit-clause-fault : goal.returns-then-has_bare_unit-clause-fault
returns-then-has_bare_unit-clause-fault c = λ _. sym (bare_same c.in_ok-by_unit.by_unit c.args.register.now c.in_ok-by_unit.ensures) ∙ (cc)

pub returns-then-has_crowded_unit-clause-fault : goal.returns-then-has_crowded_unit-clause-fault
returns-then-has_crowded_unit-clause-fault c = λ _. sym (crowded_same c.in_ok-by_unit.by_unit c.args.register.now c.in_ok-by_unit.ensures) ∙ (cc)

pub returns-then-has_clash-clause-fault : goal.returns-then-has_clash-clause-fault
returns-then-has_clash-clause-fault c =
    λ _. sym (clash_same c.in_ok-by_unit.by_unit c.args.register.now c.in_ok-by_unit.ensures (refers c.args.register.now c.requires).rrrs) ∙ (cc)

pub returns-then-branch-clause-fault : goal.returns-then-branch-clause-fault
returns-then-branch-clause-fault c = λ _. sym (parts_same c.in_ok-by_unit.by_unit c.args.register.now c.in_ok-by_unit.ensures) ∙ (cc c.in_ok-has_unit_without_whole_shares.ensures)

pub returns-clause-ok : goal.returns-clause-ok
returns-clause-ok c =
    let r = c.args.register.now in
    let b = c.in_ok-by_unit.by_unit in
    let listed = c.in_ok-by_unit.ensures in (
      sym (parts_same b r listed) ∙ (cc c.in_ok-has_unit_without_whole_shares.ensures),
      sym (bare_same b r listed) ∙ (cc),
      sym (crowded_same b r listed) ∙ (cc),
      sym (clash_same b r listed (refers r c.requires).rrrs) ∙ (cc),
      (cc),
    )
