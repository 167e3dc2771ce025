use Rattle.land_acts.proofs.lodge.has_lodged_other.Goals as goal

pub loop-mutation-init : goal.loop-mutation-init
loop-mutation-init c = cc
