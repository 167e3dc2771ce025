-- Lemma on keepers that are open after a call.
use Rattle.std.proofs.Common.{◌≡◌, true, false, refl}
use Rattle.land_keep.specs.Laws.{OpenKeepersFailOnlyForMemory}
use Rattle.land_keep.specs.declared.store_fault.StoreFault.TheVariants.{NoMemory, Store, Closed}

pub memory_alone : OpenKeepersFailOnlyForMemory
memory_alone true fault h = absurd (closed_is_open h.1)
  where
    closed_is_open : false ≡ true → ⊥
    closed_is_open e = cc
memory_alone false NoMemory h = refl
memory_alone false Store h = absurd (open_is_closed h)
  where
    open_is_closed : false ≡ true → ⊥
    open_is_closed e = cc
memory_alone false Closed h = absurd h
