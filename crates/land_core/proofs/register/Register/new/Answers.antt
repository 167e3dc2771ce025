use Rattle.std.proofs.Common.{refl, sym, subst}
use Rattle.land_core.proofs.NewRegister.{new_is_sound}
use Rattle.land_core.specs.Soundness.{IsSound}
use Rattle.land_core.specs.declared.register.Register.{Register}
use Rattle.land_core.proofs.register.Register.new.Goals as goal

pub returns-clause-new : goal.returns-clause-new
returns-clause-new c = rw (c.in_ok-insert.ensures.ok, c.in_ok-insert-2.ensures.ok, c.empty-register.ensures, c.new.ensures, c.in_ok-from_str.ensures.ok) refl

pub returns-clause-sound : goal.returns-clause-sound
returns-clause-sound c = let P : Register → Type 0 = λ it. IsSound it in subst P (sym (returns-clause-new c)) new_is_sound
