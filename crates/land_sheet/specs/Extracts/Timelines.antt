-- The effect on a keeper of reading an extract.
use Rattle.std.specs.Prelude.{◌≡◌, ℤ, Option, unwrap_or}
use Rattle.land_core.specs.declared.register.Register.{Register}
use Rattle.land_keep.specs.Machine.{now_of}
use Rattle.land_keep.specs.Timeline.{register_at}
use Rattle.land_keep.specs.declared.keeper.Keeper.{Ghosts}

-- the register at a moment, as a keeper has it
abbrev pub keeper_register : {K : Type 0} → Ghosts K → K → (at : ℤ) → Register
keeper_register g keeper at = register_at (g.timeline keeper) at

-- the requested time of a read, or now if it requests none
abbrev pub time_of : {K : Type 0} → Ghosts K → K → (clock : ℤ) → (at : Option ℤ) → ℤ
time_of g keeper clock at = unwrap_or at (now_of clock (g.timeline keeper))
