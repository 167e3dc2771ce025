-- A fault that the register has at no commit.
use Rattle.std.specs.Prelude.{◌≡◌, Bool, false, List}
use Rattle.std.specs.List.{All}
use Rattle.land_core.specs.declared.register.Register.{Register}
use Rattle.land_tables_history.specs.History.{register_of_history}
use Rattle.land_tables_history.specs.declared.history.History.{History}
use Rattle.land_tables_history.specs.declared.moment.Moment.{Moment}

-- the register at each commit does not have the fault
abbrev pub Never : (Register → Bool) → List Moment → History → Type 0
Never fault moments h = All (λ m. fault (register_of_history m.stamp h m.next) ≡ false) moments
