-- Conditions joined by and, or and not, and comparisons of numbers.
use Rattle.std.proofs.Common.{◌≡◌, Bool, true, false, Option, Some, None, refl, sym, ◌∙◌}
use Rattle.std.specs.Prelude.{◌≢◌, is_some}
use Rattle.std.proofs.lemmas.Bool.{false≢true}

pub not_both : (b : Bool) → b ≡ true → b ≡ false → ⊥
not_both b e f = false≢true (sym f ∙ e)

pub nothing_there : {V : Type 0} (o : Option V) → is_some o ≡ false → o ≡ None
nothing_there None e = refl
nothing_there (Some v) e = absurd (false≢true (sym e))
