-- The refusals and the change of an outcome.
use Rattle.std.proofs.Common.{◌≡◌, Bool, Option, Some, None, Ok, Err, List, refl}
use Rattle.std.specs.Prelude.{ℤ, Result}
use Rattle.land_acts.specs.Mutations.Planning.{first_refusal_of}
use Rattle.land_acts.specs.Outcome.{refusal_or, repeat_or, plan_with_stamp}
use Rattle.land_acts.specs.declared.mutations.refusal.Planned.{Planned}
use Rattle.land_acts.specs.declared.mutations.refusal.Planned.TheVariants.{New, Repeat}
use Rattle.land_acts.specs.declared.mutations.refusal.Refusal.{Refusal}
use Rattle.land_acts.specs.declared.mutations.refusal.Refusal.TheVariants.{ClockOut}
use Rattle.land_core.specs.declared.change.Change.{Change}
use Rattle.land_core.specs.declared.change.Done.{Done}

-- an outcome with a change is not a repeat, no refusal applies, and the receipt has the stamp
pub record IsPlanned (repeat : Option Done) (lines : List (Refusal × Bool)) (made : ℤ → Change) (change : Change) (told : ℤ → Done) (done : Done) (stamp : ℤ) : Type 0 where
  pub new : repeat ≡ None
  pub none_holds : first_refusal_of lines ≡ None
  pub same : made stamp ≡ change
  pub is_told : told stamp ≡ done

pub planned_from : (repeat : Option Done) (lines : List (Refusal × Bool)) (made : ℤ → Change) (change : Change) (told : ℤ → Done) (done : Done) (stamp : ℤ)
    → repeat_or repeat (refusal_or (first_refusal_of lines) (plan_with_stamp made told (Some stamp))) ≡ Ok (New change done) → IsPlanned repeat lines made change told done stamp
planned_from (Some before) lines made change told done stamp h = absurd (repeated (Ok (Repeat before)) refl h)
  where
    repeated : (x : Result Planned Refusal) → x ≡ Ok (Repeat before) → x ≡ Ok (New change done) → ⊥
    repeated x e f = cc
planned_from None lines made change told done stamp h = by_case (first_refusal_of lines) refl h
  where
    by_case : (o : Option Refusal) → first_refusal_of lines ≡ o → refusal_or o (Ok (New (made stamp) (told stamp))) ≡ Ok (New change done) → IsPlanned None lines made change told done stamp
    by_case None e h = record { new = refl; none_holds = e; same = cc; is_told = cc }
    by_case (Some refusal) e h = absurd (refused h)
      where
        refused : Err refusal ≡ Ok (New change done) → ⊥
        refused e = cc

-- without a stamp, no outcome has a change
pub unstamped : (repeat : Option Done) (lines : List (Refusal × Bool)) (made : ℤ → Change) (change : Change) (told : ℤ → Done) (done : Done)
    → repeat_or repeat (refusal_or (first_refusal_of lines) (plan_with_stamp made told None)) ≡ Ok (New change done) → ⊥
unstamped (Some before) lines made change told done h = repeated (Ok (Repeat before)) refl h
  where
    repeated : (x : Result Planned Refusal) → x ≡ Ok (Repeat before) → x ≡ Ok (New change done) → ⊥
    repeated x e f = cc
unstamped None lines made change told done h = by_case (first_refusal_of lines) h
  where
    by_case : (o : Option Refusal) → refusal_or o (Err ClockOut) ≡ Ok (New change done) → ⊥
    by_case None e = cc
    by_case (Some refusal) e = cc
