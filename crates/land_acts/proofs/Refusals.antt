-- If no refusal applies, the condition of each one is false.
use Rattle.std.proofs.Common.{◌≡◌, Bool, true, false, Some, None, List, [], ◌∷◌, refl}
use Rattle.std.specs.List.{AllByRecursion}
use Rattle.land_acts.specs.Mutations.Planning.{first_refusal_of}
use Rattle.land_acts.specs.declared.mutations.refusal.Refusal.{Refusal}

-- if none of a list applies, the first does not
pub record NoneHolds (b : Bool) (lines : List (Refusal × Bool)) : Type 0 where
  pub first : b ≡ false
  pub rest : first_refusal_of lines ≡ None

pub first_none : (refusal : Refusal) (b : Bool) (lines : List (Refusal × Bool)) → first_refusal_of ((refusal, b) ∷ lines) ≡ None → NoneHolds b lines
first_none refusal true lines h = absurd (some_none h)
  where
    some_none : Some refusal ≡ None → ⊥
    some_none e = cc
first_none refusal false lines h = record { first = refl; rest = h }

-- if no refusal applies, none of the list does
pub none_hold : (lines : List (Refusal × Bool)) → first_refusal_of lines ≡ None → AllByRecursion (λ (line : Refusal × Bool). line.1 ≡ false) lines
none_hold [] h = tt
none_hold (line ∷ lines) h = let none = first_none line.0 line.1 lines h in (none.first, none_hold lines none.rest)
