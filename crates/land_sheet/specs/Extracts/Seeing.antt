-- The objects of a kind that a caller sees at a moment, as rows that are returned one at a time.
use Rattle.std.specs.Prelude.{◌≡◌, Bool, ℕ, List, [], ◌∷◌, Option, Some, None, IsSome, Result, Ok, Err}
use Rattle.std.specs.Option.{option_map}
use Rattle.std.specs.List.{AllByRecursion}
use Rattle.land_core.specs.Register.{object_at}
use Rattle.land_core.specs.declared.kind.Kind.{Kind}
use Rattle.land_core.specs.declared.register.Register.{Register}
use Rattle.land_keep.specs.Keeping.{Closes}
use Rattle.land_keep.specs.Named.{named_object}
use Rattle.land_keep.specs.declared.named.NamedObject.{NamedObject}
use Rattle.land_keep.specs.declared.store_fault.StoreFault.{StoreFault}

-- the listed object with a number, if it exists
abbrev pub named_object_at : Register → Kind → (number : ℕ) → Option NamedObject
named_object_at r k number = option_map (named_object r) (object_at r k number)

-- each of these numbers has an object
abbrev pub AllExist : Register → Kind → List ℕ → Type 0
AllExist r k numbers = AllByRecursion (λ number. IsSome (object_at r k number)) numbers

-- if numbers remain, the row of the first one is returned, and otherwise none
abbrev pub IsNextRow : Register → Kind → (left : List ℕ) → Option NamedObject → Type 0
IsNextRow r k [] None = Unit {0}
IsNextRow r k [] (Some row) = ⊥
IsNextRow r k (number ∷ numbers) None = ⊥
IsNextRow r k (number ∷ numbers) (Some row) = named_object_at r k number ≡ Some row

-- a row removes the first remaining number; the end or a fault removes all of them
abbrev pub LeavesNumbers : (before : List ℕ) → Result (Option NamedObject) StoreFault → (after : List ℕ)
    → Type 0
LeavesNumbers [] (Ok None) after = after ≡ []
LeavesNumbers [] (Ok (Some row)) after = ⊥
LeavesNumbers [] (Err fault) after = ⊥
LeavesNumbers (number ∷ numbers) (Ok None) after = after ≡ []
LeavesNumbers (number ∷ numbers) (Ok (Some row)) after = after ≡ numbers
LeavesNumbers (number ∷ numbers) (Err fault) after = after ≡ []

-- the keeper is called only if numbers remain, and its faults close it as usual
abbrev pub ClosesAt : (left : List ℕ) → (before after : Bool) → Result (Option NamedObject) StoreFault
    → Type 0
ClosesAt [] before after result = after ≡ before
ClosesAt (number ∷ numbers) before after result = Closes before after result
