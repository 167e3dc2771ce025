-- Conditions that are equal.
use Rattle.std.proofs.Common.{◌≡◌, Bool, true, false, ◌&&◌, List, [], ◌∷◌, refl}
use Rattle.std.specs.List.{list_any}

-- an item satisfies a conjunction whose first part does not depend on the item
pub any_where : {X : Type 0} (first : Bool) (passes : X → Bool) (xs : List X) → list_any (λ x. first && passes x) xs ≡ (first && list_any passes xs)
any_where true passes xs = refl
any_where false passes [] = refl
any_where false passes (x ∷ xs) = any_where false passes xs
