-- The number of items of a filtered list that satisfy a condition.
use Rattle.std.proofs.Common.{◌≡◌, Bool, List, [], ◌∷◌, length, ◌&&◌, refl, arith}
use Rattle.std.specs.Prelude.{filter, map as map_list}

pub count_of_kept : {X Y : Type 0} (kept : X → Bool) (f : X → Y) (counted : Y → Bool) (xs : List X) → length (filter counted (map_list f (filter kept xs))) ≡ length (filter (λ x. kept x && counted (f x)) xs)
count_of_kept kept f counted [] = refl
count_of_kept kept f counted (x ∷ xs) = grind (arith, count_of_kept kept f counted xs)
