-- New objects get the next numbers, in their order.
use Rattle.std.specs.Prelude.{ℕ, ◌+◌, List, [], ◌∷◌}
use Rattle.std.specs.List.{range_with_len}

-- these objects, numbered from `first`
abbrev pub with_numbers_from : {A : Type 0} → (first : ℕ) → List A → List (ℕ × A)
with_numbers_from first [] = []
with_numbers_from first (object ∷ objects) = (first, object) ∷ with_numbers_from (first + 1) objects

-- `count` numbers from `first`
abbrev pub numbers_from : (first count : ℕ) → List ℕ
numbers_from first count = range_with_len first count
