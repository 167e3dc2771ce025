-- The objects of the parts of a subdivision: units and copies do not depend on the source, and the next
-- number counts all new objects.
use Rattle.std.proofs.Common.{◌≡◌, ℕ, ◌+◌, List, [], ◌∷◌, Option, Some, None, refl, arith}
use Rattle.land_acts.specs.Mutations.Subdividing.{copies_made, count_for, entries_made, next_after, numbers_for, origin_of, unit_made, units_made}
use Rattle.land_core.specs.declared.register.Register.{Register}
use Rattle.land_core.specs.declared.subdivision.Part.{Part}
use Rattle.land_core.specs.declared.subdivision.Subdivision.{Subdivision}

numbers_stay : (r : Register) (source : ℕ) (it : Subdivision) (name : Option (List ℕ)) → numbers_for (origin_of r source it) name ≡ numbers_for (origin_of r 0 it) name
numbers_stay r source it None = refl
numbers_stay r source it (Some name) = refl

unit_stays : (r : Register) (source : ℕ) (it : Subdivision) (first : ℕ) (name : Option (List ℕ)) → unit_made (origin_of r source it) first name ≡ unit_made (origin_of r 0 it) first name
unit_stays r source it first None = refl
unit_stays r source it first (Some name) = refl

copies_of_part_stay : (r : Register) (source : ℕ) (it : Subdivision) (first : ℕ) (name : Option (List ℕ)) → entries_made (origin_of r source it) first name ≡ entries_made (origin_of r 0 it) first name
copies_of_part_stay r source it first None = refl
copies_of_part_stay r source it first (Some name) = refl

-- the new units do not depend on the source
pub units_stay : (r : Register) (source : ℕ) (it : Subdivision) (first : ℕ) (parts : List Part) → units_made (origin_of r source it) first parts ≡ units_made (origin_of r 0 it) first parts
units_stay r source it first [] = refl
units_stay r source it first (part ∷ parts) =
    let here = unit_stays r source it first part.unit in
    let count = numbers_stay r source it part.unit in
    let there = units_stay r source it (first + numbers_for (origin_of r 0 it) part.unit) parts in
    cc

-- neither do the copies of the entries
pub copies_stay : (r : Register) (source : ℕ) (it : Subdivision) (first : ℕ) (parts : List Part) → copies_made (origin_of r source it) first parts ≡ copies_made (origin_of r 0 it) first parts
copies_stay r source it first [] = refl
copies_stay r source it first (part ∷ parts) =
    let here = copies_of_part_stay r source it first part.unit in
    let count = numbers_stay r source it part.unit in
    let there = copies_stay r source it (first + numbers_for (origin_of r 0 it) part.unit) parts in
    cc

-- the next number counts all new objects
pub next_counts_parts : (r : Register) (source : ℕ) (it : Subdivision) (first : ℕ) (parts : List Part) → next_after (origin_of r source it) first parts ≡ first + count_for (origin_of r 0 it) parts
next_counts_parts r source it first [] = omega arith
next_counts_parts r source it first (part ∷ parts) =
    let count = numbers_stay r source it part.unit in
    let there = next_counts_parts r source it (first + numbers_for (origin_of r source it) part.unit) parts in
    omega arith
