-- The rows of a table decode to one list, in any order.
use Rattle.std.proofs.Common.{◌≡◌, List, [], ◌∷◌, map, Ok, Err, Result, refl, sym, ap, subst, IsPermutation}
use Rattle.std.proofs.lemmas.List.Sorted.{IsPermutation-map, IsPermutation-refl, IsPermutation-sym, IsPermutation-trans, length_permutation}
use Rattle.land_tables_history.proofs.Orders.{no_more}
use Rattle.land_tables_rows.proofs.Readings.{some_each, says_read}
use Rattle.land_tables_rows.specs.Listing.Reading.{Listing, Says}
use Rattle.land_tables_rows.specs.Listing.Told.{ok_or_empty, decode_rows}
use Rattle.land_wire_json.specs.declared.bodies.wire_fault.WireFault.{WireFault}
use Rattle.sqlite_trees.specs.Tree.{Trees}

value_or : {X : Type 0} → X → Result X WireFault → X
value_or x (Ok y) = y
value_or x (Err fault) = x

values : {X : Type 0} (x : X) (ys : List X) → map (value_or x) (map (λ y. Ok y) ys) ≡ ys
unfolding value_or
values x [] = refl
values x (y ∷ ys) = ap (λ l. y ∷ l) (values x ys)

-- lists that are permutations of the same values
pub same_values : {X : Type 0} (xs ys : List X) → IsPermutation {X = Result X WireFault} (map (λ x. Ok x) xs) (map (λ y. Ok y) ys) → IsPermutation xs ys
same_values {X = X} [] ys h = subst (IsPermutation []) (sym (nothing ys (no_more (map (λ y. Ok y) ys) (length_permutation [] (map (λ y. Ok y) ys) h)))) (IsPermutation-refl [])
  where
    nothing : (zs : List X) → ◌≡◌ {A = List (Result X WireFault)} (map (λ y. Ok y) zs) [] → zs ≡ []
    nothing [] e = refl
    nothing (z ∷ zs) e = absurd (let f = e in cc)
same_values (x ∷ xs) ys h =
    subst (λ l. IsPermutation l ys) (values x (x ∷ xs)) (subst (IsPermutation (map (value_or x) (map (λ z. Ok z) (x ∷ xs)))) (values x ys) (IsPermutation-map (value_or x) (map (λ z. Ok z) (x ∷ xs)) (map (λ y. Ok y) ys) h))

-- two lists that a table decodes to are permutations of one another
pub says_same : {X : Type 0} (listing : Listing X) (db : Trees) (xs ys : List X) → Says listing db xs → Says listing db ys → IsPermutation xs ys
says_same listing db xs ys one other =
    let rows = map (λ r. listing.said (listing.shown r)) (db listing.table.tree) in
    same_values xs ys (IsPermutation-trans (map (λ x. Ok x) xs) rows (map (λ y. Ok y) ys) (IsPermutation-sym rows (map (λ x. Ok x) xs) one) other)

-- if a table decodes to a list, that list is its decoded value
pub told_is : {X : Type 0} (listing : Listing X) (db : Trees) (xs : List X) → Says listing db xs → IsPermutation xs (decode_rows listing db)
told_is listing db xs says =
    let rows = map listing.shown (db listing.table.tree) in
    let found = some_each listing db rows (IsPermutation-refl rows) xs says in
    let tells : decode_rows listing db ≡ found.0 = ap ok_or_empty found.1 in
    subst (IsPermutation xs) (sym tells) (says_same listing db xs found.0 says (says_read listing db rows (IsPermutation-refl rows) found.0 found.1))
