-- The contents of the rows that pass a test which the content of each row decides.
use Rattle.std.proofs.Common.{◌≡◌, Bool, true, false, cond, List, [], ◌∷◌, filter, map, Ok, Err, Result, refl, sym, ap, ap₂, subst₂, ◌∙◌, IsPermutation}
use Rattle.std.proofs.lemmas.List.Sorted.{IsPermutation-sym}
use Rattle.std.specs.List.{AllByRecursion}
use Rattle.land_tables_history.proofs.Permutations.{filter_permuted}
use Rattle.land_tables_rows.specs.Reading.Readings.{each_row}
use Rattle.land_wire_json.specs.Bodies.WireFaults.{◌>>=◌}
use Rattle.land_wire_json.specs.declared.bodies.wire_fault.WireFault.{WireFault}
use Rattle.sqlite_trees.proofs.ListLemmas.{all-permutation}
use Rattle.sqlite_value.specs.Order.{Row}

module _ {X : Type 0} where
  abbrev pub fine : X → Result X WireFault
  fine x = Ok x

  -- a row has a content
  abbrev pub IsSaid : Result X WireFault → Type 0
  IsSaid s = (x : X) × (s ≡ Ok x)

  pub all_said : (xs : List X) → AllByRecursion IsSaid (map fine xs)
  all_said [] = tt
  all_said (x ∷ xs) = ((x, refl), all_said xs)

  -- rows that each have a content have all of it
  pub each_from : (said : Row → Result X WireFault) (rows : List Row) → AllByRecursion IsSaid (map said rows) → (xs : List X) × (each_row said rows ≡ Ok xs)
  each_from said [] all = ([], refl)
  each_from said (row ∷ rows) all =
      let rest = each_from said rows all.1 in
      (all.0.0 ∷ rest.0, ap₂ (λ a b. a >>= λ first. b >>= λ rest. Ok (first ∷ rest)) all.0.1 rest.1)

  -- so they do if a permutation of them has the contents of a list
  pub some_said : (said : Row → Result X WireFault) (rows : List Row) (xs : List X) → IsPermutation (map said rows) (map fine xs) → (ys : List X) × (each_row said rows ≡ Ok ys)
  some_said said rows xs say = each_from said rows (all-permutation IsSaid (map fine xs) (map said rows) (IsPermutation-sym (map said rows) (map fine xs) say) (all_said xs))

module _ {X : Type 0} (f : Row → Result X WireFault) (p : Row → Bool) (q : X → Bool) (tests : (r : Row) (x : X) → f r ≡ Ok x → p r ≡ q x) where
  -- the test of the contents
  of_said : Result X WireFault → Bool
  of_said (Ok x) = q x
  of_said (Err fault) = false

  passing : (rows : List Row) → AllByRecursion IsSaid (map f rows) → map f (filter p rows) ≡ filter of_said (map f rows)
  unfolding of_said
  passing [] all = refl
  passing (r ∷ rs) all =
      let same : p r ≡ of_said (f r) = tests r all.0.0 all.0.1 ∙ ap of_said (sym all.0.1) in
      go (p r) (passing rs all.1) ∙ ap (λ b. cond b (f r ∷ filter of_said (map f rs)) (filter of_said (map f rs))) same
    where
      go : (b : Bool) → map f (filter p rs) ≡ filter of_said (map f rs) → map f (cond b (r ∷ filter p rs) (filter p rs)) ≡ cond b (f r ∷ filter of_said (map f rs)) (filter of_said (map f rs))
      go true rest = ap (λ l. f r ∷ l) rest
      go false rest = rest

  passed : (xs : List X) → filter of_said (map fine xs) ≡ map fine (filter q xs)
  unfolding of_said
  passed [] = refl
  passed (x ∷ xs) = go (q x) (passed xs)
    where
      go : (b : Bool) → filter of_said (map fine xs) ≡ map fine (filter q xs) → cond b (fine x ∷ filter of_said (map fine xs)) (filter of_said (map fine xs)) ≡ map fine (cond b (x ∷ filter q xs) (filter q xs))
      go true rest = ap (λ l. fine x ∷ l) rest
      go false rest = rest

  -- the rows that pass have the contents that pass
  pub passing_said : (rows : List Row) (xs : List X) → IsPermutation (map f rows) (map fine xs) → IsPermutation (map f (filter p rows)) (map fine (filter q xs))
  passing_said rows xs say =
      let all = all-permutation IsSaid (map fine xs) (map f rows) (IsPermutation-sym (map f rows) (map fine xs) say) (all_said xs) in
      subst₂ IsPermutation (sym (passing rows all)) (passed xs) (filter_permuted of_said (map f rows) (map fine xs) say)
