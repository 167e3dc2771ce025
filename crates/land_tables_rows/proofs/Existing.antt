-- The records of existing objects in a list that is followed by one more record.
use Rattle.std.proofs.Common.{◌≡◌, ◌∙◌, ◌<◌, ◌≤◌, ℕ, true, false, cond, List, [], ◌∷◌, ◌++◌, ap, arith}
use Rattle.std.specs.Prelude.{nat_lt}
use Rattle.std.proofs.lemmas.Bool.Decides.{nat_tests}
use Rattle.std.proofs.lemmas.List.{append-nil}
use Rattle.std.proofs.lemmas.List.Elements.{filter-append}
use Rattle.land_tables_history.specs.Written.{existing_records}

less_true : (a b : ℕ) → a < b → nat_lt a b ≡ true
less_true a b h = grind (arith, nat_tests)

less_false : (a b : ℕ) → b ≤ a → nat_lt a b ≡ false
less_false a b h = grind (arith, nat_tests)

module _ {X : Type 0} (number : X → ℕ) (next : ℕ) (xs : List X) (x : X) where
  -- a record of an existing object is one of them
  pub existing_more : number x < next → existing_records number next (xs ++ x ∷ []) ≡ existing_records number next xs ++ x ∷ []
  existing_more less =
      filter-append (λ y. nat_lt (number y) next) xs (x ∷ []) ∙ ap (λ b. existing_records number next xs ++ cond b (x ∷ []) []) (less_true (number x) next less)

  -- a record of a new object is none of them
  pub new_more : next ≤ number x → existing_records number next (xs ++ x ∷ []) ≡ existing_records number next xs
  new_more least =
      filter-append (λ y. nat_lt (number y) next) xs (x ∷ []) ∙ ap (λ b. existing_records number next xs ++ cond b (x ∷ []) []) (less_false (number x) next least)
      ∙ append-nil (existing_records number next xs)
