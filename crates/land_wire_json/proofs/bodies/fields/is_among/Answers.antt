use Rattle.std.proofs.Common.{◌≡◌, ℕ, List, [], ◌∷◌, map, refl, ap, ◌||◌, bytes_eq, Bor, Bool}
use Rattle.std.specs.List.{list_any}
use Rattle.land_wire_json.proofs.bodies.fields.is_among.Goals as goal

any_of_mapped : {A B : Type 0} (f : A → B) (p : B → Bool) (xs : List A) → list_any (λ x. p (f x)) xs ≡ list_any p (map f xs)
any_of_mapped f p [] = refl
any_of_mapped f p (x ∷ xs) = ap (λ b. p (f x) || b) (any_of_mapped f p xs)

pub returns : goal.returns
returns c = let e = any_of_mapped (λ (n : Bor (List ℕ)). n.now) (λ (n : List ℕ). bytes_eq n c.args.key.now) c.args.names.now in cc (c.is_one_of.ensures, e)
