-- The events of all tables: a list for each table, by the tables' numbers.
use Rattle.std.proofs.Common.{◌≡◌, ℕ, zero, suc, ◌+◌, ◌≤◌, ◌⊎◌, List, [], ◌∷◌, flat_map, inl, inr, arith}
use Rattle.std.specs.Prelude.{⊤}
use Rattle.land_digest.proofs.Membership.{In, in_either, in_left, in_right}
use Rattle.land_digest.specs.Events.{Event}

abbrev pub OfTable : ℕ → List Event → Type 0
OfTable n es = (e : Event) → In e es → e.table ≡ n

-- lists of events of consecutive tables, from this number on
abbrev pub AreNumbered : ℕ → List (List Event) → Type 0
AreNumbered n [] = ⊤
AreNumbered n (l ∷ ls) = OfTable n l × AreNumbered (suc n) ls

abbrev pub joined : List (List Event) → List Event
joined ls = flat_map (λ es. es) ls

abbrev pub list_at : ℕ → List (List Event) → List Event
list_at n [] = []
list_at zero (l ∷ ls) = l
list_at (suc n) (l ∷ ls) = list_at n ls

pub table_from : (n : ℕ) (ls : List (List Event)) (e : Event) → AreNumbered n ls → In e (joined ls)
    → n ≤ e.table
table_from n [] e of i = elim i [ ]
table_from n (l ∷ ls) e of i = go (in_either e l (joined ls) i) (λ b. table_from (suc n) ls e of.1 b)
  where
    go : In e l ⊎ In e (joined ls) → (In e (joined ls) → suc n ≤ e.table) → n ≤ e.table
    go (inl a) rest = let h = of.0 e a in omega (arith, h)
    go (inr b) rest = let h = rest b in omega (arith, h)

-- an event is in the list of its table
pub in_its_list : (n k : ℕ) (ls : List (List Event)) (e : Event) → AreNumbered n ls → e.table ≡ n + k
    → In e (joined ls) → In e (list_at k ls)
in_its_list n k [] e of is i = elim i [ ]
in_its_list n zero (l ∷ ls) e of is i = go (in_either e l (joined ls) i)
  where
    go : In e l ⊎ In e (joined ls) → In e l
    go (inl a) = a
    go (inr b) = let h = table_from (suc n) ls e of.1 b in absurd (omega (arith, h, is))
in_its_list n (suc k) (l ∷ ls) e of is i =
    go (in_either e l (joined ls) i) (λ b. in_its_list (suc n) k ls e of.1 (omega (arith, is)) b)
  where
    go : In e l ⊎ In e (joined ls) → (In e (joined ls) → In e (list_at k ls)) → In e (list_at k ls)
    go (inl a) rest = let h = of.0 e a in absurd (omega (arith, h, is))
    go (inr b) rest = rest b

-- each list is among all events
pub in_all : (k : ℕ) (ls : List (List Event)) (e : Event) → In e (list_at k ls) → In e (joined ls)
in_all k [] e i = i
in_all zero (l ∷ ls) e i = in_left e l (joined ls) i
in_all (suc k) (l ∷ ls) e i = in_right e l (joined ls) (in_all k ls e i)

-- a fact on the first table, and on the others
abbrev pub also : {A B : Type 0} → A → B → A × B
also first others = (first, others)
