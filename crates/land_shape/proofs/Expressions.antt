-- Equations and orders of whole numbers that hold by multiplying out. An expression is written down once as
-- data; its upper and lower parts are natural numbers whose difference is its value, and `omega` compares
-- those.
use Rattle.std.proofs.Common.{◌≡◌, ℕ, ◌+◌, ◌*◌, ◌≤◌, ◌<◌, arith, ap}
use lib.IntN.{ℤ, pos, ◌+ℤ◌, ◌-ℤ◌, ◌*ℤ◌, neg_ℤ}
use lib.Signed.{◌≤ℤ◌, ◌<ℤ◌}
use borrow.Author.Differences.{up, down, same_in, same_out, le_out, lt_out, at_most_in, below_in, product_is, sum_is_lem, neg_is}

infixl 6 ◌⊕◌ ◌⊖◌
infixl 7 ◌⊗◌
pub data Expr : Type 0 where
  var : ℤ → Expr
  num : ℕ → Expr
  ◌⊕◌ : Expr → Expr → Expr
  ◌⊖◌ : Expr → Expr → Expr
  ◌⊗◌ : Expr → Expr → Expr

abbrev pub value : Expr → ℤ
value (var z) = z
value (num n) = pos n
value (a ⊕ b) = value a +ℤ value b
value (a ⊖ b) = value a -ℤ value b
value (a ⊗ b) = value a *ℤ value b

abbrev mutual
  pub upper : Expr → ℕ
  upper (var z) = up z
  upper (num n) = n
  upper (a ⊕ b) = upper a + upper b
  upper (a ⊖ b) = upper a + lower b
  upper (a ⊗ b) = upper a * upper b + lower a * lower b

  pub lower : Expr → ℕ
  lower (var z) = down z
  lower (num n) = 0
  lower (a ⊕ b) = lower a + lower b
  lower (a ⊖ b) = lower a + upper b
  lower (a ⊗ b) = upper a * lower b + lower a * upper b

times_parts : (ua da pa la ub db pb lb : ℕ) → ua + la ≡ da + pa → ub + lb ≡ db + pb
    → (ua * ub + da * db) + (pa * lb + la * pb) ≡ (ua * db + da * ub) + (pa * pb + la * lb)
times_parts ua da pa la ub db pb lb ha hb =
    let h1 : (ua + la) * ub ≡ (da + pa) * ub = ap (λ (t : ℕ). t * ub) ha in
    let h2 : (ua + la) * db ≡ (da + pa) * db = ap (λ (t : ℕ). t * db) ha in
    let h3 : pa * (ub + lb) ≡ pa * (db + pb) = ap (λ (t : ℕ). pa * t) hb in
    let h4 : la * (ub + lb) ≡ la * (db + pb) = ap (λ (t : ℕ). la * t) hb in
    omega arith

pub parts_of : (e : Expr) → up (value e) + lower e ≡ down (value e) + upper e
parts_of (var z) = omega arith
parts_of (num n) = omega arith
parts_of (a ⊕ b) = omega (arith, parts_of a, parts_of b, sum_is_lem (value a) (value b))
parts_of (a ⊖ b) = omega (arith, parts_of a, parts_of b, sum_is_lem (value a) (neg_ℤ (value b)), neg_is (value b))
parts_of (a ⊗ b) =
    let h : (up (value a) * up (value b) + down (value a) * down (value b)) + (upper a * lower b + lower a * upper b)
    ≡ (up (value a) * down (value b) + down (value a) * up (value b)) + (upper a * upper b + lower a * lower b)
    = times_parts _ _ _ _ _ _ _ _ (parts_of a) (parts_of b) in
    omega (arith, product_is (value a) (value b), h)

-- an equation by multiplying out
pub by_parts : (l r : Expr) → upper l + lower r ≡ upper r + lower l → value l ≡ value r
by_parts l r h = same_in (value l) (value r) (omega (arith, parts_of l, parts_of r))

pub by_parts_le : (l r : Expr) → upper l + lower r ≤ upper r + lower l → value l ≤ℤ value r
by_parts_le l r h = at_most_in (value l) (value r) (omega (arith, parts_of l, parts_of r))

pub by_parts_lt : (l r : Expr) → upper l + lower r < upper r + lower l → value l <ℤ value r
by_parts_lt l r h = below_in (value l) (value r) (omega (arith, parts_of l, parts_of r))

-- the parts of an equation or an inequality
pub parts_eq : (l r : Expr) → value l ≡ value r → upper l + lower r ≡ upper r + lower l
parts_eq l r h = omega (arith, parts_of l, parts_of r, same_out (value l) (value r) h)

pub parts_le : (l r : Expr) → value l ≤ℤ value r → upper l + lower r ≤ upper r + lower l
parts_le l r h = omega (arith, parts_of l, parts_of r, le_out (value l) (value r) h)

pub parts_lt : (l r : Expr) → value l <ℤ value r → upper l + lower r < upper r + lower l
parts_lt l r h = omega (arith, parts_of l, parts_of r, lt_out (value l) (value r) h)
