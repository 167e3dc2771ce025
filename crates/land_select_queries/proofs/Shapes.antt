-- Rows of which only some columns are read: a shape has these, and NULL in the others.
use Rattle.std.proofs.Common.{◌≡◌, ◌⊎◌, ℕ, zero, suc, pos, ◌+◌, List, [], ◌∷◌, ◌++◌, Bool, true, false, ◌&&◌, int_eq, int_le, int_lt, slice_index_or, refl, sym, ap, ap₂, subst, ◌∙◌, true≢false, arith}
use Rattle.std.specs.Bool.{Decides}
use Rattle.std.specs.List.{list_all}
use Rattle.std.proofs.lemmas.Bool.Decides.{Decides-and, Decides-at, Decides-int_eq, Decides-not, Decides-or}
use Rattle.std.proofs.lemmas.Map.Text.{is_eq-slice_cmp}
use Rattle.std.proofs.lemmas.Slice.Eq.{bytes_eq-Decides}
use Rattle.std.proofs.lemmas.Bool.{and_parts}
use Rattle.sqlite.specs.declared.types.Value.{Value}
use Rattle.sqlite.specs.declared.types.Value.TheVariants.{Null, Int, Real, Text, Blob}
use Rattle.sqlite_sql.specs.Ops.{binary, is_true}
use Rattle.sqlite_sql.specs.Term.{Term, Env, lit, col, op1, op2, case, eval, holds}
use Rattle.sqlite_sql.specs.declared.ops.BinaryOp.TheVariants.{Compare, Or}
use Rattle.sqlite_sql.specs.declared.ops.CompareOp.{CompareOp}
use Rattle.sqlite_sql.specs.declared.ops.CompareOp.TheVariants.{Eq, Ne, Lt, Le}
use Rattle.sqlite_typed.proofs.TestLemmas.{at_ints, at_or, at_texts}
use Rattle.sqlite_value.specs.Order.{Row, column}
use Rattle.sqlite_value.specs.declared.keys.Collation.TheVariants.{Binary}

-- ---- shapes

-- a cell of a shape is NULL, or the cell of the row
abbrev pub IsSeen : Value → Value → Type 0
IsSeen Null cell = Unit {0}
IsSeen (Int z) cell = cell ≡ Int z
IsSeen (Real x) cell = cell ≡ Real x
IsSeen (Text t) cell = cell ≡ Text t
IsSeen (Blob b) cell = cell ≡ Blob b

-- so are all from one on
abbrev pub Fits : Row → ℕ → Row → Type 0
Fits [] from row = Unit {0}
Fits (cell ∷ cells) from row = IsSeen cell (column row from) × Fits cells (suc from) row

pub seen_itself : (v : Value) → IsSeen v v
seen_itself Null = tt
seen_itself (Int z) = refl
seen_itself (Real x) = refl
seen_itself (Text t) = refl
seen_itself (Blob b) = refl

-- a row and its shape, in any column
pub IsShape : Row → Row → Type 0
IsShape shape row = (n : ℕ) → IsSeen (column shape n) (column row n)

pub fits_from : (shape : Row) (from : ℕ) (row : Row) → Fits shape from row → (n : ℕ) → IsSeen (column shape n) (column row (from + n))
fits_from [] from row fits n = tt
fits_from (cell ∷ cells) from row fits zero =
    let same : from ≡ from + 0 = omega arith in
    subst (λ k. IsSeen cell (column row k)) same fits.0
fits_from (cell ∷ cells) from row fits (suc n) =
    let same : suc from + n ≡ from + suc n = omega arith in
    subst (λ k. IsSeen (column cells n) (column row k)) same (fits_from cells (suc from) row fits.1 n)

pub is_shape : (shape row : Row) → Fits shape 0 row → IsShape shape row
unfolding IsShape
is_shape shape row fits n =
    let same : 0 + n ≡ n = omega arith in
    subst (λ k. IsSeen (column shape n) (column row k)) same (fits_from shape 0 row fits n)

pub shape_itself : (row : Row) → IsShape row row
unfolding IsShape
shape_itself row n = seen_itself (column row n)

-- the rows of an environment and their shapes
abbrev pub AreShapes : Env → Env → Type 0
AreShapes [] [] = Unit {0}
AreShapes [] (r ∷ rs) = ⊥
AreShapes (s ∷ ss) [] = ⊥
AreShapes (s ∷ ss) (r ∷ rs) = IsShape s r × AreShapes ss rs

pub shapes_more : (ss rs : Env) (s r : Row) → AreShapes ss rs → IsShape s r → AreShapes (ss ++ s ∷ []) (rs ++ r ∷ [])
shapes_more [] [] s r all one = (one, tt)
shapes_more [] (r' ∷ rs) s r all one = absurd all
shapes_more (s' ∷ ss) [] s r all one = absurd all
shapes_more (s' ∷ ss) (r' ∷ rs) s r all one = (all.0, shapes_more ss rs s r all.1 one)

shape_in : (ss rs : Env) → AreShapes ss rs → (slot : ℕ) → IsShape (slice_index_or ss slot []) (slice_index_or rs slot [])
shape_in [] [] all slot = shape_itself []
shape_in [] (r ∷ rs) all slot = absurd all
shape_in (s ∷ ss) [] all slot = absurd all
shape_in (s ∷ ss) (r ∷ rs) all zero = all.0
shape_in (s ∷ ss) (r ∷ rs) all (suc slot) = shape_in ss rs all.1 slot

-- ---- terms

abbrev pub is_solid : Value → Bool
is_solid Null = false
is_solid _ = true

-- a column or a constant
abbrev pub is_simple : Term → Bool
is_simple (lit v) = true
is_simple (col slot at) = true
is_simple _ = false

seen_solid : (shown cell : Value) → IsSeen shown cell → is_solid shown ≡ true → cell ≡ shown
seen_solid Null cell seen solid = absurd (true≢false (sym solid))
seen_solid (Int z) cell seen solid = seen
seen_solid (Real x) cell seen solid = seen
seen_solid (Text t) cell seen solid = seen
seen_solid (Blob b) cell seen solid = seen

-- a term that is known of a shape has the same value for the row
pub same_value : (t : Term) (s e : Env) → AreShapes s e → is_simple t ≡ true → is_solid (eval t s) ≡ true → eval t e ≡ eval t s
unfolding IsShape
same_value (lit v) s e shapes simple solid = refl
same_value (col slot n) s e shapes simple solid =
    seen_solid (column (slice_index_or s slot []) n) (column (slice_index_or e slot []) n) (shape_in s e shapes slot n) solid
same_value (op1 op a) s e shapes simple solid = absurd (true≢false (sym simple))
same_value (op2 op a b) s e shapes simple solid = absurd (true≢false (sym simple))
same_value (case c a b) s e shapes simple solid = absurd (true≢false (sym simple))

-- the comparison of two values that are natural numbers, integers or texts
abbrev pub Compares : CompareOp → Value → Value → Type 0
Compares Eq (Int (pos m)) (Int (pos n)) = m ≡ n
Compares Eq (Text s) (Text t) = s ≡ t
Compares Ne (Text s) (Text t) = ¬ (s ≡ t)
Compares Le (Int y) (Int z) = int_le y z ≡ true
Compares Lt (Int y) (Int z) = int_lt y z ≡ true
Compares _ a b = ⊥

abbrev pub comparable : CompareOp → Value → Value → Bool
comparable Eq (Int (pos m)) (Int (pos n)) = true
comparable Eq (Text s) (Text t) = true
comparable Ne (Text s) (Text t) = true
comparable Le (Int y) (Int z) = true
comparable Lt (Int y) (Int z) = true
comparable _ a b = false

-- the value of a term for rows
abbrev pub Says : Term → Env → Type 0
Says (op2 (Compare op Binary) a b) e = Compares op (eval a e) (eval b e)
Says (op2 Or a b) e = Says a e ⊎ Says b e
Says _ e = ⊥

abbrev pub is_known : Term → Env → Bool
is_known (op2 (Compare op Binary) a b) e = (is_simple a && is_simple b) && ((is_solid (eval a e) && is_solid (eval b e)) && comparable op (eval a e) (eval b e))
is_known (op2 Or a b) e = is_known a e && is_known b e
is_known _ e = false

abbrev pub SayAll : List Term → Env → Type 0
SayAll [] e = Unit {0}
SayAll (t ∷ ts) e = Says t e × SayAll ts e

abbrev pub are_known : List Term → Env → Bool
are_known [] e = true
are_known (t ∷ ts) e = is_known t e && are_known ts e

same_pos : (m n : ℕ) → pos m ≡ pos n → m ≡ n
same_pos m n e = cc

eq_way : (m n : ℕ) → Decides (int_eq (pos m) (pos n)) (m ≡ n)
eq_way m n = let d = Decides-int_eq (pos m) (pos n) in ((λ h. same_pos m n (d.0 h)), (λ e. d.1 (ap pos e)))

itself : (b : Bool) → Decides b (b ≡ true)
itself b = ((λ h. h), (λ h. h))

text_way : (s t : List ℕ) → Decides (is_true (binary (Compare Eq Binary) (Text s) (Text t))) (s ≡ t)
text_way s t = Decides-at _ _ (at_texts false Eq s t ∙ is_eq-slice_cmp s t) (bytes_eq-Decides s t)

other_way : (s t : List ℕ) → Decides (is_true (binary (Compare Ne Binary) (Text s) (Text t))) (¬ (s ≡ t))
other_way s t = Decides-at _ _ (at_texts false Ne s t) (Decides-not _ (Decides-at _ _ (is_eq-slice_cmp s t) (bytes_eq-Decides s t)))

compared : (op : CompareOp) (a b : Value) → comparable op a b ≡ true → Decides (is_true (binary (Compare op Binary) a b)) (Compares op a b)
compared Eq (Int (pos m)) (Int (pos n)) h = Decides-at _ _ (at_ints false Eq (pos m) (pos n)) (eq_way m n)
compared Eq (Text s) (Text t) h = text_way s t
compared Ne (Text s) (Text t) h = other_way s t
compared Le (Int y) (Int z) h = Decides-at _ _ (at_ints false Le y z) (itself (int_le y z))
compared Lt (Int y) (Int z) h = Decides-at _ _ (at_ints false Lt y z) (itself (int_lt y z))
compared _ a b h = absurd (true≢false (sym h))

-- the value of a term for shapes decides whether it holds of the rows
decided : (t : Term) (s e : Env) → AreShapes s e → is_known t s ≡ true → Decides (holds e t) (Says t s)
decided (op2 (Compare op Binary) a b) s e shapes h =
    let p = and_parts (is_simple a && is_simple b) ((is_solid (eval a s) && is_solid (eval b s)) && comparable op (eval a s) (eval b s)) h in
    let q = and_parts (is_simple a) (is_simple b) p.0 in
    let r = and_parts (is_solid (eval a s) && is_solid (eval b s)) (comparable op (eval a s) (eval b s)) p.1 in
    let v = and_parts (is_solid (eval a s)) (is_solid (eval b s)) r.0 in
    let same : is_true (binary (Compare op Binary) (eval a e) (eval b e)) ≡ is_true (binary (Compare op Binary) (eval a s) (eval b s)) =
    ap₂ (λ x y. is_true (binary (Compare op Binary) x y)) (same_value a s e shapes q.0 v.0) (same_value b s e shapes q.1 v.1) in
    Decides-at _ _ same (compared op (eval a s) (eval b s) r.1)
decided (op2 Or a b) s e shapes h =
    let it = and_parts (is_known a s) (is_known b s) h in
    Decides-at _ _ (at_or false (eval a e) (eval b e) refl refl) (Decides-or _ _ (decided a s e shapes it.0) (decided b s e shapes it.1))
decided _ s e shapes h = absurd (true≢false (sym h))

pub all_decided : (ts : List Term) (s e : Env) → AreShapes s e → are_known ts s ≡ true → Decides (list_all (holds e) ts) (SayAll ts s)
all_decided [] s e shapes h = ((λ _. tt), (λ _. refl))
all_decided (t ∷ ts) s e shapes h =
    let it = and_parts (is_known t s) (are_known ts s) h in
    Decides-and _ _ (decided t s e shapes it.0) (all_decided ts s e shapes it.1)
