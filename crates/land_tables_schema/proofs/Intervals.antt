-- The nodes of the one term of an interval.
use Rattle.std.proofs.Common.{◌≡◌, ◌≤◌, ◌∙◌, IsTrue, false, ℕ, suc, List, [], ◌∷◌, length, Option, Some, None, refl, sym, ap, ap₂, subst, arith, get_or, slice_get, unwrap_or}
use Rattle.std.proofs.lemmas.Option.{unwrap_or-slice_get}
use Rattle.land_tables_schema.specs.Columns.{lifespan_check}
use Rattle.sqlite_schema.specs.Code.{op_term, term_to, terms_in}
use Rattle.sqlite_schema.specs.declared.code.Op.{Op}
use Rattle.sqlite_schema.specs.declared.code.Op.TheVariants.{Binary, Case, Column, Literal, Unary}
use Rattle.sqlite_sql.specs.Term.{Term, col, op2}
use Rattle.sqlite_sql.specs.declared.ops.BinaryOp.{BinaryOp}
use Rattle.sqlite_sql.specs.declared.ops.BinaryOp.TheVariants.{Compare}
use Rattle.sqlite_sql.specs.declared.ops.CompareOp.TheVariants.{Lt}
use Rattle.sqlite_value.specs.declared.keys.Collation.TheVariants.{Binary as Bytewise}
use Rattle.sqlite_value.specs.declared.value.Value.TheVariants.{Null}

-- one side is less than the other
abbrev less : BinaryOp
less = Compare Lt Bytewise

-- a node, or NULL if it is missing
abbrev read : Option Op → Op
read o = unwrap_or o (Literal Null)

-- the node of a term that is a column
is_col : (below : ℕ → Term) (o : Option Op) (s p : ℕ) → op_term below (read o) ≡ col s p → o ≡ Some (Column s p)
is_col below None s p e = absurd (cc (e))
is_col below (Some (Literal v)) s p e = absurd (cc (e))
is_col below (Some (Column t q)) s p e = ap₂ (λ a b. Some (Column a b)) (cc (e)) (cc (e))
is_col below (Some (Unary op a)) s p e = absurd (cc (e))
is_col below (Some (Binary op a b)) s p e = absurd (cc (e))
is_col below (Some (Case t a b)) s p e = absurd (cc (e))

-- the node of a term with two sides, and its sides
record IsTwo (below : ℕ → Term) (o : Option Op) (op : BinaryOp) (x y : Term) : Type 0 where
  left : ℕ
  right : ℕ
  node : o ≡ Some (Binary op left right)
  first : below left ≡ x
  second : below right ≡ y

-- a term with two sides has such a node
is_two : (below : ℕ → Term) (o : Option Op) (op : BinaryOp) (x y : Term) → op_term below (read o) ≡ op2 op x y → IsTwo below o op x y
is_two below None op x y e = absurd (cc (e))
is_two below (Some (Literal v)) op x y e = absurd (cc (e))
is_two below (Some (Column t q)) op x y e = absurd (cc (e))
is_two below (Some (Unary f a)) op x y e = absurd (cc (e))
is_two below (Some (Binary f a b)) op x y e =
    let same : f ≡ op = cc (e) in
    record { left = a; right = b; node = ap (λ g. Some (Binary g a b)) same; first = cc (e); second = cc (e) }
is_two below (Some (Case t a b)) op x y e = absurd (cc (e))

-- the three nodes of an interval
pub record IsInterval (nodes : List Op) (root since until : ℕ) : Type 0 where
  pub left : ℕ
  pub right : ℕ
  pub top : slice_get nodes root ≡ Some (Binary less left right)
  pub first : slice_get nodes left ≡ Some (Column 1 since)
  pub second : slice_get nodes right ≡ Some (Column 1 until)

-- the term of a node, up to some depth
abbrev step : List Op → ℕ → ℕ → Term
step nodes d at = op_term (term_to nodes d) (read (slice_get nodes at))

steps : (nodes : List Op) (d at : ℕ) → term_to nodes (suc d) at ≡ step nodes d at
steps nodes d at = ap (op_term (term_to nodes d)) (sym (unwrap_or-slice_get nodes at (Literal Null)))

-- at depth two, the term of an interval has the three nodes
deep : (nodes : List Op) (d root since until : ℕ)
    → term_to nodes (suc (suc d)) root ≡ op2 less (col 1 since) (col 1 until) → IsInterval nodes root since until
deep nodes d root since until e =
    let t = is_two (term_to nodes (suc d)) (slice_get nodes root) less (col 1 since) (col 1 until) (sym (steps nodes (suc d) root) ∙ e) in
    record {
      left = t.left;
      right = t.right;
      top = t.node;
      first = is_col (term_to nodes d) (slice_get nodes t.left) 1 since (sym (steps nodes d t.left) ∙ t.first);
      second = is_col (term_to nodes d) (slice_get nodes t.right) 1 until (sym (steps nodes d t.right) ∙ t.second);
    }

-- so there are at least two nodes, including the three of the interval
found : (nodes : List Op) (root since until : ℕ) → terms_in nodes (root ∷ []) ≡ lifespan_check since until
    → (2 ≤ length nodes) × IsInterval nodes root since until
found [] root since until e = absurd (cc (e))
found (n ∷ []) root since until e =
    let t = is_two (term_to (n ∷ []) 0) (slice_get (n ∷ []) root) less (col 1 since) (col 1 until) (sym (steps (n ∷ []) 0 root) ∙ cc (e)) in
    absurd (cc (t.first))
found (m ∷ n ∷ nodes) root since until e = (omega arith, deep (m ∷ n ∷ nodes) (length nodes) root since until (cc (e)))

-- the term of an existing node
shallow : (nodes : List Op) (d at : ℕ) (o : Op) → slice_get nodes at ≡ Some o → term_to nodes (suc d) at ≡ op_term (term_to nodes d) o
shallow nodes d at o is = steps nodes d at ∙ ap (λ x. op_term (term_to nodes d) (read x)) is

-- the three nodes, among at least two, have the term of the interval
meant : (nodes : List Op) (root since until : ℕ) → 2 ≤ length nodes → IsInterval nodes root since until
    → terms_in nodes (root ∷ []) ≡ lifespan_check since until
meant [] root since until long i = absurd (omega (arith, long))
meant (n ∷ []) root since until long i = absurd (omega (arith, long))
meant (m ∷ n ∷ rest) root since until long i =
    let nodes = m ∷ n ∷ rest in
    let top = shallow nodes (suc (length rest)) root _ i.top in
    let a = shallow nodes (length rest) i.left _ i.first in
    let b = shallow nodes (length rest) i.right _ i.second in
    ap (λ t. t ∷ []) (top ∙ ap₂ (λ x y. op2 less x y) a b)

-- from the terms of an interval to nodes and roots
pub record IsWhole (nodes : List Op) (roots : List ℕ) (since until : ℕ) : Type 0 where
  pub one : length roots ≡ 1
  pub two : 2 ≤ length nodes
  pub interval : IsInterval nodes (get_or roots 0 0) since until

pub whole : (nodes : List Op) (roots : List ℕ) (since until : ℕ) → terms_in nodes roots ≡ lifespan_check since until
    → IsWhole nodes roots since until
whole nodes [] since until e = absurd (cc (e))
whole nodes (r ∷ []) since until e = let f = found nodes r since until e in record { one = refl; two = f.0; interval = f.1 }
whole nodes (r ∷ s ∷ roots) since until e = absurd (cc (e))

-- and conversely
pub meant_by : (nodes : List Op) (roots : List ℕ) (since until : ℕ) → IsWhole nodes roots since until
    → terms_in nodes roots ≡ lifespan_check since until
meant_by nodes [] since until w = absurd (omega (arith, w.one))
meant_by nodes (r ∷ []) since until w = meant nodes r since until w.two w.interval
meant_by nodes (r ∷ s ∷ roots) since until w = absurd (omega (arith, w.one))

-- a root has one node, so one pair of sides
pub one_left : (nodes : List Op) (root since until a b : ℕ) → IsInterval nodes root since until
    → slice_get nodes root ≡ Some (Binary less a b) → slice_get nodes a ≡ Some (Column 1 since)
one_left nodes root since until a b i top =
    let same : i.left ≡ a = cc (i.top, top) in
    subst (λ x. slice_get nodes x ≡ Some (Column 1 since)) same i.first

pub one_right : (nodes : List Op) (root since until a b : ℕ) → IsInterval nodes root since until
    → slice_get nodes root ≡ Some (Binary less a b) → slice_get nodes b ≡ Some (Column 1 until)
one_right nodes root since until a b i top =
    let same : i.right ≡ b = cc (i.top, top) in
    subst (λ x. slice_get nodes x ≡ Some (Column 1 until)) same i.second

pub untrue : IsTrue false → ⊥
untrue false_is = cc (false_is)
