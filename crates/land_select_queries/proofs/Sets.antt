-- The result of a join, as a set.
use Rattle.std.proofs.Common.{◌≡◌, ◌≤◌, ◌<◌, inl, inr, ℕ, pos, negsuc, List, [], ◌∷◌, ◌++◌, length, map, flat_map, None, Bool, true, false, cond, refl, sym, ap, ap₂, subst, ◌∙◌, true≢false, IsPermutation, IsSorted, Equal, arith}
use Rattle.std.proofs.lemmas.List.{length-map, length-take, take_all}
use Rattle.std.proofs.lemmas.List.Sorted.{length_permutation, Contains-permutation, IsPermutation-refl, IsPermutation-sym, IsPermutation-map}
use Rattle.std.specs.List.{list_all}
use Rattle.sqlite.specs.declared.types.Value.{Value}
use Rattle.sqlite.specs.declared.types.Value.TheVariants.{Int}
use Rattle.sqlite_keyed.proofs.ListLemmas.{map-map}
use Rattle.sqlite_rules.proofs.ListLemmas.{has_left, has_right, has_either, has_contained, contains_had}
use Rattle.sqlite_rules.proofs.ProbeLemmas.{has_mapped, mapped_has}
use Rattle.sqlite_rules.specs.Lists.{Has}
use Rattle.sqlite_sql.specs.Query.{Query, Join, inner, end, matches, matches_as, IsAnswer, IsAnswerAs, output, Output}
use Rattle.sqlite_sql.specs.Term.{Term, Env, lit, holds, eval_all}
use Rattle.sqlite_trees.specs.Tree.{Trees}
use Rattle.sqlite_value.specs.Order.{Row}

in_flat_map : {X Y : Type 0} (f : X → List Y) (xs : List X) (y : Y) → Has (flat_map f xs) y → (x : X) × Has xs x × Has (f x) y
in_flat_map f [] y h = absurd h
in_flat_map f (x ∷ xs) y h = elim (has_either (f x) (flat_map f xs) y h) [
  | inl here ↦ (x, inl refl, here)
  | inr there ↦ let more = in_flat_map f xs y there in (more.0, inr more.1, more.2)
]

to_flat_map : {X Y : Type 0} (f : X → List Y) (xs : List X) (x : X) (y : Y) → Has xs x → Has (f x) y → Has (flat_map f xs) y
to_flat_map f [] x y h k = absurd h
to_flat_map f (z ∷ xs) x y (inl same) k = has_left (f z) (flat_map f xs) y (subst (λ w. Has (f w) y) same k)
to_flat_map f (z ∷ xs) x y (inr more) k = has_right (f z) (flat_map f xs) y (to_flat_map f xs x y more k)

-- one row of each table of the join, in order
abbrev pub Fills : Trees → Join → Env → Env → Type 0
Fills db end env e = e ≡ env
Fills db (inner t more) env e = (r : Row) × Has (db t) r × Fills db more (env ++ r ∷ []) e
Fills db _ env e = ⊥

abbrev pub is_inner : Join → Bool
is_inner end = true
is_inner (inner t more) = is_inner more
is_inner _ = false

kept : {X : Type 0} (b : Bool) (x y : X) → Has (cond b (x ∷ []) []) y → (y ≡ x) × (b ≡ true)
kept true x y (inl same) = (same, refl)
kept true x y (inr none) = absurd none
kept false x y h = absurd h

matched : (db : Trees) (filter : List Term) (from : Join) (env e : Env) → is_inner from ≡ true → Has (matches db filter from env) e → Fills db from env e × (list_all (holds e) filter ≡ true)
matched db filter end env e plain h = let it = kept (list_all (holds env) filter) env e h in (it.0, subst (λ x. list_all (holds x) filter ≡ true) (sym it.0) it.1)
matched db filter (inner t more) env e plain h =
    let it = in_flat_map (λ r. matches db filter more (env ++ r ∷ [])) (db t) e h in
    let next = matched db filter more (env ++ it.0 ∷ []) e plain it.2 in
    ((it.0, it.1, next.0), next.1)
matched db filter _ env e plain h = absurd (true≢false (sym plain))

matches_all : (db : Trees) (filter : List Term) (from : Join) (env e : Env) → is_inner from ≡ true → Fills db from env e → list_all (holds e) filter ≡ true → Has (matches db filter from env) e
matches_all db filter end env e plain h passed =
    let here : list_all (holds env) filter ≡ true = subst (λ x. list_all (holds x) filter ≡ true) h passed in rw here (inl h)
matches_all db filter (inner t more) env e plain h passed =
    to_flat_map (λ r. matches db filter more (env ++ r ∷ [])) (db t) h.0 e h.1 (matches_all db filter more (env ++ h.0 ∷ []) e plain h.2 passed)
matches_all db filter _ env e plain h passed = absurd (true≢false (sym plain))

-- no DISTINCT, ORDER BY, MAX_COORDINATE or GROUP BY
abbrev pub plainly : Join → List Term → List Term → Query
plainly from filter project =
    record { from = from; filter = filter; group = None; project = project; distinct = false; collations = []; order = []; limit = lit (Int (negsuc 0)); offset = lit (Int (pos 0)) }

-- the same with a limit on the number of rows
abbrev pub cut : (most : ℕ) → Join → List Term → List Term → Query
cut most from filter project = record (plainly from filter project) { limit = lit (Int (pos most)) }

-- fewer rows than the limit: no row was cut off
pub uncut : (most : ℕ) (from : Join) (filter project : List Term) (db : Trees) (params : Row) (rows : List Row) → length rows < most → IsAnswer (cut most from filter project) db params rows
    → IsAnswer (plainly from filter project) db params rows
uncut most from filter project db params rows few a =
    let all = map (λ (o : Output). o.1) a.ordered in
    let long = length-take most all in
    let short = subst (λ l. length l < most) a.shown few in
    record {
      staged = a.staged;
      grouped = a.grouped;
      kept = a.kept;
      distinct = a.distinct;
      ordered = a.ordered;
      same = a.same;
      sorted = a.sorted;
      shown = a.shown ∙ take_all most all (omega (arith, long, short));
    }

-- the result has at most as many rows as match
pub no_more : (most : ℕ) (from : Join) (filter project : List Term) (db : Trees) (params : Row) (rows : List Row) → IsAnswer (cut most from filter project) db params rows
    → length rows ≤ length (matches db filter from (params ∷ []))
no_more most from filter project db params rows a =
    let all = matches db filter from (params ∷ []) in
    let shown = map (λ (o : Output). o.1) a.ordered in
    let is_cut = ap length a.shown ∙ length-take most shown in
    let ordered = length-map a.ordered (λ (o : Output). o.1) ∙ length_permutation a.kept a.ordered a.same in
    let kept = ap length a.distinct ∙ length-map a.staged (output (cut most from filter project)) ∙ ap length a.grouped in
    omega (arith, is_cut, ordered, kept)

module _ (from : Join) (filter project : List Term) (plain : is_inner from ≡ true) (db : Trees) (params : Row) (rows : List Row) where
  shown_all : (a : IsAnswer (plainly from filter project) db params rows) → IsPermutation (map (eval_all project) (matches db filter from (params ∷ []))) rows
  shown_all a =
      let q = plainly from filter project in
      let all = matches db filter from (params ∷ []) in
      let kept : a.kept ≡ map (output q) all = a.distinct ∙ ap (map (output q)) a.grouped in
      let moved = IsPermutation-map (λ (o : Output). o.1) a.kept a.ordered a.same in
      subst (λ l. IsPermutation l rows) (ap (map (λ (o : Output). o.1)) kept ∙ map-map (λ (o : Output). o.1) (output q) all)
      (subst (IsPermutation (map (λ (o : Output). o.1) a.kept)) (sym a.shown) moved)

  -- each row of a result comes from rows of the tables that pass
  pub answered : IsAnswer (plainly from filter project) db params rows → (row : Row) → Has rows row
      → (e : Env) × Fills db from (params ∷ []) e × (list_all (holds e) filter ≡ true) × (row ≡ eval_all project e)
  answered a row has =
      let all = matches db filter from (params ∷ []) in
      let found = has_contained _ row (Contains-permutation rows _ row (IsPermutation-sym _ rows (shown_all a)) (contains_had rows row has)) in
      let from_env = has_mapped (eval_all project) all row found in
      let fills = matched db filter from (params ∷ []) from_env.0 plain from_env.1 in
      (from_env.0, fills.0, fills.1, from_env.2)

  -- and all rows that pass are in the result
  pub answers : IsAnswer (plainly from filter project) db params rows → (e : Env) → Fills db from (params ∷ []) e → list_all (holds e) filter ≡ true → Has rows (eval_all project e)
  answers a e fills passed =
      let all = matches db filter from (params ∷ []) in
      has_contained rows _ (Contains-permutation _ rows _ (shown_all a) (contains_had _ _ (mapped_has (eval_all project) all e (matches_all db filter from (params ∷ []) e plain fills passed))))

-- ---- existence of a result

any_order : (xs : List Output) → IsSorted (λ (a b : Output). Equal) xs
any_order xs k d low high = refl

flat_alike : {X Y : Type 0} (f g : X → List Y) → ((x : X) → f x ≡ g x) → (xs : List X) → flat_map f xs ≡ flat_map g xs
flat_alike f g same [] = refl
flat_alike f g same (x ∷ xs) = ap₂ ◌++◌ (same x) (flat_alike f g same xs)

-- without outer joins no row is lost
alike : (lost : Value) (db : Trees) (filter : List Term) (from : Join) (env : Env) → is_inner from ≡ true → matches_as lost db filter from env ≡ matches db filter from env
alike lost db filter end env plain = refl
alike lost db filter (inner t more) env plain = flat_alike _ _ (λ r. alike lost db filter more (env ++ r ∷ []) plain) (db t)
alike lost db filter _ env plain = absurd (true≢false (sym plain))

abbrev pub answer_of : Join → List Term → List Term → Trees → Row → List Row
answer_of from filter project db params = map (eval_all project) (matches db filter from (params ∷ []))

pub is_answer : (from : Join) (filter project : List Term) (db : Trees) (params : Row) → is_inner from ≡ true → (lost : Value)
    → IsAnswerAs lost (plainly from filter project) db params (answer_of from filter project db params)
is_answer from filter project db params plain lost =
    let found = matches db filter from (params ∷ []) in
    let all = map (output (plainly from filter project)) found in
    record {
      staged = found;
      grouped = sym (alike lost db filter from (params ∷ []) plain);
      kept = all;
      distinct = refl;
      ordered = all;
      same = IsPermutation-refl all;
      sorted = any_order all;
      shown = sym (map-map _ _ _);
    }
