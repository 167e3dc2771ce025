-- The number of matches of a join: by rows and by the versions of these.
use Rattle.std.proofs.Common.{◌≡◌, inl, inr, ℕ, ℤ, ◌+◌, List, [], ◌∷◌, ◌++◌, length, map, Bool, true, false, ◌&&◌, cond, int_le, int_lt, filter, Result, Ok, Err, refl, sym, ap, ap₂, subst, ◌∙◌, IsPermutation, arith}
use Rattle.std.proofs.lemmas.Bool.{and_from, and_parts}
use Rattle.std.proofs.lemmas.List.Concat.{length-flat_map}
use Rattle.std.proofs.lemmas.List.Sorted.{sum_by-IsPermutation}
use Rattle.std.proofs.lemmas.List.Sums.{sum_by-cons}
use Rattle.std.specs.Bool.{Decides}
use Rattle.std.specs.List.{list_all, sum_by, count_by}
use Rattle.land_select_queries.proofs.Joined.{ForAll, from, is_whole}
use Rattle.land_select_queries.proofs.Places.{Place, What, keeps, read_of, row_decoder, shape, shows, tree, versions}
use Rattle.land_select_queries.proofs.Shapes.{AreShapes, all_decided, are_known, is_shape, shape_itself, shapes_more}
use Rattle.land_tables_history.specs.Standing.{is_current, current_values}
use Rattle.land_tables_history.specs.declared.history.History.{History}
use Rattle.land_tables_history.specs.declared.moment.Moment.{Moment}
use Rattle.land_tables_history.specs.declared.version.Version.{Version}
use Rattle.land_tables_rows.specs.Writing.History.{HoldsHistory}
use Rattle.land_tables_schema.specs.Rows.ReadQueries.{columns_from}
use Rattle.land_wire_json.specs.declared.bodies.wire_fault.WireFault.{WireFault}
use Rattle.sqlite_rules.specs.Lists.{Has}
use Rattle.sqlite_sql.specs.Query.{matches}
use Rattle.sqlite_sql.specs.Term.{Term, Env, eval, holds}
use Rattle.sqlite_trees.specs.Tree.{Trees}
use Rattle.sqlite_value.specs.Order.{Row}

pub same_bool : (a b : Bool) → (a ≡ true → b ≡ true) → (b ≡ true → a ≡ true) → a ≡ b
same_bool true b f g = sym (f refl)
same_bool false true f g = g refl
same_bool false false f g = refl

-- ---- sums

sum_alike : {X : Type 0} (f g : X → ℕ) (xs : List X) → ((x : X) → Has xs x → f x ≡ g x) → sum_by f xs ≡ sum_by g xs
sum_alike f g [] same = refl
sum_alike f g (x ∷ xs) same =
    sum_by-cons f x xs ∙ ap₂ ◌+◌ (same x (inl refl)) (sum_alike f g xs (λ y has. same y (inr has))) ∙ sym (sum_by-cons g x xs)

sum_mapped : {X Y : Type 0} (f : Y → ℕ) (g : X → Y) (xs : List X) → sum_by f (map g xs) ≡ sum_by (λ x. f (g x)) xs
sum_mapped f g [] = refl
sum_mapped f g (x ∷ xs) = sum_by-cons f (g x) (map g xs) ∙ ap (λ n. f (g x) + n) (sum_mapped f g xs) ∙ sym (sum_by-cons (λ x. f (g x)) x xs)

zeros : {X : Type 0} (xs : List X) → sum_by (λ x. 0) xs ≡ 0
zeros [] = refl
zeros (x ∷ xs) = sum_by-cons (λ x. 0) x xs ∙ ap (λ n. 0 + n) (zeros xs)

-- of the current versions
sum_standing : {X : Type 0} (t : ℤ) (f : X → ℕ) (vs : List (Version X)) → sum_by (λ v. cond (is_current t v) (f v.what) 0) vs ≡ sum_by f (current_values t vs)
sum_standing t f [] = refl
sum_standing {X} t f (v ∷ vs) = sum_by-cons (λ v. cond (is_current t v) (f v.what) 0) v vs ∙ ap (λ n. cond (is_current t v) (f v.what) 0 + n) (sum_standing t f vs) ∙ go (is_current t v)
  where
    go : (b : Bool) → cond b (f v.what) 0 + sum_by f (current_values t vs) ≡ sum_by f (map (λ v. v.what) (cond b (v ∷ filter (is_current t) vs) (filter (is_current t) vs)))
    go true = sym (sum_by-cons f v.what (current_values t vs))
    go false = let none : 0 + sum_by f (current_values t vs) ≡ sum_by f (current_values t vs) = omega arith in none

module _ (t : ℤ) where
  level : {X : Type 0} (vs : List (Version X)) (f : Version X → ℕ) (g : X → ℕ) → ((v : Version X) → f v ≡ cond (is_current t v) (g v.what) 0) → sum_by f vs ≡ sum_by g (current_values t vs)
  level vs f g same = sum_alike f (λ v. cond (is_current t v) (g v.what) 0) vs (λ v has. same v) ∙ sum_standing t g vs

  both : (a b : Bool) → ◌≡◌ {A = ℕ} (cond (a && b) 1 0) (cond a (cond b 1 0) 0)
  both true b = refl
  both false b = refl

  one : {X : Type 0} (a : Bool) (vs : List (Version X)) (passes : Version X → Bool) (test : X → Bool) → ((v : Version X) → passes v ≡ (a && (is_current t v && test v.what)))
      → sum_by (λ v. cond (passes v) 1 0) vs ≡ cond a (count_by test (current_values t vs)) 0
  one true vs passes test same = level vs (λ v. cond (passes v) 1 0) (λ x. cond (test x) 1 0) (λ v. ap (λ c. cond c 1 0) (same v) ∙ both (is_current t v) (test v.what))
  one false vs passes test same = sum_alike (λ v. cond (passes v) 1 0) (λ v. 0) vs (λ v has. ap (λ c. cond c 1 0) (same v)) ∙ zeros vs

  pub two : {X Y : Type 0} (a : Bool) (vs : List (Version X)) (ws : List (Version Y)) (passes : Version X → Version Y → Bool) (test : X → Y → Bool)
      → ((v : Version X) (w : Version Y) → passes v w ≡ (a && (is_current t v && (is_current t w && test v.what w.what))))
      → sum_by (λ v. sum_by (λ w. cond (passes v w) 1 0) ws) vs ≡ cond a (sum_by (λ x. count_by (test x) (current_values t ws)) (current_values t vs)) 0
  two true vs ws passes test same =
      level vs (λ v. sum_by (λ w. cond (passes v w) 1 0) ws) (λ x. count_by (test x) (current_values t ws)) (λ v. one (is_current t v) ws (passes v) (test v.what) (same v))
  two false vs ws passes test same =
      sum_alike (λ v. sum_by (λ w. cond (passes v w) 1 0) ws) (λ v. 0) vs (λ v has. one false ws (passes v) (test v.what) (same v)) ∙ zeros vs

  pub three : {X Y Z : Type 0} (us : List (Version X)) (vs : List (Version Y)) (ws : List (Version Z)) (passes : Version X → Version Y → Version Z → Bool) (test : X → Y → Z → Bool)
      → ((u : Version X) (v : Version Y) (w : Version Z) → passes u v w ≡ (is_current t u && (is_current t v && (is_current t w && test u.what v.what w.what))))
      → sum_by (λ u. sum_by (λ v. sum_by (λ w. cond (passes u v w) 1 0) ws) vs) us
      ≡ sum_by (λ x. sum_by (λ y. count_by (test x y) (current_values t ws)) (current_values t vs)) (current_values t us)
  three us vs ws passes test same =
      level us (λ u. sum_by (λ v. sum_by (λ w. cond (passes u v w) 1 0) ws) vs) (λ x. sum_by (λ y. count_by (test x y) (current_values t ws)) (current_values t vs))
      (λ u. two (is_current t u) vs ws (passes u) (test u.what) (same u))

-- ---- matches

-- by versions of these tables, in order
abbrev pub ways_through : History → List Place → (Env → Bool) → Env → ℕ
ways_through h [] passes s = cond (passes s) 1 0
ways_through h (p ∷ ps) passes s = sum_by (λ v. ways_through h ps passes (s ++ shape p v ∷ [])) (versions p h)

one_way : (b : Bool) (e : Env) → length (cond b (e ∷ []) []) ≡ cond b 1 0
one_way true e = refl
one_way false e = refl

module _ (db over : Trees) (stored : (p : Place) → over (tree p) ≡ db (tree p)) (moments : List Moment) (h : History) (held : HoldsHistory db moments h) (filter : List Term) (shown : Term) where
  abbrev passes : Env → Bool
  passes e = list_all (holds e) filter

  abbrev Sure : Env → Type 0
  Sure s = (are_known filter s && is_whole (eval shown s)) ≡ true

  -- terms that hold of shapes hold of their rows
  as_shapes : (s env : Env) → AreShapes s env → AreShapes s s → Sure s → passes env ≡ passes s
  as_shapes s env shapes itself sure =
      let known = (and_parts (are_known filter s) (is_whole (eval shown s)) sure).0 in
      let rows = all_decided filter s env shapes known in
      let same = all_decided filter s s itself known in
      same_bool (passes env) (passes s) (λ e. same.1 (rows.0 e)) (λ e. rows.1 (same.0 e))

  by_version : (p : Place) (ps : List Place) (s : Env) → Result (Version (What p)) WireFault → ℕ
  by_version p ps s (Ok v) = ways_through h ps passes (s ++ shape p v ∷ [])
  by_version p ps s (Err e) = 0

  abbrev saying : (p : Place) → Row → Result (Version (What p)) WireFault
  saying p r = (row_decoder p).said (columns_from 1 (row_decoder p).width r)

  -- there are as many matches of rows as of versions
  pub counted : (ps : List Place) (s env : Env) → AreShapes s env → AreShapes s s → ForAll ps Sure s → length (matches over filter (from ps) env) ≡ ways_through h ps passes s
  unfolding by_version
  counted [] s env shapes itself sure = one_way (passes env) env ∙ ap (λ b. cond b 1 0) (as_shapes s env shapes itself sure)
  counted (p ∷ ps) s env shapes itself sure =
      let rows = over (tree p) in
      let fine : Version (What p) → Result (Version (What p)) WireFault = λ v. Ok v in
      let said = subst (λ l. IsPermutation (map (saying p) l) (map fine (versions p h))) (sym (stored p)) (keeps db moments h held p).said in
      length-flat_map (λ r. matches over filter (from ps) (env ++ r ∷ [])) rows
      ∙ sum_alike (λ r. length (matches over filter (from ps) (env ++ r ∷ []))) (λ r. by_version p ps s (saying p r)) rows
      (λ r has.
      let it = read_of db moments h held p r (subst (λ l. Has l r) (stored p) has) in
      let seen = shape p it.0 in
      let fits = is_shape seen r (shows p r it.0 it.2).0 in
      counted ps (s ++ seen ∷ []) (env ++ r ∷ []) (shapes_more s env seen r shapes fits) (shapes_more s s seen seen itself (shape_itself seen)) (sure it.0) ∙ ap (by_version p ps s) (sym it.2))
      ∙ sym (sum_mapped (by_version p ps s) (saying p) rows)
      ∙ sym (sum_by-IsPermutation (by_version p ps s) (map (saying p) rows) (map fine (versions p h)) said)
      ∙ sum_mapped (by_version p ps s) fine (versions p h)

-- ---- tests

-- current versions with a property
abbrev pub Lives : {X : Type 0} → (t : ℤ) → Version X → Type 0 → Type 0
Lives t v Rest = (int_le v.since t ≡ true) × ((int_lt t v.until ≡ true) × Rest)

pub lives : {X : Type 0} {Rest : Type 0} (t : ℤ) (v : Version X) (rest : Bool) → Decides rest Rest → Decides (is_current t v && rest) (Lives t v Rest)
lives t v rest d = (
  (λ e.
      let both = and_parts (is_current t v) rest e in
      let life = and_parts (int_le v.since t) (int_lt t v.until) both.0 in
      (life.0, (life.1, d.0 both.1))),
  (λ p. and_from (is_current t v) rest (and_from (int_le v.since t) (int_lt t v.until) p.0 p.1.0) (d.1 p.1.1)),
)
