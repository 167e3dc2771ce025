-- The walk of matchit on rows that begin with words, if none of the words begins another one.
use Rattle.std.proofs.Common.{◌≡◌, ◌<◌, ℕ, zero, suc, ◌-◌, List, [], ◌∷◌, ◌++◌, length, drop, Option, Some, None, refl, sym, ap, ◌∙◌, arith, true, false, cond, Bool, not, ◌==◌, ◌&&◌, ltb, nat_eq, codes, bytes_eq}
use Rattle.std.proofs.lemmas.Bool.Decides.{nat_tests}
use Rattle.std.specs.Cmp.Lexicographic.{pointwise}
use Rattle.std.proofs.lemmas.Bool.{and_parts}
use Rattle.land_core.proofs.Booleans.{and_false}
use Rattle.land_wire.specs.Routes.{without_prefix, before_slash, from_slash, has_slash, is_empty, is_segment, if_matched}
use Rattle.land_wire.specs.Routes.Table.{AreBytes}
use Rattle.matchit.specs.Rows.{RowsOf}
use Rattle.matchit.specs.Seek.{seek, own, or_else, step, param_step, longest_suffix, cuts, segment, has_slash as slashed}

-- ---- tests

one_less : (n : ℕ) → suc n - 1 ≡ n
one_less n = omega arith

two_less : (n : ℕ) → suc (suc n) - 1 - 1 ≡ n
two_less n = omega arith

no_token : (b : ℕ) → b < 256 → (256 == b) ≡ false
no_token b small = grind arith

same_slash : (p : List ℕ) → slashed p ≡ has_slash p
same_slash [] = refl
same_slash (b ∷ p) = elim (b == 47) as (λ v. cond v true (slashed p) ≡ cond v true (has_slash p)) [ true ↦ refl | false ↦ same_slash p ]

-- ---- walks

or_none : (K : Type 0) (o : Option K) → or_else o None ≡ o
or_none K None = refl
or_none K (Some k) = refl

no_rows : (K : Type 0) (p : List ℕ) → (param_step {K = K} [] p).1 ≡ []
unfolding param_step
no_rows K p = elim (slashed p) as (λ v. (cond {A = ℕ × RowsOf K} v (0, []) (length p, [])).1 ≡ []) [ true ↦ refl | false ↦ refl ]

pub seek_none : (K : Type 0) (k : ℕ) (p : List ℕ) → seek {K = K} k [] p ≡ None
unfolding seek
seek_none K k [] = refl
seek_none K (suc k) (b ∷ p) = seek_none K k p
seek_none K zero (b ∷ p) = simp (seek_none K 0 p, no_rows K (b ∷ p), seek_none K ((param_step {K = K} [] (b ∷ p)).0 - 1) p)

seek_all : (K : Type 0) (rs : RowsOf K) (n : List ℕ) → seek {K = K} (length n) rs n ≡ own rs
unfolding seek
seek_all K rs [] = refl
seek_all K rs (b ∷ n) = seek_all K rs n

pub seek_end : (K : Type 0) (rs : RowsOf K) → seek {K = K} 0 rs [] ≡ own rs
unfolding seek
seek_end K rs = refl

-- a byte that only fixed tokens take
pub one_step : (K : Type 0) (c : ℕ) (p : List ℕ) (rs : RowsOf K) → step 256 rs ≡ [] → step 257 rs ≡ []
    → seek 0 rs (c ∷ p) ≡ seek 0 (step c rs) p
unfolding seek
one_step K c p rs params catches =
    simp (params, catches, no_rows K (c ∷ p), seek_none K ((param_step {K = K} [] (c ∷ p)).0 - 1) p, or_none K (seek 0 (step c rs) p))

-- a byte that only parameters take
one_param : (K : Type 0) (c : ℕ) (p : List ℕ) (rs : RowsOf K) → step c rs ≡ [] → step 257 rs ≡ []
    → seek 0 rs (c ∷ p) ≡ seek ((param_step (step 256 rs) (c ∷ p)).0 - 1) (param_step (step 256 rs) (c ∷ p)).1 p
unfolding seek
one_param K c p rs fixed catches =
    simp (fixed, catches, seek_none K 0 p, or_none K (seek ((param_step (step 256 rs) (c ∷ p)).0 - 1) (param_step (step 256 rs) (c ∷ p)).1 p))

-- ---- words

-- the rows with a word before them
abbrev pub fronted : {K : Type 0} → List ℕ → RowsOf K → RowsOf K
fronted w [] = []
fronted w ((t, k) ∷ rest) = (w ++ t, k) ∷ fronted w rest

abbrev pub Groups : Type 0 → Type 0
Groups K = List (List ℕ × RowsOf K)

abbrev pub spread : {K : Type 0} → Groups K → RowsOf K
spread [] = []
spread ((w, rows) ∷ gs) = fronted w rows ++ spread gs

-- the words that continue with this byte, without it
abbrev advance : {K : Type 0} → ℕ → Groups K → Groups K
advance b [] = []
advance b (([], rows) ∷ gs) = advance b gs
advance b ((x ∷ w, rows) ∷ gs) = cond (x == b) ((w, rows) ∷ advance b gs) (advance b gs)

-- by the first word that begins the path
abbrev pub pick : {K : Type 0} → Groups K → List ℕ → Option K
pick [] p = None
pick ((w, rows) ∷ gs) p = if_matched (without_prefix w p) (λ rest. seek 0 rows rest) (pick gs p)

-- neither word begins the other
abbrev differ : List ℕ → List ℕ → Bool
differ [] v = false
differ (x ∷ w) [] = false
differ (x ∷ w) (y ∷ v) = cond (x == y) (differ w v) true

abbrev differs : {K : Type 0} → List ℕ → Groups K → Bool
differs w [] = true
differs w ((v, rows) ∷ gs) = differ w v && differs w gs

abbrev pub are_apart : {K : Type 0} → Groups K → Bool
are_apart [] = true
are_apart ((w, rows) ∷ gs) = differs w gs && are_apart gs

-- each word has a byte
abbrev are_long : {K : Type 0} → Groups K → Bool
are_long [] = true
are_long (([], rows) ∷ gs) = false
are_long ((x ∷ w, rows) ∷ gs) = are_long gs

-- the words consist of bytes
abbrev is_text : List ℕ → Bool
is_text [] = true
is_text (x ∷ w) = ltb x 256 && is_text w

abbrev pub are_texts : {K : Type 0} → Groups K → Bool
are_texts [] = true
are_texts ((w, rows) ∷ gs) = is_text w && are_texts gs

step-append : (K : Type 0) (b : ℕ) (x y : RowsOf K) → step b (x ++ y) ≡ step b x ++ step b y
step-append K b [] y = refl
step-append K b (([], k) ∷ r) y = step-append K b r y
step-append K b ((a ∷ t, k) ∷ r) y =
    elim (a == b) as (λ v. cond v ((t, k) ∷ step b (r ++ y)) (step b (r ++ y)) ≡ cond v ((t, k) ∷ step b r) (step b r) ++ step b y) [
      | true ↦ ap (λ x. (t, k) ∷ x) (step-append K b r y)
      | false ↦ step-append K b r y
    ]

step-fronted : (K : Type 0) (b x : ℕ) (w : List ℕ) (rows : RowsOf K) → step b (fronted (x ∷ w) rows) ≡ cond (x == b) (fronted w rows) []
step-fronted K b x w [] = by (x == b)
  where
    by : (v : Bool) → step {K = K} b [] ≡ cond v (fronted {K = K} w []) []
    by true = refl
    by false = refl
step-fronted K b x w ((t, k) ∷ rest) = by (x == b) (step b (fronted (x ∷ w) rest)) (step-fronted K b x w rest)
  where
    by : (v : Bool) (r : RowsOf K) → r ≡ cond v (fronted w rest) [] → cond v ((w ++ t, k) ∷ r) r ≡ cond v ((w ++ t, k) ∷ fronted w rest) []
    by true r e = ap (λ r. (w ++ t, k) ∷ r) e
    by false r e = e

step-spread : (K : Type 0) (b : ℕ) (gs : Groups K) → are_long gs ≡ true → step b (spread gs) ≡ spread (advance b gs)
step-spread K b [] long = refl
step-spread K b (([], rows) ∷ gs) long = cc
step-spread K b ((x ∷ w, rows) ∷ gs) long =
    step-append K b (fronted (x ∷ w) rows) (spread gs)
    ∙ rw (step-fronted K b x w rows, step-spread K b gs long) (by (x == b))
  where
    by : (v : Bool) → cond v (fronted w rows) [] ++ spread (advance b gs) ≡ spread (cond v ((w, rows) ∷ advance b gs) (advance b gs))
    by true = refl
    by false = refl

not_above : (x token : ℕ) → ltb x 256 ≡ true → (token < 256 → ⊥) → (x == token) ≡ false
not_above x token below above = grind (arith, nat_tests)

-- words continue only with tokens that are bytes
none_advance : (K : Type 0) (token : ℕ) (gs : Groups K) → (token < 256 → ⊥) → are_texts gs ≡ true → advance token gs ≡ []
none_advance K token [] above texts = refl
none_advance K token (([], rows) ∷ gs) above texts = none_advance K token gs above texts
none_advance K token ((x ∷ w, rows) ∷ gs) above texts =
    let t = and_parts (is_text (x ∷ w)) (are_texts gs) texts in
    let s = and_parts (ltb x 256) (is_text w) t.0 in
    let other = not_above x token s.0 above in
    rw other (none_advance K token gs above t.1)

own-append : (K : Type 0) (x y : RowsOf K) → own x ≡ None → own (x ++ y) ≡ own y
own-append K [] y e = refl
own-append K (([], k) ∷ r) y e = cc
own-append K ((a ∷ t, k) ∷ r) y e = own-append K r y e

own-fronted : (K : Type 0) (x : ℕ) (w : List ℕ) (rows : RowsOf K) → own (fronted (x ∷ w) rows) ≡ None
own-fronted K x w [] = refl
own-fronted K x w ((t, k) ∷ rest) = own-fronted K x w rest

own-spread : (K : Type 0) (gs : Groups K) → are_long gs ≡ true → own (spread gs) ≡ None
own-spread K [] long = refl
own-spread K (([], rows) ∷ gs) long = cc
own-spread K ((x ∷ w, rows) ∷ gs) long = own-append K (fronted (x ∷ w) rows) (spread gs) (own-fronted K x w rows) ∙ own-spread K gs long

pick-nil : (K : Type 0) (gs : Groups K) → are_long gs ≡ true → pick gs [] ≡ None
pick-nil K [] long = refl
pick-nil K (([], rows) ∷ gs) long = cc
pick-nil K ((x ∷ w, rows) ∷ gs) long = pick-nil K gs long

pick-advance : (K : Type 0) (b : ℕ) (p : List ℕ) (gs : Groups K) → are_long gs ≡ true → pick gs (b ∷ p) ≡ pick (advance b gs) p
pick-advance K b p [] long = refl
pick-advance K b p (([], rows) ∷ gs) long = cc
pick-advance K b p ((x ∷ w, rows) ∷ gs) long = by (x == b) (pick gs (b ∷ p)) (pick-advance K b p gs long)
  where
    by : (v : Bool) (other : Option K) → other ≡ pick (advance b gs) p
        → if_matched (cond v (without_prefix w p) None) (λ rest. seek 0 rows rest) other ≡ pick (cond v ((w, rows) ∷ advance b gs) (advance b gs)) p
    by true other e = ap (if_matched (without_prefix w p) (λ rest. seek 0 rows rest)) e
    by false other e = e

texts-advance : (K : Type 0) (b : ℕ) (gs : Groups K) → are_texts gs ≡ true → are_texts (advance b gs) ≡ true
texts-advance K b [] texts = refl
texts-advance K b (([], rows) ∷ gs) texts = texts-advance K b gs texts
texts-advance K b ((x ∷ w, rows) ∷ gs) texts =
    let t = and_parts _ _ texts in
    by (x == b) (and_parts _ _ t.0).1 (texts-advance K b gs t.1)
  where
    by : (v : Bool) → is_text w ≡ true → are_texts (advance b gs) ≡ true → are_texts (cond v ((w, rows) ∷ advance b gs) (advance b gs)) ≡ true
    by true e f = rw (e, f) refl
    by false e f = f

differs-advance : (K : Type 0) (b x : ℕ) (w : List ℕ) (gs : Groups K) → (x == b) ≡ true → differs (x ∷ w) gs ≡ true → differs w (advance b gs) ≡ true
differs-advance K b x w [] same e = refl
differs-advance K b x w (([], rows) ∷ gs) same e = cc
differs-advance K b x w ((y ∷ v, rows) ∷ gs) same e =
    let d = and_parts _ _ e in
    by (y == b) refl (and_parts _ _ e).0 (differs-advance K b x w gs same d.1)
  where
    by : (t : Bool) → (y == b) ≡ t → differ (x ∷ w) (y ∷ v) ≡ true → differs w (advance b gs) ≡ true → differs w (cond t ((v, rows) ∷ advance b gs) (advance b gs)) ≡ true
    by true here d f =
        let xy : (x == y) ≡ true = grind arith in
        let e : differ w v ≡ true = rw xy at d in
        rw (e, f) refl
    by false here d f = f

apart-advance : (K : Type 0) (b : ℕ) (gs : Groups K) → are_apart gs ≡ true → are_apart (advance b gs) ≡ true
apart-advance K b [] e = refl
apart-advance K b (([], rows) ∷ gs) e = apart-advance K b gs (and_parts _ _ e).1
apart-advance K b ((x ∷ w, rows) ∷ gs) e =
    by (x == b) refl (and_parts _ _ e).0 (apart-advance K b gs (and_parts _ _ e).1)
  where
    by : (v : Bool) → (x == b) ≡ v → differs (x ∷ w) gs ≡ true → are_apart (advance b gs) ≡ true → are_apart (cond v ((w, rows) ∷ advance b gs) (advance b gs)) ≡ true
    by true here d f = rw (differs-advance K b x w gs here d, f) refl
    by false here d f = f

long_from_differs : (K : Type 0) (w : List ℕ) (gs : Groups K) → differs w gs ≡ true → are_long gs ≡ true
long_from_differs K w [] e = refl
long_from_differs K [] (([], rows) ∷ gs) e = cc
long_from_differs K (x ∷ w) (([], rows) ∷ gs) e = cc
long_from_differs K w ((y ∷ v, rows) ∷ gs) e = long_from_differs K w gs (and_parts _ _ e).1

fronted-nil : (K : Type 0) (rows : RowsOf K) → fronted [] rows ++ [] ≡ rows
fronted-nil K [] = refl
fronted-nil K ((t, k) ∷ rest) = ap (λ r. (t, k) ∷ r) (fronted-nil K rest)

by_byte : (K : Type 0) (b : ℕ) (p : List ℕ) (gs : Groups K) → are_long gs ≡ true → are_texts gs ≡ true
    → seek 0 (spread (advance b gs)) p ≡ pick (advance b gs) p → seek 0 (spread gs) (b ∷ p) ≡ pick gs (b ∷ p)
by_byte K b p gs long texts onward =
    one_step K b p (spread gs) (step-spread K 256 gs long ∙ ap spread (none_advance K 256 gs (λ h. omega arith) texts))
    (step-spread K 257 gs long ∙ ap spread (none_advance K 257 gs (λ h. omega arith) texts))
    ∙ ap (λ r. seek 0 r p) (step-spread K b gs long)
    ∙ onward ∙ sym (pick-advance K b p gs long)

-- if none of the words begins another one, the path continues by the one that begins it
pub seek_by_words : (K : Type 0) (p : List ℕ) (gs : Groups K) → are_apart gs ≡ true → are_texts gs ≡ true → seek 0 (spread gs) p ≡ pick gs p
seek_by_words K p [] apart texts = seek_none K 0 p
seek_by_words K p (([], rows) ∷ []) apart texts = ap (λ r. seek 0 r p) (fronted-nil K rows)
seek_by_words K p (([], rows) ∷ (([], other) ∷ gs)) apart texts = cc
seek_by_words K p (([], rows) ∷ ((y ∷ v, other) ∷ gs)) apart texts = cc
seek_by_words K [] ((x ∷ w, rows) ∷ gs) apart texts =
    let long = long_from_differs K (x ∷ w) gs (and_parts _ _ apart).0 in
    seek_end K (spread ((x ∷ w, rows) ∷ gs)) ∙ own-spread K ((x ∷ w, rows) ∷ gs) long ∙ sym (pick-nil K ((x ∷ w, rows) ∷ gs) long)
seek_by_words K (b ∷ p) ((x ∷ w, rows) ∷ gs) apart texts =
    let long = long_from_differs K (x ∷ w) gs (and_parts _ _ apart).0 in
    by_byte K b p ((x ∷ w, rows) ∷ gs) long texts
    (seek_by_words K p (advance b ((x ∷ w, rows) ∷ gs)) (apart-advance K b ((x ∷ w, rows) ∷ gs) apart) (texts-advance K b ((x ∷ w, rows) ∷ gs) texts))

-- ---- segments

-- a parameter at the end
pub last_param : (K : Type 0) (k : K) (p : List ℕ) → AreBytes p → seek 0 ((256 ∷ [], k) ∷ []) p ≡ cond (is_segment p) (Some k) None
unfolding seek param_step
last_param K k [] bytes = refl
last_param K k (b ∷ p) bytes =
    simp (no_token b bytes.0, same_slash (b ∷ p)) (by (has_slash (b ∷ p)))
  where
    by : (v : Bool)
        → or_else (seek {K = K} 0 [] p) (or_else (seek {K = K} ((cond {A = ℕ × RowsOf K} v (0, []) (suc (length p), ([], k) ∷ [])).0 - 1) (cond {A = ℕ × RowsOf K} v (0, []) (suc (length p), ([], k) ∷ [])).1 p) None) ≡ cond (not v) (Some k) None
    by true = simp (seek_none K 0 p)
    by false = simp (seek_none K 0 p, one_less (length p), seek_all K (([], k) ∷ []) p)

-- fixed words up to the end
last_word : (K : Type 0) (k : K) (w p : List ℕ) → is_text w ≡ true → seek 0 ((w, k) ∷ []) p ≡ cond (bytes_eq p w) (Some k) None
unfolding seek
last_word K k [] [] text = refl
last_word K k [] (c ∷ p) text = simp (seek_none K 0 p, no_rows K (c ∷ p), seek_none K ((param_step {K = K} [] (c ∷ p)).0 - 1) p)
last_word K k (x ∷ w) [] text = refl
last_word K k (x ∷ w) (c ∷ p) text =
    let t = and_parts (ltb x 256) (is_text w) text in
    let params = not_above x 256 t.0 (λ h. omega arith) in
    let catches = not_above x 257 t.0 (λ h. omega arith) in
    one_step K c p ((x ∷ w, k) ∷ []) (rw params refl) (rw catches refl) ∙ by (x == c) refl (last_word K k w p t.1)
  where
    by : (v : Bool) → (x == c) ≡ v → seek 0 ((w, k) ∷ []) p ≡ cond (bytes_eq p w) (Some k) None
        → seek 0 (cond v ((w, k) ∷ []) []) p ≡ cond (bytes_eq (c ∷ p) (x ∷ w)) (Some k) None
    by true same e = let other : (c == x) ≡ true = grind arith in rw other e
    by false same e = let other : (c == x) ≡ false = grind arith in rw other (seek_none K 0 p)

-- ---- a parameter with a word after it

-- the segment of a path ends at its slash, if it has one
ends : (b : ℕ) (q : List ℕ) → (b == 47) ≡ false → pointwise nat_eq (47 ∷ []) (drop (length (segment q)) (b ∷ segment q)) ≡ has_slash q
ends b [] e = let other : (47 == b) ≡ false = grind arith in rw other refl
ends b (c ∷ q) e = by (c == 47) refl (λ other. ends c q other)
  where
    by : (v : Bool) → (c == 47) ≡ v → ((c == 47) ≡ false → pointwise nat_eq (47 ∷ []) (drop (length (segment q)) (c ∷ segment q)) ≡ has_slash q)
        → pointwise nat_eq (47 ∷ []) (drop (length (cond v (c ∷ []) (c ∷ segment q))) (b ∷ cond v (c ∷ []) (c ∷ segment q))) ≡ cond v true (has_slash q)
    by true here e = let same : (47 == c) ≡ true = grind arith in rw same refl
    by false here e = e here

longer : (q : List ℕ) → has_slash q ≡ true → ltb 1 (suc (length (segment q))) ≡ true
longer [] e = cc
longer (c ∷ q) e = by (c == 47)
  where
    by : (v : Bool) → ltb 1 (suc (length (cond v (c ∷ []) (c ∷ segment q)))) ≡ true
    by true = refl
    by false = grind (arith, nat_tests)

-- a segment can be split before its slash, if bytes come before it
cuts_slash : (b : ℕ) (q : List ℕ) → cuts (segment (b ∷ q)) (47 ∷ []) ≡ (not (b == 47) && has_slash q)
cuts_slash b q = by (b == 47) refl
  where
    cut : (v : Bool) → has_slash q ≡ v → (b == 47) ≡ false → (ltb 1 (suc (length (segment q))) && has_slash q) ≡ has_slash q
    cut true e other = rw (longer q e, e) refl
    cut false e other = rw e (and_false (ltb 1 (suc (length (segment q)))))

    by : (v : Bool) → (b == 47) ≡ v → cuts (cond v (b ∷ []) (b ∷ segment q)) (47 ∷ []) ≡ (not v && has_slash q)
    by true here = refl
    by false here = simp (one_less (length (segment q)), ends b q here) (cut (has_slash q) refl here)

-- a walk that passes the segment
past_part : (K : Type 0) (rs : RowsOf K) (q : List ℕ) → seek {K = K} (length (before_slash q)) rs q ≡ seek 0 rs (from_slash q)
unfolding seek
past_part K rs [] = refl
past_part K rs (b ∷ q) = by (b == 47) (past_part K rs q)
  where
    by : (v : Bool) → seek {K = K} (length (before_slash q)) rs q ≡ seek 0 rs (from_slash q)
        → seek {K = K} (length (cond v [] (b ∷ before_slash q))) rs (b ∷ q) ≡ seek 0 rs (cond v (b ∷ q) (from_slash q))
    by true e = refl
    by false e = e

part_length : (q : List ℕ) → has_slash q ≡ true → length (segment q) ≡ suc (length (before_slash q))
part_length [] e = cc
part_length (b ∷ q) e = by (b == 47) e (part_length q)
  where
    by : (v : Bool) → cond v true (has_slash q) ≡ true → (has_slash q ≡ true → length (segment q) ≡ suc (length (before_slash q)))
        → length (cond v (b ∷ []) (b ∷ segment q)) ≡ suc (length (cond v [] (b ∷ before_slash q)))
    by true h e = refl
    by false h e = ap suc (e h)

-- the rows after a parameter: a word, or the end
abbrev word_or_end : {K : Type 0} → K → K → RowsOf K
word_or_end s v = (codes "/sheet", s) ∷ ([], v) ∷ []

longest_two : (K : Type 0) (s v : K) (seg : List ℕ) (t : Bool) → cuts seg (47 ∷ []) ≡ t → longest_suffix seg (word_or_end s v) ≡ cond t (47 ∷ []) []
longest_two K s v seg true e = rw e refl
longest_two K s v seg false e = rw e refl

param_two : (K : Type 0) (s v : K) (p : List ℕ) (t : Bool) → cuts (segment p) (47 ∷ []) ≡ t
    → param_step (word_or_end s v) p ≡ cond t (length (segment p) - 1, (codes "/sheet", s) ∷ []) (cond (slashed p) (0, []) (length p, word_or_end s v))
unfolding param_step
param_two K s v p true e = rw (longest_two K s v (segment p) true e) refl
param_two K s v p false e = rw (longest_two K s v (segment p) false e) refl

pub part_or_word : (K : Type 0) (s v : K) (p : List ℕ) → AreBytes p
    → seek 0 ((256 ∷ codes "/sheet", s) ∷ (256 ∷ [], v) ∷ []) p
    ≡ cond (is_segment p) (Some v) (cond (not (is_empty (before_slash p)) && bytes_eq (from_slash p) (codes "/sheet")) (Some s) None)
part_or_word K s v [] bytes = seek_end K _
part_or_word K s v (b ∷ q) bytes =
    let none : step b ((256 ∷ codes "/sheet", s) ∷ (256 ∷ [], v) ∷ []) ≡ [] = simp (no_token b bytes.0) in
    one_param K b q ((256 ∷ codes "/sheet", s) ∷ (256 ∷ [], v) ∷ []) none refl
    ∙ ap (λ r. seek (r.0 - 1) r.1 q) (param_two K s v (b ∷ q) (not (b == 47) && has_slash q) (cuts_slash b q))
    ∙ rw (same_slash (b ∷ q)) (by (b == 47) (has_slash q) refl)
  where
    by : (t u : Bool) → has_slash q ≡ u
        → (let r : ℕ × RowsOf K = cond (not t && u) (length (cond t (b ∷ []) (b ∷ segment q)) - 1, (codes "/sheet", s) ∷ []) (cond (cond t true u) (0, []) (suc (length q), word_or_end s v)) in
        seek (r.0 - 1) r.1 q)
        ≡ cond (not (cond t true u)) (Some v) (cond (not (is_empty (cond t [] (b ∷ before_slash q))) && bytes_eq (cond t (b ∷ q) (from_slash q)) (codes "/sheet")) (Some s) None)
    by true u e = seek_none K 0 q
    by false true e =
        simp (part_length q e, two_less (length (before_slash q)))
        (past_part K ((codes "/sheet", s) ∷ []) q ∙ last_word K s (codes "/sheet") (from_slash q) refl)
    by false false e = simp (one_less (length q)) (seek_all K (word_or_end s v) q)
