-- The exchanges and the endings of one connection among those of all.
use Rattle.std.proofs.Common.{◌≡◌, ◌≢◌, ℕ, ℤ, zero, suc, Bool, true, false, List, [], ◌∷◌, ◌++◌, length, refl, sym, ap, ◌∙◌, subst, append-nil, append_assoc, inl, inr, Option, Some, None}
use Rattle.std.specs.Prelude.{◌⊎◌, nat_eq, slice_get, if◌then◌else◌}
use Rattle.std.proofs.lemmas.Bool.{false≢true, eq-eqb}
use Rattle.std.proofs.lemmas.Bool.Decides.{eqb_tells}
use Rattle.std.proofs.lemmas.Option.{none-some}
use Rattle.land_desk.specs.Serving.{Exchange}
use Rattle.land_keep.specs.Machine.{State}
use Rattle.land_pool.specs.Endings.{Ending, RecordsAll, endings_of}
use Rattle.land_pool.specs.Interleaving.{IsRunOf, Numbered, exchanges_of}
use Rattle.land_pool.specs.OpenConnections.{AnswersItems}

-- two numbers are equal or not
pub same_or_other : (a b : ℕ) → (a ≡ b) ⊎ (a ≢ b)
same_or_other a b = elim (eqb_tells a b) as (λ _. (a ≡ b) ⊎ (a ≢ b)) [ inl e ↦ inl e.1 | inr e ↦ inr e.1 ]

pub equal_if : (a b : ℕ) → nat_eq a b ≡ true → a ≡ b
equal_if a b is = elim (eqb_tells a b) as (λ _. a ≡ b) [ inl e ↦ e.1 | inr e ↦ absurd (false≢true (sym e.0 ∙ is)) ]

-- exchanges of one connection
abbrev pub all_of : ℕ → List Exchange → List Numbered
all_of k [] = []
all_of k (x ∷ xs) = record { number = k; exchange = x } ∷ all_of k xs

module _ {C : Type 0} (reads : C → ℤ → C → Type 0) where
  run_one : (k : ℕ) (from : State C) (xs : List Exchange) (to : State C) → AnswersItems reads from xs to → IsRunOf reads from (all_of k xs) to
  run_one k from [] to so = so
  run_one k from (x ∷ xs) to so = (so.0, so.1, so.2, run_one k so.0 xs to so.3)

  -- a run goes on with the items of one connection
  pub run_more : (k : ℕ) (from : State C) (log : List Numbered) (now : State C) (xs : List Exchange) (to : State C)
      → IsRunOf reads from log now → AnswersItems reads now xs to → IsRunOf reads from (log ++ all_of k xs) to
  run_more k from [] now xs to so more = run_one k from xs to (subst (λ (s : State C). AnswersItems reads s xs to) so more)
  run_more k from (t ∷ log) now xs to so more = (so.0, so.1, so.2, run_more k so.0 log now xs to so.3 more)

-- ---- exchanges

kept_front : {A : Type 0} (b : Bool) (x : A) (l m n : List A) → l ≡ m ++ n → (if b then x ∷ l else l) ≡ (if b then x ∷ m else m) ++ n
kept_front {A} true x l m n e = ap (λ (z : List A). x ∷ z) e
kept_front {A} false x l m n e = e

own_first : {A : Type 0} (b : Bool) → b ≡ true → (x : A) (l xs : List A) → l ≡ xs → (if b then x ∷ l else l) ≡ x ∷ xs
own_first {A} true e x l xs is = ap (λ (z : List A). x ∷ z) is
own_first {A} false e x l xs is = absurd (false≢true e)

no_first : {A : Type 0} (b : Bool) → b ≡ false → (x : A) (l : List A) → l ≡ [] → (if b then x ∷ l else l) ≡ []
no_first {A} true e x l is = absurd (false≢true (sym e))
no_first {A} false e x l is = is

not_eqb : (a b : ℕ) → a ≢ b → nat_eq a b ≡ false
not_eqb a b ne = elim (eqb_tells a b) as (λ _. nat_eq a b ≡ false) [ inl e ↦ absurd (ne e.1) | inr e ↦ e.0 ]

exchanges_more : (k : ℕ) (log ts : List Numbered) → exchanges_of k (log ++ ts) ≡ exchanges_of k log ++ exchanges_of k ts
exchanges_more k [] ts = refl
exchanges_more k (t ∷ log) ts = kept_front (nat_eq t.number k) t.exchange _ _ _ (exchanges_more k log ts)

exchanges_own : (k : ℕ) (xs : List Exchange) → exchanges_of k (all_of k xs) ≡ xs
exchanges_own k [] = refl
exchanges_own k (x ∷ xs) = own_first (nat_eq k k) (eq-eqb k k refl) x _ xs (exchanges_own k xs)

exchanges_other : (j k : ℕ) → k ≢ j → (xs : List Exchange) → exchanges_of j (all_of k xs) ≡ []
exchanges_other j k ne [] = refl
exchanges_other j k ne (x ∷ xs) = no_first (nat_eq k j) (not_eqb k j ne) x _ (exchanges_other j k ne xs)

-- the exchanges of one connection are added to its own
pub own_more : (k : ℕ) (log : List Numbered) (xs : List Exchange) → exchanges_of k (log ++ all_of k xs) ≡ exchanges_of k log ++ xs
own_more k log xs = exchanges_more k log (all_of k xs) ∙ ap (λ (z : List Exchange). exchanges_of k log ++ z) (exchanges_own k xs)

-- and to those of no other
pub other_same : (j k : ℕ) (log : List Numbered) (xs : List Exchange) → k ≢ j → exchanges_of j (log ++ all_of k xs) ≡ exchanges_of j log
other_same j k log xs ne =
    exchanges_more j log (all_of k xs) ∙ ap (λ (z : List Exchange). exchanges_of j log ++ z) (exchanges_other j k ne xs) ∙ append-nil (exchanges_of j log)

-- ---- endings

endings_more : (k : ℕ) (es fs : List Ending) → endings_of k (es ++ fs) ≡ endings_of k es ++ endings_of k fs
endings_more k [] fs = refl
endings_more k (e ∷ es) fs = kept_front (nat_eq e.number k) e _ _ _ (endings_more k es fs)

-- endings of one connection, or none
pub record AreOf (k : ℕ) (es : List Ending) : Type 0 where
  pub own : endings_of k es ≡ es
  pub other : (j : ℕ) → k ≢ j → endings_of j es ≡ []

pub none_of : (k : ℕ) → AreOf k []
none_of k = record { own = refl; other = λ j ne. refl }

pub one_of : (e : Ending) → AreOf e.number (e ∷ [])
one_of e = record {
  own = own_first (nat_eq e.number e.number) (eq-eqb e.number e.number refl) e [] [] refl;
  other = λ j ne. no_first (nat_eq e.number j) (not_eqb e.number j ne) e [] refl;
}

-- the endings of one connection that had none
pub own_endings : (k : ℕ) (es more : List Ending) → AreOf k more → endings_of k es ≡ [] → endings_of k (es ++ more) ≡ more
own_endings k es more of none =
    endings_more k es more ∙ ap (λ (z : List Ending). z ++ endings_of k more) none ∙ of.own

pub other_endings : (j k : ℕ) (es more : List Ending) → AreOf k more → k ≢ j → endings_of j (es ++ more) ≡ endings_of j es
other_endings j k es more of ne =
    endings_more j es more ∙ ap (λ (z : List Ending). endings_of j es ++ z) (of.other j ne) ∙ append-nil (endings_of j es)

-- ---- records of endings

pub records_none : (ended : Option (List Ending)) → RecordsAll ended ended []
records_none None = tt
records_none (Some all) = sym (append-nil all)

pub records_both : (a b c : Option (List Ending)) (es fs : List Ending) → RecordsAll a b es → RecordsAll b c fs → RecordsAll a c (es ++ fs)
records_both None b c es fs one two = tt
records_both (Some all) None c es fs one two = absurd one
records_both (Some all) (Some more) None es fs one two = absurd two
records_both (Some all) (Some more) (Some most) es fs one two =
    two ∙ ap (λ (z : List Ending). z ++ fs) one ∙ append_assoc all es fs

-- ---- a list at its places

abbrev some_or : {A : Type 0} → A → Option A → A
some_or d None = d
some_or d (Some x) = x

pub same_some : {A : Type 0} (a b : A) → Some a ≡ Some b → a ≡ b
same_some {A} a b e = ap (λ (o : Option A). some_or a o) e

pub get_last : {A : Type 0} (xs : List A) (x : A) → slice_get (xs ++ x ∷ []) (length xs) ≡ Some x
get_last [] x = refl
get_last (y ∷ xs) x = get_last xs x

pub get_front : {A : Type 0} (xs ys : List A) (k : ℕ) (d : A) → slice_get xs k ≡ Some d → slice_get (xs ++ ys) k ≡ Some d
get_front [] ys k d e = absurd (none-some d e)
get_front (x ∷ xs) ys zero d e = e
get_front (x ∷ xs) ys (suc k) d e = get_front xs ys k d e

pub get_back : {A : Type 0} (xs : List A) (x : A) (k : ℕ) (d : A) → slice_get (xs ++ x ∷ []) k ≡ Some d → (slice_get xs k ≡ Some d) ⊎ ((k ≡ length xs) × (d ≡ x))
get_back [] x zero d e = inr (refl, same_some d x (sym e))
get_back [] x (suc k) d e = absurd (none-some d e)
get_back (y ∷ xs) x zero d e = inl e
get_back (y ∷ xs) x (suc k) d e =
    elim (get_back xs x k d e) as (λ _. (slice_get xs k ≡ Some d) ⊎ ((suc k ≡ suc (length xs)) × (d ≡ x))) [
      | inl h ↦ inl h
      | inr h ↦ inr (ap suc h.0, h.1)
    ]
