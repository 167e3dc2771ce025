-- A sequence of read-only queries, whose numbers are concatenated.
use Rattle.std.proofs.Common.{◌⊎◌, ◌↔◌, inl, inr, ℕ, ℤ, List, [], ◌∷◌, ◌++◌, Ok, Err, Result, IfOk, subst, sym}
use Rattle.std.specs.List.{Contains}
use Rattle.land_select_queries.proofs.Containing.{first, first_or_later, in_nothing, later}
use Rattle.land_select_queries.specs.Joins.Execution.{AnySelectsFor, AreExactly, AreNumbersForAny, AreNumbersOf, AreNumbersOfAny}
use Rattle.land_select_queries.specs.Sights.{AnySelects}
use Rattle.land_select_queries.specs.declared.sights.selection.Selection.{Selection}
use Rattle.land_tables_history.specs.declared.history.History.{History}
use Rattle.land_tables_schema.specs.Rows.ReadQueries.{IsStoreRead}
use Rattle.sqlite.specs.State.{HasCleanDisk, State}
use Rattle.sqlite_rules.proofs.ListLemmas.{has_left, has_right, has_either, has_contained, contains_had}
use Rattle.sqlite_trees.specs.Tree.{Trees}

module _ (t : ℤ) (h : History) (caller n : ℕ) where
  any_left : (ss us : List Selection) → AnySelects ss t h caller n → AnySelects (ss ++ us) t h caller n
  any_left [] us x = absurd x
  any_left (s ∷ ss) us (inl x) = inl x
  any_left (s ∷ ss) us (inr x) = inr (any_left ss us x)

  any_right : (ss us : List Selection) → AnySelects us t h caller n → AnySelects (ss ++ us) t h caller n
  any_right [] us x = x
  any_right (s ∷ ss) us x = inr (any_right ss us x)

  any_either : (ss us : List Selection) → AnySelects (ss ++ us) t h caller n → AnySelects ss t h caller n ⊎ AnySelects us t h caller n
  any_either [] us x = inr x
  any_either (s ∷ ss) us (inl x) = inl (inl x)
  any_either (s ∷ ss) us (inr x) = elim (any_either ss us x) [ inl a ↦ inl (inr a) | inr b ↦ inr b ]

pub contains_both : (xs ys : List ℕ) (n : ℕ) → Contains (xs ++ ys) n ↔ (Contains xs n ⊎ Contains ys n)
contains_both xs ys n = (
  (λ h. elim (has_either xs ys n (has_contained (xs ++ ys) n h)) [ inl a ↦ inl (contains_had xs n a) | inr b ↦ inr (contains_had ys n b) ]),
  (λ h. elim h [ inl a ↦ contains_had (xs ++ ys) n (has_left xs ys n (has_contained xs n a)) | inr b ↦ contains_had (xs ++ ys) n (has_right xs ys n (has_contained ys n b)) ]),
)

pub none_yet : (t : ℤ) (caller : ℕ) (db : Trees) → AreNumbersOfAny [] t caller db []
none_yet t caller db moments h held n = ((λ has. absurd (has_contained [] n has)), (λ x. absurd x))

-- the numbers of one more selection
pub one_more : (ss : List Selection) (s : Selection) (t : ℤ) (caller : ℕ) (db : Trees) (xs ys : List ℕ) → AreNumbersOfAny ss t caller db xs → AreNumbersOf s t caller db ys
    → AreNumbersOfAny (ss ++ s ∷ []) t caller db (xs ++ ys)
one_more ss s t caller db xs ys all more moments h held n =
    let these = all moments h held n in
    let those = more moments h held n in (
      (λ has. elim ((contains_both xs ys n).0 has) [
        | inl a ↦ any_left t h caller n ss (s ∷ []) (these.0 a)
        | inr b ↦ any_right t h caller n ss (s ∷ []) (inl (those.0 b))
      ]),
      (λ x. (contains_both xs ys n).1 (elim (any_either t h caller n ss (s ∷ []) x) [
        | inl a ↦ inl (these.1 a)
        | inr b ↦ inr (those.1 (elim b [ inl y ↦ y | inr none ↦ absurd none ]))
      ])),
    )

-- the same numbers, in another order
pub all_through : (ss : List Selection) (t : ℤ) (caller : ℕ) (db : Trees) (it found : List ℕ) → AreExactly it (λ n. Contains found n) → AreNumbersOfAny ss t caller db found → AreNumbersOfAny ss t caller db it
all_through ss t caller db it found same all moments h held n = ((λ x. (all moments h held n).0 ((same n).0 x)), (λ w. (same n).1 ((all moments h held n).1 w)))

-- ---- a sequence of callers

module _ (ss : List Selection) (t : ℤ) (h : History) (n : ℕ) where
  given_left : (cs ds : List ℕ) → AnySelectsFor ss t h cs n → AnySelectsFor ss t h (cs ++ ds) n
  given_left [] ds x = absurd x
  given_left (c ∷ cs) ds (inl x) = inl x
  given_left (c ∷ cs) ds (inr x) = inr (given_left cs ds x)

  given_right : (cs ds : List ℕ) → AnySelectsFor ss t h ds n → AnySelectsFor ss t h (cs ++ ds) n
  given_right [] ds x = x
  given_right (c ∷ cs) ds x = inr (given_right cs ds x)

  given_either : (cs ds : List ℕ) → AnySelectsFor ss t h (cs ++ ds) n → AnySelectsFor ss t h cs n ⊎ AnySelectsFor ss t h ds n
  given_either [] ds x = inr x
  given_either (c ∷ cs) ds (inl x) = inl (inl x)
  given_either (c ∷ cs) ds (inr x) = elim (given_either cs ds x) [ inl a ↦ inl (inr a) | inr b ↦ inr b ]

  -- a number of the result is one of theirs
  pub given_to : (cs : List ℕ) → AnySelectsFor ss t h cs n → (c : ℕ) × Contains cs c × AnySelects ss t h c n
  given_to [] x = absurd x
  given_to (c ∷ cs) (inl x) = (c, first c cs, x)
  given_to (c ∷ cs) (inr x) = let it = given_to cs x in (it.0, later c cs it.0 it.1, it.2)

  pub given_by : (cs : List ℕ) (c : ℕ) → Contains cs c → AnySelects ss t h c n → AnySelectsFor ss t h cs n
  given_by [] c among x = absurd (in_nothing c among)
  given_by (d ∷ ds) c among x = elim (first_or_later d ds c among) [
    | inl same ↦ inl (subst (λ m. AnySelects ss t h m n) (sym same) x)
    | inr more ↦ inr (given_by ds c more x)
  ]

-- the numbers of one more caller
pub one_caller_more : (ss : List Selection) (cs : List ℕ) (c : ℕ) (t : ℤ) (db : Trees) (xs ys : List ℕ) → AreNumbersForAny ss t cs db xs → AreNumbersOfAny ss t c db ys
    → AreNumbersForAny ss t (cs ++ c ∷ []) db (xs ++ ys)
one_caller_more ss cs c t db xs ys all more moments h held n =
    let these = all moments h held n in
    let those = more moments h held n in (
      (λ has. elim ((contains_both xs ys n).0 has) [
        | inl a ↦ given_left ss t h n cs (c ∷ []) (these.0 a)
        | inr b ↦ given_right ss t h n cs (c ∷ []) (inl (those.0 b))
      ]),
      (λ x. (contains_both xs ys n).1 (elim (given_either ss t h n cs (c ∷ []) x) [
        | inl a ↦ inl (these.1 a)
        | inr b ↦ inr (those.1 (elim b [ inl y ↦ y | inr none ↦ absurd none ]))
      ])),
    )

-- the same numbers, in another order
pub given_through : (ss : List Selection) (t : ℤ) (cs : List ℕ) (db : Trees) (it found : List ℕ) → AreExactly it (λ n. Contains found n) → AreNumbersForAny ss t cs db found → AreNumbersForAny ss t cs db it
given_through ss t cs db it found same all moments h held n = ((λ x. (all moments h held n).0 ((same n).0 x)), (λ w. (same n).1 ((all moments h held n).1 w)))

-- a query with a result, and a known fact, together with their consequence
pub look_known : {X E : Type 0} {P K Q : X → Type 0} (a b : State) (r : Result X E) → IsStoreRead r P a b → IfOk r K → ((x : X) → HasCleanDisk b → P x → K x → Q x) → IsStoreRead r Q a b
look_known a b (Ok x) reads_only known so = record { given = λ clean. so x clean (reads_only.given clean) known; same = reads_only.same; left = reads_only.left; survives = reads_only.survives }
look_known a b (Err e) reads_only known so = record { given = λ _. tt; same = reads_only.same; left = reads_only.left; survives = reads_only.survives }

-- a read-only query, by its meaning
pub look_means : {X E : Type 0} {P Q : X → Type 0} (a b : State) (r : Result X E) → IsStoreRead r P a b → ((x : X) → P x → Q x) → IsStoreRead r Q a b
look_means a b (Ok x) reads_only means = record { given = λ clean. means x (reads_only.given clean); same = reads_only.same; left = reads_only.left; survives = reads_only.survives }
look_means a b (Err e) reads_only means = record { given = λ _. tt; same = reads_only.same; left = reads_only.left; survives = reads_only.survives }
