-- A list has exactly the objects whose view no rule denies.
use Rattle.std.proofs.Common.{◌≡◌, ℕ, Bool, true, false, ◌||◌, ◌&&◌, cond, List, [], ◌∷◌, Option, Some, None, refl, sym, ap, ◌∙◌, subst}
use Rattle.std.specs.Prelude.{nat_eq, nat_lt}
use Rattle.std.proofs.lemmas.Bool.{false≢true, and_parts, eqb-true, not-false, or_parts}
use Rattle.std.specs.Prelude.{filter, is_some, map as map_list}
use Rattle.std.specs.List.{list_any, list_all}
use Rattle.std.specs.Ordering.{nat_cmp, is_lt}
use Rattle.std.specs.declared.cmp.Ordering.TheVariants.{Less, Equal, Greater}
use Rattle.std.specs.Cmp.{nat_cmp_total}
use Rattle.std.specs.FinMap as map
use Rattle.std.specs.FinMap.{FinMap, nat_cmp-IsAntisymmetric}
use Rattle.std.specs.FinMap.Entries.{is_sorted, below_all}
use Rattle.std.proofs.lemmas.Cmp.{nat_eq_equiv}
use Rattle.land_core.proofs.Booleans.{T_true, and_false}
use Rattle.land_core.proofs.Reflection.{some_at, none_passes, list_any-map}
use Rattle.land_core.specs.Entries.{has, numbers_where}
use Rattle.land_core.specs.Register.{stands}
use Rattle.land_core.specs.declared.caller.Caller.{Caller}
use Rattle.land_core.specs.declared.kind.Kind.{Kind}
use Rattle.land_core.specs.declared.kind.Kind.TheVariants as kind
use Rattle.land_core.specs.declared.register.Register.{Register}
use Rattle.land_rules.proofs.Denied.{none_from_allowed}
use Rattle.land_rules.specs.Laws.{SeenListsAreExact}
use Rattle.land_rules.specs.Rules.{denies, first_denial, view_rules, is_ascending_list, sees, is_allowed}
use Rattle.land_rules.specs.declared.verdict.Verdict.{Verdict}
use Rattle.land_rules.specs.declared.verdict.Verdict.TheVariants.{Allowed, Denied}

list_any-filter_and : {X : Type 0} (t p : X → Bool) (xs : List X) → list_any t (filter p xs) ≡ list_any (λ x. p x && t x) xs
list_any-filter_and t p [] = refl
list_any-filter_and t p (x ∷ xs) =
    elim (p x) as (λ b. list_any t (cond b (x ∷ filter p xs) (filter p xs)) ≡ ((b && t x) || list_any (λ x. p x && t x) xs)) [
      | true ↦ ap (λ b. t x || b) (list_any-filter_and t p xs)
      | false ↦ list_any-filter_and t p xs
    ]

-- rule 27 is among the rules on every view
denies_absent : (at : Register) (caller : Caller) (k : Kind) (n : ℕ) → denies 27 (view_rules at caller k n) ≡ false → stands at k n ≡ true
denies_absent at caller kind.Party n h = not-false _ (or_parts _ _ h).0
denies_absent at caller kind.Unit n h = not-false _ (or_parts _ _ h).0
denies_absent at caller kind.Parcel n h = not-false _ (or_parts _ _ h).0
denies_absent at caller kind.Rrr n h = not-false _ (or_parts _ _ h).0
denies_absent at caller kind.Source n h = not-false _ (or_parts _ _ h).0
denies_absent at caller kind.Mutation n h = not-false _ (or_parts _ _ h).0

-- an object that a caller sees exists
sees_what_stands : (at : Register) (caller : Caller) (k : Kind) (n : ℕ) → sees at caller k n ≡ true → stands at k n ≡ true
sees_what_stands at caller k n h = denies_absent at caller k n (none_from_allowed (view_rules at caller k n) (allowed_from (first_denial (view_rules at caller k n)) h) 27)
  where
    allowed_from : (v : Verdict) → is_allowed v ≡ true → v ≡ Allowed
    allowed_from Allowed e = refl
    allowed_from (Denied k) e = absurd (false≢true e)

less_is : (n k : ℕ) → is_lt (nat_cmp n k) ≡ true → nat_lt n k ≡ true
less_is n k h = by_test (nat_lt n k) (nat_eq n k) h
  where
    by_test : (a b : Bool) → is_lt (cond a Less (cond b Equal Greater)) ≡ true → a ≡ true
    by_test true b h = refl
    by_test false true h = h
    by_test false false h = h

-- the numbers of the records whose numbers satisfy a condition
module _ {V : Type 0} (p : ℕ → Bool) where
  above : (n : ℕ) (es : List (ℕ × V)) → below_all nat_cmp n es ≡ true → list_all (nat_lt n) (map_list (λ e. e.0) (filter (λ e. p e.0) es)) ≡ true
  above n [] h = refl
  above n (e ∷ es) h =
      let parts = and_parts _ _ h in
      elim (p e.0) as (λ b. list_all (nat_lt n) (map_list (λ e. e.0) (cond b (e ∷ filter (λ e. p e.0) es) (filter (λ e. p e.0) es))) ≡ true) [
        | true ↦ ap (λ b. b && list_all (nat_lt n) (map_list (λ e. e.0) (filter (λ e. p e.0) es))) (less_is n e.0 parts.0) ∙ above n es parts.1
        | false ↦ above n es parts.1
      ]

  ascending : (es : List (ℕ × V)) → is_sorted nat_cmp es ≡ true → is_ascending_list (map_list (λ e. e.0) (filter (λ e. p e.0) es)) ≡ true
  ascending [] h = refl
  ascending (e ∷ es) h =
      let parts = and_parts _ _ h in
      elim (p e.0) as (λ b. is_ascending_list (map_list (λ e. e.0) (cond b (e ∷ filter (λ e. p e.0) es) (filter (λ e. p e.0) es))) ≡ true) [
        | true ↦ ap (λ b. b && is_ascending_list (map_list (λ e. e.0) (filter (λ e. p e.0) es))) (above e.0 es parts.0) ∙ ascending es parts.1
        | false ↦ ascending es parts.1
      ]

record IsThere {V : Type 0} (m : FinMap nat_cmp V) (n : ℕ) : Type 0 where
  value : V
  there : map.get m n ≡ Some value

module _ {V : Type 0} (m : FinMap nat_cmp V) (p : ℕ → Bool) where
  is_there : (n : ℕ) → has m n ≡ true → IsThere m n
  is_there n h = found (map.get m n) refl h
    where
      found : (o : Option V) → map.get m n ≡ o → is_some o ≡ true → IsThere m n
      found None e h = absurd (false≢true h)
      found (Some v) e h = record { value = v; there = e }

  -- if only existing objects satisfy a condition, a number is in the list exactly if it satisfies it
  exactly : (n : ℕ) → (p n ≡ true → has m n ≡ true) → list_any (nat_eq n) (numbers_where (λ k v. p k) m) ≡ p n
  exactly n stand =
      list_any-map (nat_eq n) (λ e. e.0) (filter (λ e. p e.0) (map.entries m))
      ∙ list_any-filter_and (λ e. nat_eq n e.0) (λ e. p e.0) (map.entries m)
      ∙ by_test (p n) refl
    where
      by_test : (b : Bool) → p n ≡ b → list_any (λ e. p e.0 && nat_eq n e.0) (map.entries m) ≡ p n
      by_test true e =
          let it = is_there n (stand e) in
          some_at nat_cmp_total nat_cmp-IsAntisymmetric (λ k v. p k && nat_eq n k) m n it.value it.there (ap (λ b. b && nat_eq n n) e ∙ nat_eq_equiv.refl n) ∙ sym e
      by_test false e =
          none_passes nat_cmp_total nat_cmp-IsAntisymmetric (λ k v. p k && nat_eq n k) m (λ k v there.
          elim (nat_eq n k) as (λ b. nat_eq n k ≡ b → (p k && b) ≡ false) [
            | true ↦ λ same. ap (λ b. b && true) (subst (λ (i : ℕ). p i ≡ false) (eqb-true n k same) e)
            | false ↦ λ apart. and_false (p k)
          ] refl)
          ∙ sym e

  numbers_ascend : is_ascending_list (numbers_where (λ k v. p k) m) ≡ true
  numbers_ascend = ascending p (map.entries m) (T_true _ (map.entries_sorted m))

pub seen_exactly : SeenListsAreExact
seen_exactly at caller kind.Party = record { ascending = numbers_ascend at.parties (sees at caller kind.Party); exact = λ n. exactly at.parties (sees at caller kind.Party) n (sees_what_stands at caller kind.Party n) }
seen_exactly at caller kind.Unit = record { ascending = numbers_ascend at.units (sees at caller kind.Unit); exact = λ n. exactly at.units (sees at caller kind.Unit) n (sees_what_stands at caller kind.Unit n) }
seen_exactly at caller kind.Parcel = record { ascending = numbers_ascend at.parcels (sees at caller kind.Parcel); exact = λ n. exactly at.parcels (sees at caller kind.Parcel) n (sees_what_stands at caller kind.Parcel n) }
seen_exactly at caller kind.Rrr = record { ascending = numbers_ascend at.rrrs (sees at caller kind.Rrr); exact = λ n. exactly at.rrrs (sees at caller kind.Rrr) n (sees_what_stands at caller kind.Rrr n) }
seen_exactly at caller kind.Source = record { ascending = numbers_ascend at.sources (sees at caller kind.Source); exact = λ n. exactly at.sources (sees at caller kind.Source) n (sees_what_stands at caller kind.Source n) }
seen_exactly at caller kind.Mutation = record { ascending = numbers_ascend at.mutations (sees at caller kind.Mutation); exact = λ n. exactly at.mutations (sees at caller kind.Mutation) n (sees_what_stands at caller kind.Mutation n) }
