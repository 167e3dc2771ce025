-- Lemmas on the set of references already seen, which decides whether a party has lodged two mutations with
-- the same one.
use Rattle.std.proofs.Common.{◌≡◌, ℕ, Bool, true, false, cond, ◌||◌, List, [], ◌∷◌, Bor, refl, sym, ap, ◌∙◌}
use Rattle.std.proofs.lemmas.Map.Text.{is_eq-slice_cmp}
use Rattle.std.specs.BTreeMap.{is_at}
use Rattle.std.specs.BTreeSet.{BTreeSet, contains}
use Rattle.std.specs.Cmp.{both_tied, unsigned_ties}
use Rattle.std.specs.Cmp.Lexicographic.{slice_cmp}
use Rattle.std.specs.FinMap as map
use Rattle.std.specs.List.{list_any}
use Rattle.std.specs.Ordering.{nat_cmp, ordering_then}
use Rattle.std.specs.declared.cmp.Ordering.{Ordering}
use Rattle.land_core.proofs.Booleans.{or_four}
use Rattle.land_core.proofs.Pairs.{later_pairs, list_any_same, some_pair}
use Rattle.land_core.specs.Mutations.{have_same_reference}
use Rattle.land_core.specs.Soundness.{has_reused_reference}
use Rattle.land_core.specs.declared.mutation.MutationRecord.{MutationRecord}
use Rattle.land_core.specs.declared.register.Register.{Register}

-- a lodger, and a reference of its own
abbrev pub Lodging : Type 0
Lodging = ℕ × Bor (List ℕ)

-- by the lodger, and then by the bytes of the reference
abbrev pub lodging_cmp : Lodging → Lodging → Ordering
lodging_cmp x y = ordering_then (nat_cmp x.0 y.0) (slice_cmp nat_cmp x.1.now y.1.now)

abbrev pub lodging_of : MutationRecord → Lodging
lodging_of m = (m.lodger, record { ref_ptr = (0, 0); now = m.reference })

-- whether the lodger and the reference of a mutation were met
abbrev pub has_met : BTreeSet Lodging → MutationRecord → Bool
has_met met m = contains lodging_cmp met (lodging_of m)

-- whether a remaining mutation has a reference already seen, or the same as a later one
abbrev pub is_reused_in : BTreeSet Lodging → List (ℕ × MutationRecord) → Bool
is_reused_in met es = list_any (λ e. has_met met e.1) es || some_pair have_same_reference es

-- a key that is the lodger and the reference of a mutation
pub record IsLodging (k : Lodging) (m : MutationRecord) : Type 0 where
  pub lodger : k.0 ≡ m.lodger
  pub reference : k.1.now ≡ m.reference

same_at : (k : Lodging) (m : MutationRecord) → IsLodging k m → (x : Lodging) → is_at (lodging_cmp k) x ≡ is_at (lodging_cmp (lodging_of m)) x
same_at k m h x =
    ap (λ n. is_at (λ (y : Lodging). ordering_then (nat_cmp n y.0) (slice_cmp nat_cmp k.1.now y.1.now)) x) h.lodger
    ∙ ap (λ bs. is_at (λ (y : Lodging). ordering_then (nat_cmp m.lodger y.0) (slice_cmp nat_cmp bs y.1.now)) x) h.reference

same_met : (met : BTreeSet Lodging) (k : Lodging) (m : MutationRecord) → IsLodging k m → contains lodging_cmp met k ≡ has_met met m
same_met met k m h = list_any_same (is_at (lodging_cmp k)) (is_at (lodging_cmp (lodging_of m))) (same_at k m h) met.keys

-- keys are equal if mutations have the same lodger and reference
shared_at : (m other : MutationRecord) → is_at (lodging_cmp (lodging_of m)) (lodging_of other) ≡ have_same_reference m other
shared_at m other = sym (both_tied _ _ (nat_cmp m.lodger other.lodger) (slice_cmp nat_cmp m.reference other.reference) (unsigned_ties m.lodger other.lodger) (sym (is_eq-slice_cmp m.reference other.reference)))

true_or : (a b : Bool) → cond a true b ≡ (a || b)
true_or true b = refl
true_or false b = refl

any_or : {X : Type 0} (p q : X → Bool) (xs : List X) → list_any (λ x. p x || q x) xs ≡ (list_any p xs || list_any q xs)
any_or p q [] = refl
any_or p q (x ∷ xs) = ap (λ b. (p x || q x) || b) (any_or p q xs) ∙ or_four (p x) (q x) (list_any p xs) (list_any q xs)

none_met : (met : BTreeSet Lodging) → met.keys ≡ [] → (es : List (ℕ × MutationRecord)) → list_any (λ e. has_met met e.1) es ≡ false
none_met met h [] = refl
none_met met h (e ∷ es) = ap (λ ks. list_any (is_at (lodging_cmp (lodging_of e.1))) ks || list_any (λ e. has_met met e.1) es) h ∙ none_met met h es

-- nothing was met yet
pub reused_begins : (r : Register) (met : BTreeSet Lodging) → met.keys ≡ [] → is_reused_in met (map.entries r.mutations) ≡ has_reused_reference r
reused_begins r met h = ap (λ b. b || some_pair have_same_reference (map.entries r.mutations)) (none_met met h (map.entries r.mutations)) ∙ sym (later_pairs have_same_reference r.mutations)

-- a mutation has a reference that was already seen
pub reused_now : (met : BTreeSet Lodging) (k : Lodging) (e : ℕ × MutationRecord) (es : List (ℕ × MutationRecord)) → IsLodging k e.1 → contains lodging_cmp met k ≡ true → is_reused_in met (e ∷ es) ≡ true
reused_now met k e es is h = ap (λ b. (b || list_any (λ e. has_met met e.1) es) || some_pair have_same_reference (e ∷ es)) (sym (same_met met k e.1 is) ∙ h)

-- a mutation has a new reference, which is then added to the set
pub reused_later : (met new : BTreeSet Lodging) (k : Lodging) (e : ℕ × MutationRecord) (es : List (ℕ × MutationRecord)) → IsLodging k e.1 → contains lodging_cmp met k ≡ false
    → ((q : Lodging) → contains lodging_cmp new q ≡ cond (is_at (lodging_cmp k) q) true (contains lodging_cmp met q))
    → is_reused_in met (e ∷ es) ≡ is_reused_in new es
reused_later met new k e es is h updates =
    let later : list_any (λ f. has_met new f.1) es ≡ (list_any (λ f. have_same_reference e.1 f.1) es || list_any (λ f. has_met met f.1) es) =
    list_any_same (λ (f : ℕ × MutationRecord). has_met new f.1) (λ f. have_same_reference e.1 f.1 || has_met met f.1)
    (λ f.
    updates (lodging_of f.1)
    ∙ true_or (is_at (lodging_cmp k) (lodging_of f.1)) (has_met met f.1)
    ∙ ap (λ b. b || has_met met f.1) (same_at k e.1 is (lodging_of f.1) ∙ shared_at e.1 f.1)) es
    ∙ any_or (λ (f : ℕ × MutationRecord). have_same_reference e.1 f.1) (λ f. has_met met f.1) es in
    ap (λ b. (b || list_any (λ e. has_met met e.1) es) || (list_any (λ f. have_same_reference e.1 f.1) es || some_pair have_same_reference es)) (sym (same_met met k e.1 is) ∙ h)
    ∙ turned (list_any (λ e. has_met met e.1) es) (list_any (λ f. have_same_reference e.1 f.1) es) (some_pair have_same_reference es)
    ∙ ap (λ b. b || some_pair have_same_reference es) (sym later)
  where
    turned : (a b c : Bool) → (a || (b || c)) ≡ ((b || a) || c)
    turned true true c = refl
    turned true false c = refl
    turned false true c = refl
    turned false false c = refl
