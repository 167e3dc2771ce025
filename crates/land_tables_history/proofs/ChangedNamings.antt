-- The units that mutations refer to after a change: new mutations refer to their units, and the others to the
-- same units as before.
use Rattle.std.proofs.Common.{◌≡◌, ℕ, ◌<◌, ◌≤◌, Bool, true, false, cond, not, List, [], ◌∷◌, ◌++◌, Option, Some, None, map as map_list, refl, sym, ap, subst, ◌∙◌, append_assoc, arith, IsPermutation, ◌⊎◌, inl, inr}
use Rattle.std.proofs.lemmas.Bool.Decides.{nat_tests}
use Rattle.std.proofs.lemmas.List.Sorted.{IsPermutation-append_right, IsPermutation-refl, IsPermutation-sym, IsPermutation-trans}
use Rattle.std.specs.Cmp.{eq_by_cmp_equiv, nat_cmp_total}
use Rattle.std.specs.FinMap as map
use Rattle.std.specs.FinMap.{FinMap, nat_cmp-IsAntisymmetric}
use Rattle.std.specs.List.{AllByRecursion, list_all, list_any}
use Rattle.std.specs.Ordering.{eq_by_cmp, nat_cmp}
use Rattle.std.specs.Prelude.{ℤ, ◌<ℤ◌, ◌≤ℤ◌, nat_eq, nat_le}
use Rattle.std.proofs.lemmas.Bool.{and_parts, not-true, or_parts}
use Rattle.land_core.proofs.FiniteMaps.{is_equal}
use Rattle.land_core.specs.Entries.{are_distinct, with_changes, with_entries}
use Rattle.land_core.specs.declared.change.Change.{Change}
use Rattle.land_core.specs.declared.mutation.MutationRecord.{MutationRecord}
use Rattle.land_core.specs.declared.register.Register.{Register}
use Rattle.land_tables_history.proofs.ChangedGroups.{exchanged_heads, joined_permuted}
use Rattle.land_tables_history.proofs.ChangedParts.{distinct_before, same_numbers, stand_changed}
use Rattle.land_tables_history.proofs.Made.{all_pass, beside, inserted, none_beside}
use Rattle.land_tables_history.specs.Changed.{changed_namings, named_by, new_mutations}
use Rattle.land_tables_history.specs.History.{named_units, namings_of}
use Rattle.land_tables_history.specs.Laws.{IsUnchangedButState, PutsMutations}
use Rattle.land_tables_history.specs.Open.{has_ended, never}
use Rattle.land_tables_history.specs.Standing.{current_values}
use Rattle.land_tables_history.specs.declared.naming.Naming.{Naming}
use Rattle.land_tables_history.specs.declared.version.Version.{Version}

-- the units that one mutation refers to
abbrev names : ℕ × MutationRecord → List Naming
names m = map_list (λ unit. record { mutation = m.0; unit = unit }) (named_units m.1.content)

module _ (next : ℕ) where
  -- a mutation is new, or it is current and refers to the same units
  data Fits (m : FinMap nat_cmp MutationRecord) (e : ℕ × MutationRecord) : Type 0 where
    new : next ≤ e.0 → map.get m e.0 ≡ None → Fits m e
    known : e.0 < next → (old : MutationRecord) → map.get m e.0 ≡ Some old → named_units e.1.content ≡ named_units old.content → Fits m e

  is_new : (n : ℕ) → next ≤ n → nat_le next n ≡ true
  is_new n le = grind (arith, nat_tests)

  is_known : (n : ℕ) → n < next → nat_le next n ≡ false
  is_known n less = grind (arith, nat_tests)

  -- an entry inserted under one number leaves the others unchanged
  fits_still : (m : FinMap nat_cmp MutationRecord) (k : ℕ) (v : MutationRecord) (es : List (ℕ × MutationRecord)) → list_any (eq_by_cmp nat_cmp k) (map_list (λ e. e.0) es) ≡ false
      → AllByRecursion (Fits m) es → AllByRecursion (Fits (map.insert m k v)) es
  fits_still m k v [] apart fits = tt
  fits_still m k v (e ∷ es) apart fits =
      let both = or_parts (eq_by_cmp nat_cmp k e.0) (list_any (eq_by_cmp nat_cmp k) (map_list (λ e. e.0) es)) apart in
      let same : map.get (map.insert m k v) e.0 ≡ map.get m e.0 =
      map.get-insert nat_cmp_total m k v e.0 ∙ ap (λ b. cond b (Some v) (map.get m e.0)) ((eq_by_cmp_equiv nat_cmp_total).symm e.0 k ∙ both.0) in
      (one e same fits.0, fits_still m k v es both.1 fits.1)
    where
      one : (e : ℕ × MutationRecord) → map.get (map.insert m k v) e.0 ≡ map.get m e.0 → Fits m e → Fits (map.insert m k v) e
      one e same (new le none) = new le (same ∙ none)
      one e same (known less old there units) = known less old (same ∙ there) units

  -- an inserted entry refers to its units, in addition to those of the other entries
  one_more : (m : FinMap nat_cmp MutationRecord) (k : ℕ) (v : MutationRecord) → IsPermutation (names (k, v) ++ named_by (beside nat_cmp_total nat_cmp-IsAntisymmetric k (map.entries m))) (named_by (map.entries (map.insert m k v)))
  one_more m k v = joined_permuted names ((k, v) ∷ beside nat_cmp_total nat_cmp-IsAntisymmetric k (map.entries m)) (map.entries (map.insert m k v)) (inserted nat_cmp_total nat_cmp-IsAntisymmetric m k v)

  -- a current record may be inserted again
  put_again : (m : FinMap nat_cmp MutationRecord) (k : ℕ) (v : MutationRecord) → map.get m k ≡ Some v → map.insert m k v ≡ m
  put_again m k v there = map.same_map nat_cmp_total nat_cmp-IsAntisymmetric (map.insert m k v) m (λ q. map.get-insert nat_cmp_total m k v q ∙ go q (eq_by_cmp nat_cmp q k) refl)
    where
      go : (q : ℕ) (b : Bool) → eq_by_cmp nat_cmp q k ≡ b → cond b (Some v) (map.get m q) ≡ map.get m q
      go q true is = sym there ∙ ap (map.get m) (sym (nat_cmp-IsAntisymmetric q k (is_equal (nat_cmp q k) is)))
      go q false is = refl

  -- a mutation that refers to the same units may replace it
  put_alike : (m : FinMap nat_cmp MutationRecord) (k : ℕ) (v old : MutationRecord) → map.get m k ≡ Some old → named_units v.content ≡ named_units old.content
      → IsPermutation (named_by (map.entries m)) (named_by (map.entries (map.insert m k v)))
  put_alike m k v old there units =
      let others : List Naming = named_by (beside nat_cmp_total nat_cmp-IsAntisymmetric k (map.entries m)) in
      IsPermutation-trans (named_by (map.entries m)) (names (k, v) ++ others) (named_by (map.entries (map.insert m k v)))
      (subst (λ (us : List ℕ). IsPermutation (named_by (map.entries m)) (map_list (λ unit. record { mutation = k; unit = unit }) us ++ others)) (sym units)
      (subst (λ (n : FinMap nat_cmp MutationRecord). IsPermutation (named_by (map.entries n)) (names (k, old) ++ others)) (put_again m k old there)
      (IsPermutation-sym (names (k, old) ++ others) (named_by (map.entries (map.insert m k old))) (one_more m k old))))
      (one_more m k v)

  -- after all insertions, the new mutations refer to their units, in addition to the previous ones
  namings_grow : (m : FinMap nat_cmp MutationRecord) (es : List (ℕ × MutationRecord)) → are_distinct (eq_by_cmp nat_cmp) (map_list (λ e. e.0) es) ≡ true → AllByRecursion (Fits m) es
      → IsPermutation (named_by (new_mutations next es) ++ named_by (map.entries m)) (named_by (map.entries (with_entries m es)))
  namings_grow m [] once fits = IsPermutation-refl (named_by (map.entries m))
  namings_grow m (e ∷ es) once fits =
      let both = and_parts (not (list_any (eq_by_cmp nat_cmp e.0) (map_list (λ e. e.0) es))) (are_distinct (eq_by_cmp nat_cmp) (map_list (λ e. e.0) es)) once in
      go fits.0 (namings_grow (map.insert m e.0 e.1) es both.1 (fits_still m e.0 e.1 es (not-true _ both.0) fits.1))
    where
      later : List Naming
      later = named_by (new_mutations next es)

      done : List Naming
      done = named_by (map.entries (with_entries m (e ∷ es)))

      go : Fits m e → IsPermutation (later ++ named_by (map.entries (map.insert m e.0 e.1))) done
          → IsPermutation (named_by (cond (nat_le next e.0) (e ∷ new_mutations next es) (new_mutations next es)) ++ named_by (map.entries m)) done
      go (new le none) rest =
          let before : List Naming = named_by (map.entries m) in
          let all_others = none_beside nat_cmp_total nat_cmp-IsAntisymmetric e.0 (map.entries m) (sym (map.get-entries m e.0) ∙ none) in
          subst (λ (b : Bool). IsPermutation (named_by (cond b (e ∷ new_mutations next es) (new_mutations next es)) ++ before) done) (sym (is_new e.0 le))
          (subst (λ l. IsPermutation l done) (sym (append_assoc (names e) later before))
          (IsPermutation-trans (names e ++ (later ++ before)) (later ++ (names e ++ before)) done (exchanged_heads (names e) later before)
          (IsPermutation-trans (later ++ (names e ++ before)) (later ++ named_by (map.entries (map.insert m e.0 e.1))) done
          (IsPermutation-append_right later (names e ++ before) (named_by (map.entries (map.insert m e.0 e.1)))
          (subst (λ (others : List (ℕ × MutationRecord)). IsPermutation (names e ++ named_by others) (named_by (map.entries (map.insert m e.0 e.1)))) all_others (one_more m e.0 e.1)))
          rest)))
      go (known less old there units) rest =
          let before : List Naming = named_by (map.entries m) in
          subst (λ (b : Bool). IsPermutation (named_by (cond b (e ∷ new_mutations next es) (new_mutations next es)) ++ before) done) (sym (is_known e.0 less))
          (IsPermutation-trans (later ++ before) (later ++ named_by (map.entries (map.insert m e.0 e.1))) done
          (IsPermutation-append_right later before (named_by (map.entries (map.insert m e.0 e.1))) (put_alike m e.0 e.1 old there units)) rest)

-- each mutation of a change is new, or current with the same units
fits_from : (r : Register) (used : (number : ℕ) (m : MutationRecord) → map.get r.mutations number ≡ Some m → number < r.next) (es : List (ℕ × MutationRecord))
    → AllByRecursion (λ e. (r.next ≤ e.0) ⊎ IsUnchangedButState r e.0 e.1) es → AllByRecursion (Fits r.next r.mutations) es
fits_from r used [] h = tt
fits_from r used (e ∷ es) h = (one h.0, fits_from r used es h.1)
  where
    one : (r.next ≤ e.0) ⊎ IsUnchangedButState r e.0 e.1 → Fits r.next r.mutations e
    one (inl le) = new le (nothing (map.get r.mutations e.0) refl)
      where
        nothing : (o : Option MutationRecord) → map.get r.mutations e.0 ≡ o → map.get r.mutations e.0 ≡ None
        nothing None is = is
        nothing (Some m) is = let less = used e.0 m is in absurd (omega (arith, le, less))
    one (inr was) = known (used e.0 was.old was.there) was.old was.there was.units

pub namings_change : (last stamp t : ℤ) → last <ℤ stamp → stamp ≤ℤ t → t <ℤ never → (r : Register) (change : Change) (versions : List (Version Naming))
    → list_all (has_ended last) versions ≡ true → are_distinct nat_eq (map_list (λ e. e.0) change.put.mutations ++ change.ended.mutations) ≡ true → PutsMutations r change
    → IsPermutation (current_values t versions) (namings_of r.mutations)
    → IsPermutation (current_values t (changed_namings r.next change.put.mutations stamp versions)) (namings_of (with_changes r.mutations change.put.mutations change.ended.mutations))
namings_change last stamp t less since early r change versions by_then once puts p =
    let put = change.put.mutations in
    let later : List Naming = named_by (new_mutations r.next put) in
    let distinct = subst (λ (same : ℕ → ℕ → Bool). are_distinct same (map_list (λ e. e.0) put) ≡ true) (sym same_numbers) (distinct_before nat_eq (map_list (λ e. e.0) put) change.ended.mutations once) in
    subst (λ (ended : List ℕ). IsPermutation (current_values t (changed_namings r.next put stamp versions)) (namings_of (with_changes r.mutations put ended))) (sym puts.ended)
    (IsPermutation-trans (current_values t (changed_namings r.next put stamp versions)) (later ++ namings_of r.mutations) (namings_of (with_changes r.mutations put []))
    (subst (λ (l : List Naming). IsPermutation (current_values t (changed_namings r.next put stamp versions)) (later ++ l)) (all_pass (namings_of r.mutations))
    (stand_changed last stamp t less since early later (λ naming. false) versions (namings_of r.mutations) by_then p))
    (namings_grow r.next r.mutations put distinct (fits_from r puts.used put puts.put)))
