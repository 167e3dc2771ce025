-- Entries that are sorted by place are the events in order.
use Rattle.std.proofs.Common.{◌≡◌, ℕ, suc, ◌+◌, ◌<◌, Bool, true, false, List, [], ◌∷◌, map as map_list}
use Rattle.std.proofs.Common.{length, get_or, inl, inr, ap, ◌∙◌, subst, arith, IsPermutation}
use Rattle.std.proofs.lemmas.List.Sorted.{IsPermutation-map, IsPermutation-sym, ranks_by, sorted_far}
use Rattle.std.specs.List.Sorted.{IsSortedBy}
use Rattle.std.specs.Ordering.{is_lt}
use Rattle.land_digest.proofs.Membership.{In, from_in_order, from_map, in_in_order}
use Rattle.land_digest.proofs.Order.{NoneBefore, permuted, same_up, total, up_from, up_in_order}
use Rattle.land_digest.specs.Entries.{event_of}
use Rattle.land_digest.specs.Events.{Event, event_cmp, have_distinct_places, in_order}
use Rattle.land_digest.specs.declared.entry.Entry.{Entry}

abbrev pub is_earlier : Entry → Entry → Bool
is_earlier a b = is_lt (event_cmp (event_of a) (event_of b))

place_in : (e : Entry) (es : List Entry) → In e es → (k : ℕ) × (k < length es) × (get_or es k e ≡ e)
place_in e [] i = elim i [ ]
place_in e (x ∷ es) (inl f) = (0, omega arith, f)
place_in e (x ∷ es) (inr i) = let a = place_in e es i in (suc a.0, omega (arith, a.1), a.2)

none_before : (es : List Entry) → IsSortedBy is_earlier es → NoneBefore (map_list event_of es)
none_before [] sorted = tt
none_before (x ∷ es) sorted = (first, none_before es rest)
  where
    first : (y : Event) → In y (map_list event_of es) → is_lt (event_cmp y (event_of x)) ≡ false
    first y i =
        let a = from_map event_of y es i in
        let k = place_in a.0 es a.1 in
        let h : is_earlier (get_or es k.0 a.0) x ≡ false =
        sorted_far is_earlier (ranks_by total event_of) (x ∷ es) sorted 0 (suc k.0) a.0 (omega arith)
        (omega (arith, k.1)) in
        subst (λ (y : Event). is_lt (event_cmp y (event_of x)) ≡ false) (ap event_of k.2 ∙ a.2) h

    rest : IsSortedBy is_earlier es
    rest k d low high =
        let moved : suc k + 1 ≡ suc (k + 1) = omega arith in
        subst (λ (n : ℕ). is_earlier (get_or (x ∷ es) n d) (get_or es k d) ≡ false) moved
        (sorted (suc k) d (omega arith) (omega (arith, high)))

-- entries that are sorted by place are in order
pub sorted_in_order : (xs ys : List Entry) → IsPermutation xs ys → IsSortedBy is_earlier ys
    → have_distinct_places (map_list event_of xs) ≡ true
    → map_list event_of ys ≡ in_order (map_list event_of xs)
sorted_in_order xs ys p sorted apart =
    let q = IsPermutation-map event_of xs ys p in
    let there = permuted (map_list event_of xs) (map_list event_of ys) q in
    let here = permuted (map_list event_of ys) (map_list event_of xs) (IsPermutation-sym _ _ q) in
    same_up (map_list event_of ys) (in_order (map_list event_of xs))
    (up_from (map_list event_of ys) (none_before ys sorted) (there.apart ∙ apart))
    (up_in_order (map_list event_of xs) apart)
    (λ z i. in_in_order z (map_list event_of xs) (here.to z i))
    (λ z i. there.to z (from_in_order z (map_list event_of xs) i))
