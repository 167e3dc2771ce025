-- Lemmas on mandates: if none is dangling, each is between two single parties, and remains so.
use Rattle.std.proofs.Common.{◌≡◌, ℕ, Bool, true, false, not, ◌&&◌, ◌||◌, nat_eq, List, [], ◌∷◌, Some, refl, sym, ap, ◌∙◌}
use Rattle.std.proofs.lemmas.Bool.{false≢true}
use Rattle.std.specs.FinMap as map
use Rattle.std.specs.List.{list_any}
use Rattle.land_core.proofs.FiniteMaps.{none_is_not_some}
use Rattle.land_core.proofs.FiniteSets.{exact_mandates, mandates_total}
use Rattle.land_core.proofs.Reflection.{list_any-map, none_at, none_passes}
use Rattle.land_core.specs.Mandates.{mandate_cmp, mandates_in}
use Rattle.land_core.specs.Register.{has_single_party}
use Rattle.land_core.specs.Soundness.{has_dangling_mandate, is_dangling_mandate}
use Rattle.land_core.specs.declared.mandates.Mandate.{Mandate}
use Rattle.land_core.specs.declared.register.Register.{Register}

pub loose_mandates_from : (r : Register) → ((m : Mandate) → map.get r.mandates m ≡ Some tt → is_dangling_mandate r m ≡ false) → has_dangling_mandate r ≡ false
unfolding mandates_in
loose_mandates_from r h =
    list_any-map (λ (m : Mandate). is_dangling_mandate r m) (λ e. e.0) (map.entries r.mandates)
    ∙ none_passes mandates_total exact_mandates (λ m u. is_dangling_mandate r m) r.mandates (λ m u is. h m is)

pub mandates_from : (r : Register) → has_dangling_mandate r ≡ false → (m : Mandate) → map.get r.mandates m ≡ Some tt → is_dangling_mandate r m ≡ false
unfolding mandates_in
mandates_from r none m is =
    none_at mandates_total exact_mandates (λ m u. is_dangling_mandate r m) r.mandates m tt
    (sym (list_any-map (λ (m : Mandate). is_dangling_mandate r m) (λ e. e.0) (map.entries r.mandates)) ∙ none) is

-- if there are no mandates, none is dangling
pub no_mandates_are_tight : (r : Register) → r.mandates ≡ map.empty → has_dangling_mandate r ≡ false
no_mandates_are_tight r none = loose_mandates_from r (λ m is. absurd (none_is_not_some (sym (map.get-empty mandate_cmp m) ∙ sym (ap (λ ms. map.get ms m) none) ∙ is)))

both_fail : (a b c d : Bool) → (a ≡ false → c ≡ false) → (b ≡ false → d ≡ false) → (a || b) ≡ false → (c || d) ≡ false
both_fail true b c d f g e = absurd (false≢true (sym e))
both_fail false b true d f g e = absurd (false≢true (sym (f refl)))
both_fail false b false d f g e = g e

-- if all items that fail one test fail another, and none passes the one, none passes the other
none_more : {X : Type 0} (p q : X → Bool) → ((x : X) → p x ≡ false → q x ≡ false) → (xs : List X) → list_any p xs ≡ false → list_any q xs ≡ false
none_more p q h [] e = refl
none_more p q h (x ∷ xs) e = both_fail (p x) (list_any p xs) (q x) (list_any q xs) (h x) (none_more p q h xs) e

tight : (a b c d x : Bool) → (a ≡ true → c ≡ true) → (b ≡ true → d ≡ true) → not (a && b && x) ≡ false → not (c && d && x) ≡ false
tight true true true true x f g e = e
tight true true false d x f g e = absurd (false≢true (f refl))
tight true true true false x f g e = absurd (false≢true (g refl))
tight true false c d x f g e = absurd (false≢true (sym e))
tight false b c d x f g e = absurd (false≢true (sym e))

-- if single parties stay single, no mandate becomes dangling
pub mandates_stay : (r new : Register) → ((n : ℕ) → has_single_party r n ≡ true → has_single_party new n ≡ true) → new.mandates ≡ r.mandates → has_dangling_mandate r ≡ false
    → has_dangling_mandate new ≡ false
mandates_stay r new stay same none =
    ap (λ mandates. list_any (λ m. is_dangling_mandate new m) (mandates_in mandates)) same
    ∙ none_more (λ m. is_dangling_mandate r m) (λ m. is_dangling_mandate new m)
    (λ m e. tight (has_single_party r m.principal) (has_single_party r m.agent) (has_single_party new m.principal) (has_single_party new m.agent) (not (nat_eq m.principal m.agent))
    (stay m.principal) (stay m.agent) e) (mandates_in r.mandates) none
