-- The route function agrees with the plain rule.
use Rattle.std.proofs.Common.{◌≡◌, ℕ, List, [], ◌∷◌, ◌++◌, Option, Some, None, option_map, refl, sym, ap, subst, ◌∙◌, true, false, cond, Bool, not, ◌==◌, ◌&&◌, codes, bytes_eq, append-nil}
use Rattle.std.proofs.lemmas.Slice.Eq.{bytes_eq-Decides}
use Rattle.std.proofs.lemmas.Bool.{and_parts, not-true}
use Rattle.land_core.proofs.Booleans.{and_false}
use Rattle.land_core.specs.declared.kind.Kind.{Kind}
use Rattle.land_core.specs.declared.kind.Kind.TheVariants as kind
use Rattle.land_wire.proofs.ActNames.{act_found, word_found}
use Rattle.land_wire.proofs.RouteTable.{after_is, same_byte}
use Rattle.land_wire.specs.Routes.{IsPathOf, Resource, act, without_prefix, before_slash, from_slash, has_slash, is_empty, is_segment, list, list_path, resource_of_act, resource_of_suffix, route_of, sheet, resource_of_sheet, resource_below_list, view, if_matched}
use Rattle.land_wire.specs.Routes.ActWords.{act_of, act_word}
use Rattle.land_wire.specs.declared.routes.act_word.ActWord.{ActWord}

-- ---- a segment with a word after it

slash_within : (p q : List ℕ) → has_slash (p ++ 47 ∷ q) ≡ true
slash_within [] q = refl
slash_within (b ∷ p) q = by (b == 47) (slash_within p q)
  where
    by : (v : Bool) → has_slash (p ++ 47 ∷ q) ≡ true → cond v true (has_slash (p ++ 47 ∷ q)) ≡ true
    by true e = refl
    by false e = e

no_part : (p q : List ℕ) → is_segment (p ++ 47 ∷ q) ≡ false
no_part p q = rw (slash_within p q) (and_false (not (is_empty (p ++ 47 ∷ q))))

front_is : (p q : List ℕ) → has_slash p ≡ false → before_slash (p ++ 47 ∷ q) ≡ p
front_is [] q e = refl
front_is (b ∷ p) q e = by (b == 47) e (front_is p q)
  where
    by : (v : Bool) → cond v true (has_slash p) ≡ false → (has_slash p ≡ false → before_slash (p ++ 47 ∷ q) ≡ p) → cond v [] (b ∷ before_slash (p ++ 47 ∷ q)) ≡ b ∷ p
    by true h onward = cc
    by false h onward = ap (λ x. b ∷ x) (onward h)

back_is : (p q : List ℕ) → has_slash p ≡ false → from_slash (p ++ 47 ∷ q) ≡ 47 ∷ q
back_is [] q e = refl
back_is (b ∷ p) q e = by (b == 47) e (back_is p q)
  where
    by : (v : Bool) → cond v true (has_slash p) ≡ false → (has_slash p ≡ false → from_slash (p ++ 47 ∷ q) ≡ 47 ∷ q) → cond v (b ∷ (p ++ 47 ∷ q)) (from_slash (p ++ 47 ∷ q)) ≡ 47 ∷ q
    by true h onward = cc
    by false h onward = onward h

whole : (q : List ℕ) → q ≡ before_slash q ++ from_slash q
whole [] = refl
whole (b ∷ q) = by (b == 47) (whole q)
  where
    by : (v : Bool) → q ≡ before_slash q ++ from_slash q → b ∷ q ≡ cond v [] (b ∷ before_slash q) ++ cond v (b ∷ q) (from_slash q)
    by true e = refl
    by false e = ap (λ x. b ∷ x) e

none_before : (q : List ℕ) → has_slash (before_slash q) ≡ false
none_before [] = refl
none_before (b ∷ q) = by (b == 47) refl (none_before q)
  where
    by : (v : Bool) → (b == 47) ≡ v → has_slash (before_slash q) ≡ false → has_slash (cond v [] (b ∷ before_slash q)) ≡ false
    by true e h = refl
    by false e h = rw (e, h) refl

-- ---- from the plain rule

pub named_found : (path : List ℕ) (r : Resource) → IsPathOf path r → route_of path ≡ Some r
named_found path (list kind.Party) h = rw h refl
named_found path (list kind.Unit) h = rw h refl
named_found path (list kind.Parcel) h = rw h refl
named_found path (list kind.Rrr) h = rw h refl
named_found path (list kind.Source) h = rw h refl
named_found path (list kind.Mutation) h = rw h refl
named_found path (view kind.Party part) h = rw (h.0, h.1) refl
named_found path (view kind.Unit part) h = rw (h.0, h.1) refl
named_found path (view kind.Parcel part) h = rw (h.0, h.1) refl
named_found path (view kind.Rrr part) h = rw (h.0, h.1) refl
named_found path (view kind.Source part) h = rw (h.0, h.1) refl
named_found path (view kind.Mutation part) h = rw (h.0, h.1) refl
named_found path (sheet part) h =
    let p = and_parts (not (is_empty part)) (not (has_slash part)) h.1 in
    let no_slash = not-true (has_slash part) p.1 in
    rw (h.0, no_part part (codes "sheet"), front_is part (codes "sheet") no_slash, back_is part (codes "sheet") no_slash, p.0) refl
named_found path (act word) h = rw (h, word_found (act_word word) word refl) refl

-- ---- to the plain rule

back : (o : Option (List ℕ)) (g : List ℕ → Option Resource) (y : Option Resource) (r : Resource) (P : Type 0)
    → ((rest : List ℕ) → o ≡ Some rest → g rest ≡ Some r → P) → (y ≡ Some r → P) → if_matched o g y ≡ Some r → P
back None g y r P here other e = other e
back (Some rest) g y r P here other e = here rest refl e

same_some : (a b : Resource) → Some a ≡ Some b → a ≡ b
same_some a b e = cc

act_names : (path rest : List ℕ) (r : Resource) → path ≡ codes "/acts/" ++ rest → resource_of_act rest ≡ Some r → IsPathOf path r
act_names path rest r p e = by (act_of rest) refl e
  where
    by : (o : Option ActWord) → act_of rest ≡ o → option_map act o ≡ Some r → IsPathOf path r
    by None f g = cc
    by (Some word) f g = subst (IsPathOf path) (same_some (act word) r g) (p ∙ ap (λ x. codes "/acts/" ++ x) (act_found rest word f))

sheet_names : (path q : List ℕ) (r : Resource) → path ≡ codes "/units/" ++ q → resource_of_sheet q ≡ Some r → IsPathOf path r
sheet_names path q r p e = by (not (is_empty (before_slash q))) (bytes_eq (from_slash q) (codes "/sheet")) refl refl e
  where
    by : (v u : Bool) → not (is_empty (before_slash q)) ≡ v → bytes_eq (from_slash q) (codes "/sheet") ≡ u
        → cond (v && u) (Some (sheet (before_slash q))) None ≡ Some r → IsPathOf path r
    by true true some ends f =
        let tail = (bytes_eq-Decides (from_slash q) (codes "/sheet")).0 ends in
        subst (IsPathOf path) (same_some (sheet (before_slash q)) r f)
        (p ∙ ap (λ x. codes "/units/" ++ x) (whole q ∙ ap (λ x. before_slash q ++ x) tail), rw (some, none_before q) refl)
    by true false some ends f = cc
    by false u some ends f = cc

kind_names : (k : Kind) (path rest : List ℕ) (r : Resource) → path ≡ list_path k ++ rest
    → ((q : List ℕ) → rest ≡ 47 ∷ q → resource_of_suffix k q ≡ Some r → IsPathOf path r) → resource_below_list k rest ≡ Some r → IsPathOf path r
kind_names k path [] r p others e = subst (IsPathOf path) (same_some (list k) r e) (p ∙ append-nil (list_path k))
kind_names k path (b ∷ q) r p others e = by (47 == b) (is_segment q) refl refl e
  where
    by : (v u : Bool) → (47 == b) ≡ v → is_segment q ≡ u → cond v (cond u (Some (view k q)) (resource_of_suffix k q)) None ≡ Some r → IsPathOf path r
    by true true same part f =
        let s = same_byte 47 b same in
        subst (IsPathOf path) (same_some (view k q) r f) (p ∙ ap (λ c. list_path k ++ c ∷ q) s, part)
    by true false same part f = let s = same_byte 47 b same in others q (ap (λ c. c ∷ q) s) f
    by false u same part f = cc

pub found_named : (path : List ℕ) (r : Resource) → route_of path ≡ Some r → IsPathOf path r
found_named path r =
    back (without_prefix (codes "/acts/") path) _ _ r (IsPathOf path r) (λ rest e. act_names path rest r (after_is (codes "/acts/") path rest e))
    (of_kind kind.Mutation (λ q e. absurd cc) _ (of_kind kind.Parcel (λ q e. absurd cc) _ (of_kind kind.Party (λ q e. absurd cc) _ (of_kind kind.Rrr (λ q e. absurd cc) _
    (of_kind kind.Source (λ q e. absurd cc) _
    (back (without_prefix (codes "/units") path) _ None r (IsPathOf path r)
    (λ rest e. let p = after_is (codes "/units") path rest e in
    kind_names kind.Unit path rest r p (λ q s f. sheet_names path q r (p ∙ ap (λ x. codes "/units" ++ x) s) f))
    (λ e. absurd cc)))))))
  where
    of_kind : (k : Kind) → ((q : List ℕ) → resource_of_suffix k q ≡ Some r → IsPathOf path r) → (y : Option Resource) → (y ≡ Some r → IsPathOf path r)
        → if_matched (without_prefix (list_path k) path) (resource_below_list k) y ≡ Some r → IsPathOf path r
    of_kind k none y other = back (without_prefix (list_path k) path) (resource_below_list k) y r (IsPathOf path r) (λ rest e. kind_names k path rest r (after_is (list_path k) path rest e) (λ q s f. none q f)) other

pub one_name : (path : List ℕ) (a b : Resource) → IsPathOf path a → IsPathOf path b → a ≡ b
one_name path a b h g = same_some a b (sym (named_found path a h) ∙ named_found path b g)
