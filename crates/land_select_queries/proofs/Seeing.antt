-- The selections of a role return what the policy, without mandates, lets it see.
use Rattle.std.proofs.Common.{◌≡◌, inl, inr, ℕ, Bool, true, nat_lt, List, [], ◌∷◌, sym, subst, ◌∙◌}
use Rattle.std.proofs.lemmas.Bool.{eqb-true, ltb-true, and_parts}
use Rattle.std.proofs.lemmas.Map.Views.{Contains-from_any, list_any-from_Contains}
use Rattle.std.specs.Cmp.{nat_eq_equiv}
use Rattle.std.specs.List.{Contains, list_all}
use Rattle.land_core.specs.Laws.{SoundnessByNumber}
use Rattle.land_rules.specs.CircleLaws.{without_mandates}
use Rattle.land_rules.specs.Laws.{SeenListsAreExact}
use Rattle.land_rules.specs.Rules.{is_ascending_list}
use Rattle.land_select_queries.proofs.Ascending.{Ascends, ascend, same_list}
use Rattle.land_select_queries.proofs.Containing.{first_or_later, in_nothing}
use Rattle.land_select_queries.proofs.Deciding.{sight}
use Rattle.land_select_queries.proofs.References.{refers}
use Rattle.land_select_queries.specs.Sights.Laws.{SelectedIsSeen, SelectionsAreTheRules}

-- ---- the laws

pub the_rules : SeenListsAreExact → SoundnessByNumber → SelectionsAreTheRules
the_rules seen look_ups r h t premise stands caller k n =
    let decided = sight r t h stands (refers look_ups r premise) caller.party caller.role k n in
    let exact = (seen (without_mandates r) caller k).exact n in
    ((λ some. Contains-from_any eqb-true n _ (exact ∙ decided.1 some)), (λ among. decided.0 (sym exact ∙ list_any-from_Contains nat_eq_equiv n _ among)))

-- the visible numbers are increasing
all_pass : (p : ℕ → Bool) (xs : List ℕ) → list_all p xs ≡ true → (y : ℕ) → Contains xs y → p y ≡ true
all_pass p [] h y among = absurd (in_nothing y among)
all_pass p (x ∷ xs) h y among =
    let both = and_parts (p x) (list_all p xs) h in
    elim (first_or_later x xs y among) [ inl same ↦ subst (λ z. p z ≡ true) same both.0 | inr more ↦ all_pass p xs both.1 y more ]

pub ascending : (xs : List ℕ) → is_ascending_list xs ≡ true → Ascends xs
ascending [] h = tt
ascending (x ∷ xs) h =
    let both = and_parts (list_all (nat_lt x) xs) (is_ascending_list xs) h in
    ((λ y among. ltb-true x y (all_pass (nat_lt x) xs both.0 y among)), ascending xs both.1)

pub one_seen : SelectionsAreTheRules → SeenListsAreExact → SelectedIsSeen
one_seen law seen r h t premise stands caller k listed rising same =
    same_list listed _ (ascend listed rising) (ascending _ (seen (without_mandates r) caller k).ascending)
    (λ n. let rules = law r h t premise stands caller k n in ((λ among. rules.0 ((same n).0 among)), (λ among. (same n).1 (rules.1 among))))
