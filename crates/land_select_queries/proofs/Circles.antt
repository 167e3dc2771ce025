-- A citizen sees what its circle selects; for other roles mandates add nothing.
use Rattle.std.proofs.Common.{◌≡◌, ◌↔◌, ℕ, ℤ, Bool, true, false, ◌&&◌, not, nat_eq, List, [], ◌∷◌, ◌||◌, ◌==◌, length, refl, sym, subst, ap, ◌∙◌, IsPermutation}
use Rattle.std.proofs.lemmas.Bool.{eqb-true, false≢true}
use Rattle.std.proofs.lemmas.Bool.Decides.{Decides-eqb}
use Rattle.std.proofs.lemmas.List.{nil_from_length}
use Rattle.std.proofs.lemmas.List.Sorted.{Contains-permutation, IsPermutation-sym}
use Rattle.std.proofs.lemmas.Map.Views.{Contains-from_any, list_any-from_Contains}
use Rattle.std.specs.Bool.{Decides}
use Rattle.std.specs.Cmp.{nat_eq_equiv}
use Rattle.std.specs.List.{Contains, list_any}
use Rattle.std.specs.List.Sorted.{IsStrictlyIncreasing}
use Rattle.land_core.specs.Role.{is_role}
use Rattle.land_core.specs.declared.caller.Caller.{Caller}
use Rattle.land_core.specs.declared.kind.Kind.{Kind}
use Rattle.land_core.specs.declared.kind.Kind.TheVariants as kind
use Rattle.land_core.specs.declared.register.Register.{Register}
use Rattle.land_core.specs.declared.role.Role.{Role}
use Rattle.land_core.specs.declared.role.Role.TheVariants.{Citizen, Conveyancer, Notary, Bank, CertifiedSurveyor, StateAdministrator}
use Rattle.land_rules.specs.CircleLaws.{CirclesSeeTogether, without_mandates}
use Rattle.land_rules.specs.Circles.{circle_of}
use Rattle.land_rules.specs.Denials.Sight.{sees_all}
use Rattle.land_rules.specs.Laws.{IsSoundOrNothing, SeenListsAreExact, citizen}
use Rattle.land_rules.specs.Rules.{seen_of}
use Rattle.land_select_queries.proofs.Ascending.{ascend, same_list}
use Rattle.land_select_queries.proofs.Containing.{any_decides, first, in_nothing}
use Rattle.land_select_queries.proofs.Seeing.{ascending}
use Rattle.land_select_queries.proofs.United.{given_by, given_to}
use Rattle.land_select_queries.specs.Joins.Execution.{AnySelectsFor, AreExactly}
use Rattle.land_select_queries.specs.Joins.Sight.{HoldsNoMandate}
use Rattle.land_select_queries.specs.Sights.{AnySelects, selections_of}
use Rattle.land_select_queries.specs.Sights.Laws.{SelectionsAreTheRules}
use Rattle.land_select_queries.specs.declared.sights.selection.Selection.{Selection}
use Rattle.land_tables_history.specs.History.{IsRegisterAt}
use Rattle.land_tables_history.specs.declared.history.History.{History}

module _ (rules : SelectionsAreTheRules) (seen : SeenListsAreExact) (together : CirclesSeeTogether) (r : Register) (t : ℤ) (h : History) (premise : IsSoundOrNothing r) (stands : IsRegisterAt t h r) (party : ℕ) (k : Kind) where
  abbrev pub given : List Selection
  given = selections_of Citizen k

  -- a citizen sees a number if one of its circle would see it without mandates, which is what that one
  -- selects
  abbrev is_shown : (number one : ℕ) → Bool
  is_shown number one = list_any (nat_eq number) (seen_of (without_mandates r) (citizen one) k)

  shown_decides : (number one : ℕ) → Decides (is_shown number one) (AnySelects given t h one number)
  shown_decides number one =
      let both = rules r h t premise stands (citizen one) k number in
      ((λ is. both.1 (Contains-from_any eqb-true number _ is)), (λ some. list_any-from_Contains nat_eq_equiv number _ (both.0 some)))

  circle_decides : (number : ℕ) → Decides (list_any (is_shown number) (circle_of r party)) ((one : ℕ) × Contains (circle_of r party) one × AnySelects given t h one number)
  circle_decides number = any_decides (is_shown number) (λ one. AnySelects given t h one number) (circle_of r party) (λ one among. shown_decides number one)

  -- so the numbers of the circle, in increasing order and each once, are the list of what the citizen sees
  pub seen_by_circle : (callers listed : List ℕ) → ((number : ℕ) → Contains callers number ↔ Contains (circle_of r party) number) → AreExactly listed (AnySelectsFor given t h callers) → IsStrictlyIncreasing listed
      → listed ≡ seen_of r (citizen party) k
  seen_by_circle callers listed are all rising =
      same_list listed _ (ascend listed rising) (ascending _ (seen r (citizen party) k).ascending) (λ number. (forth number, back number))
    where
      forth : (number : ℕ) → Contains listed number → Contains (seen_of r (citizen party) k) number
      forth number among =
          let it = given_to given t h number callers ((all number).0 among) in
          Contains-from_any eqb-true number _ ((together r party k number).listed ∙ (circle_decides number).1 (it.0, (are it.0).0 it.1, it.2))

      back : (number : ℕ) → Contains (seen_of r (citizen party) k) number → Contains listed number
      back number among =
          let it = (circle_decides number).0 (sym (together r party k number).listed ∙ list_any-from_Contains nat_eq_equiv number _ among) in
          (all number).1 (given_by given t h number callers it.0 ((are it.0).1 it.1) it.2)

or_false : (b : Bool) → (b || false) ≡ b
or_false true = refl
or_false false = refl

-- a list of length 0 is empty
pub none_in : (xs : List ℕ) → (length xs == 0) ≡ true → xs ≡ []
none_in xs h = nil_from_length xs ((Decides-eqb (length xs) 0).0 h)

-- a list with the members of an empty one is empty
pub none_permuted : (xs ys : List ℕ) → IsPermutation xs ys → xs ≡ [] → ys ≡ []
none_permuted xs [] are none = refl
none_permuted xs (y ∷ ys) are none = absurd (in_nothing y (subst (λ l. Contains l y) none (Contains-permutation (y ∷ ys) xs y (IsPermutation-sym xs (y ∷ ys) are) (first y ys))))

-- a citizen that holds no mandate sees the same without mandates
pub seen_alone : SeenListsAreExact → CirclesSeeTogether → (r : Register) (party : ℕ) (k : Kind) → HoldsNoMandate r party → seen_of (without_mandates r) (citizen party) k ≡ seen_of r (citizen party) k
seen_alone seen together r party k none =
    same_list _ _ (ascending _ (seen (without_mandates r) (citizen party) k).ascending) (ascending _ (seen r (citizen party) k).ascending) (λ number. (forth number, back number))
  where
    same : (number : ℕ) → list_any (nat_eq number) (seen_of r (citizen party) k) ≡ list_any (nat_eq number) (seen_of (without_mandates r) (citizen party) k)
    same number =
        (together r party k number).listed
        ∙ ap (λ others. list_any (λ p. list_any (nat_eq number) (seen_of (without_mandates r) (citizen p) k)) (party ∷ others)) none
        ∙ or_false (list_any (nat_eq number) (seen_of (without_mandates r) (citizen party) k))

    forth : (number : ℕ) → Contains (seen_of (without_mandates r) (citizen party) k) number → Contains (seen_of r (citizen party) k) number
    forth number among = Contains-from_any eqb-true number _ (same number ∙ list_any-from_Contains nat_eq_equiv number _ among)

    back : (number : ℕ) → Contains (seen_of r (citizen party) k) number → Contains (seen_of (without_mandates r) (citizen party) k) number
    back number among = Contains-from_any eqb-true number _ (sym (same number) ∙ list_any-from_Contains nat_eq_equiv number _ among)

-- a caller in the role of a citizen is a citizen
pub citizen_is : (party : ℕ) (role : Role) → is_role role Citizen ≡ true → ◌≡◌ {A = Caller} (citizen party) (record { party = party; role = role })
citizen_is party Citizen is = refl
citizen_is party Conveyancer is = absurd (false≢true is)
citizen_is party Notary is = absurd (false≢true is)
citizen_is party Bank is = absurd (false≢true is)
citizen_is party CertifiedSurveyor is = absurd (false≢true is)
citizen_is party StateAdministrator is = absurd (false≢true is)

-- if mandates add to a caller's sight, its role is citizen
pub is_of_citizen : (role : Role) (k : Kind) → (is_role role Citizen && not (sees_all role k)) ≡ true → is_role role Citizen ≡ true
is_of_citizen Citizen k is = refl
is_of_citizen Conveyancer k is = absurd (false≢true is)
is_of_citizen Notary k is = absurd (false≢true is)
is_of_citizen Bank k is = absurd (false≢true is)
is_of_citizen CertifiedSurveyor k is = absurd (false≢true is)
is_of_citizen StateAdministrator k is = absurd (false≢true is)

-- in other roles, and for what all see, the sight does not depend on mandates
pub seen_alike : (at : Register) (party : ℕ) (role : Role) (k : Kind) → (is_role role Citizen && not (sees_all role k)) ≡ false
    → seen_of (without_mandates at) (record { party = party; role = role }) k ≡ seen_of at (record { party = party; role = role }) k
seen_alike at party Citizen kind.Party is = absurd (false≢true (sym is))
seen_alike at party Citizen kind.Unit is = absurd (false≢true (sym is))
seen_alike at party Citizen kind.Parcel is = refl
seen_alike at party Citizen kind.Rrr is = absurd (false≢true (sym is))
seen_alike at party Citizen kind.Source is = absurd (false≢true (sym is))
seen_alike at party Citizen kind.Mutation is = absurd (false≢true (sym is))
seen_alike at party Conveyancer kind.Party is = refl
seen_alike at party Conveyancer kind.Unit is = refl
seen_alike at party Conveyancer kind.Parcel is = refl
seen_alike at party Conveyancer kind.Rrr is = refl
seen_alike at party Conveyancer kind.Source is = refl
seen_alike at party Conveyancer kind.Mutation is = refl
seen_alike at party Notary kind.Party is = refl
seen_alike at party Notary kind.Unit is = refl
seen_alike at party Notary kind.Parcel is = refl
seen_alike at party Notary kind.Rrr is = refl
seen_alike at party Notary kind.Source is = refl
seen_alike at party Notary kind.Mutation is = refl
seen_alike at party Bank kind.Party is = refl
seen_alike at party Bank kind.Unit is = refl
seen_alike at party Bank kind.Parcel is = refl
seen_alike at party Bank kind.Rrr is = refl
seen_alike at party Bank kind.Source is = refl
seen_alike at party Bank kind.Mutation is = refl
seen_alike at party CertifiedSurveyor kind.Party is = refl
seen_alike at party CertifiedSurveyor kind.Unit is = refl
seen_alike at party CertifiedSurveyor kind.Parcel is = refl
seen_alike at party CertifiedSurveyor kind.Rrr is = refl
seen_alike at party CertifiedSurveyor kind.Source is = refl
seen_alike at party CertifiedSurveyor kind.Mutation is = refl
seen_alike at party StateAdministrator kind.Party is = refl
seen_alike at party StateAdministrator kind.Unit is = refl
seen_alike at party StateAdministrator kind.Parcel is = refl
seen_alike at party StateAdministrator kind.Rrr is = refl
seen_alike at party StateAdministrator kind.Source is = refl
seen_alike at party StateAdministrator kind.Mutation is = refl
