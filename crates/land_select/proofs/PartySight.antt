-- The parties that a caller sees follow from its names and from the viewers of a party.
use Rattle.std.proofs.Common.{◌≡◌, ◌⊎◌, ◌↔◌, inl, inr, ℕ, ℤ, Bool, true, false, cond, not, ◌&&◌, nat_eq, List, [], ◌∷◌, None, Some, Option, refl, sym, ap, subst, ◌∙◌}
use Rattle.std.proofs.lemmas.Bool.{eqb-true, false≢true}
use Rattle.std.proofs.lemmas.Bool.Decides.{Decides-at, Decides-eqb, Decides-like, Decides-or, same_from_decides}
use Rattle.std.proofs.lemmas.Map.Views.{Contains-from_any, list_any-from_Contains}
use Rattle.std.specs.Bool.{Decides}
use Rattle.std.specs.Cmp.{nat_eq_equiv}
use Rattle.std.specs.List.{Contains, list_any}
use Rattle.land_core.proofs.Booleans.{same_tests}
use Rattle.land_core.specs.Register.{stands}
use Rattle.land_core.specs.Role.{is_role}
use Rattle.land_core.specs.declared.caller.Caller.{Caller}
use Rattle.land_core.specs.declared.kind.Kind.TheVariants.{Party}
use Rattle.land_core.specs.declared.register.Register.{Register}
use Rattle.land_core.specs.declared.role.Role.{Role}
use Rattle.land_core.specs.declared.role.Role.TheVariants.{Citizen, Conveyancer, Notary, Bank, CertifiedSurveyor, StateAdministrator}
use Rattle.land_rules.specs.CircleLaws.{CirclesSeeTogether, without_mandates}
use Rattle.land_rules.specs.Circles.{circle_of, is_name_of}
use Rattle.land_rules.specs.Denials.Interests.{AreNamesOf}
use Rattle.land_rules.specs.Denials.Sight.{sees_all}
use Rattle.land_rules.specs.Laws.{IsSoundOrNothing, SeenListsAreExact, citizen}
use Rattle.land_rules.specs.Relations.{holds_under_name, is_member_of}
use Rattle.land_rules.specs.Rules.{is_allowed, seen_of, sees}
use Rattle.land_rules.specs.declared.verdict.Verdict.TheVariants.{Allowed, Denied}
use Rattle.land_select.specs.Parties.{AreOtherNames, AreOwnNames, is_own_name, relation_of}
use Rattle.land_select_queries.proofs.Circles.{seen_alike}
use Rattle.land_select_queries.proofs.Containing.{any_decides, first, first_or_later, in_nothing}
use Rattle.land_select_queries.proofs.Naming.{Joins, member_decides}
use Rattle.land_select_queries.proofs.Standing.{has_decides}
use Rattle.land_select_queries.proofs.Views.{plain}
use Rattle.land_select_queries.specs.Joins.Execution.{AreExactly}
use Rattle.land_select_queries.specs.Lookups.Viewers.{IsViewer}
use Rattle.land_select_queries.specs.Sights.{AnySelects, selections_of}
use Rattle.land_select_queries.specs.Sights.Laws.{SelectionsAreTheRules}
use Rattle.land_select_queries.specs.Sights.Selections.{selects}
use Rattle.land_select_queries.specs.declared.lookups.relation.Relation.{Relation}
use Rattle.land_select_queries.specs.declared.lookups.relation.Relation.TheVariants.{Holding}
use Rattle.land_select_queries.specs.declared.sights.selection.Selection.TheVariants.{Itself, HeldParties, CreditParties, LodgedParties}
use Rattle.land_tables_history.specs.History.{IsRegisterAt}
use Rattle.land_tables_history.specs.declared.history.History.{History}

-- ---- names

-- those in which a citizen holds rights
pub own_of_citizen : (r : Register) (caller : Caller) (names : List ℕ) → is_role caller.role Citizen ≡ true → AreNamesOf r caller names → AreOwnNames caller names r
own_of_citizen r caller names is are named =
    subst (λ b. Contains names named ↔ (b ≡ true)) (sym (ap (λ b. cond b (is_name_of r (circle_of r caller.party) named) (nat_eq named caller.party)) is)) (are is named)

-- the caller itself, for other roles
pub own_of_other : (r : Register) (caller : Caller) (names : List ℕ) → is_role caller.role Citizen ≡ false → names ≡ caller.party ∷ [] → AreOwnNames caller names r
own_of_other r caller names other are named =
    subst (λ b. Contains names named ↔ (b ≡ true)) (sym (ap (λ b. cond b (is_name_of r (circle_of r caller.party) named) (nat_eq named caller.party)) other))
    (subst (λ l. Contains l named ↔ (nat_eq named caller.party ≡ true)) (sym are) (alone, back))
  where
    alone : Contains (caller.party ∷ []) named → nat_eq named caller.party ≡ true
    alone among = elim (first_or_later caller.party [] named among) [
      | inl same ↦ (Decides-eqb named caller.party).1 (sym same)
      | inr none ↦ absurd (in_nothing named none)
    ]

    back : nat_eq named caller.party ≡ true → Contains (caller.party ∷ []) named
    back is = subst (Contains (caller.party ∷ [])) (sym (eqb-true named caller.party is)) (first caller.party [])

module _ (r : Register) (caller : Caller) (names : List ℕ) (own : AreOwnNames caller names r) where
  -- a name is in the list
  pub listed_decides : (named : ℕ) → Decides (list_any (nat_eq named) names) (is_own_name r caller named ≡ true)
  listed_decides named = ((λ is. (own named).0 (Contains-from_any eqb-true named names is)), (λ is. list_any-from_Contains nat_eq_equiv named names ((own named).1 is)))

  pub listed_is : (named : ℕ) → list_any (nat_eq named) names ≡ is_own_name r caller named
  listed_is named = same_from_decides _ _ (listed_decides named) (plain (is_own_name r caller named))

-- ---- a visible party exists

last_rule : (a b c d s : Bool) → is_allowed (cond a (Denied 13) (cond b (Denied 17) (cond c (Denied 21) (cond d (Denied 24) (cond (not s) (Denied 27) Allowed))))) ≡ true → s ≡ true
last_rule a b c d true h = refl
last_rule true b c d false h = absurd (false≢true h)
last_rule false true c d false h = absurd (false≢true h)
last_rule false false true d false h = absurd (false≢true h)
last_rule false false false true false h = absurd (false≢true h)
last_rule false false false false false h = absurd (false≢true h)

seen_stands : (r : Register) (caller : Caller) (n : ℕ) → sees r caller Party n ≡ true → stands r Party n ≡ true
seen_stands r caller n = last_rule _ _ _ _ _

-- ---- why a party is visible

module _ (rules : SelectionsAreTheRules) (seen : SeenListsAreExact) (together : CirclesSeeTogether) (r : Register) (t : ℤ) (h : History) (premise : IsSoundOrNothing r) (is : IsRegisterAt t h r) (n : ℕ) where
  -- a caller that would see the party without mandates selects it
  alone_decides : (caller : Caller) → Decides (list_any (nat_eq n) (seen_of (without_mandates r) caller Party)) (AnySelects (selections_of caller.role Party) t h caller.party n)
  alone_decides caller =
      let both = rules r h t premise is caller Party n in
      ((λ shown. both.1 (Contains-from_any eqb-true n _ shown)), (λ given. list_any-from_Contains nat_eq_equiv n _ (both.0 given)))

  -- so a citizen sees it if one of its circle selects it
  abbrev GivenToCircle : (party : ℕ) → Type 0
  GivenToCircle party = (one : ℕ) × Contains (circle_of r party) one × AnySelects (selections_of Citizen Party) t h one n

  citizen_decides : (party : ℕ) → Decides (sees r (citizen party) Party n) (GivenToCircle party)
  citizen_decides party =
      Decides-at _ _ (sym ((seen r (citizen party) Party).exact n) ∙ (together r party Party n).listed)
      (any_decides (λ one. list_any (nat_eq n) (seen_of (without_mandates r) (citizen one) Party)) (λ one. AnySelects (selections_of Citizen Party) t h one n) (circle_of r party) (λ one among. alone_decides (citizen one)))

  -- and a caller in another role sees what it selects
  other_decides : (party : ℕ) (role : Role) → is_role role Citizen ≡ false → Decides (sees r (record { party = party; role = role }) Party n) (AnySelects (selections_of role Party) t h party n)
  other_decides party role other =
      Decides-at _ _ (sym ((seen r (record { party = party; role = role }) Party).exact n) ∙ ap (list_any (nat_eq n)) (sym (seen_alike r party role Party (ap (λ b. b && not (sees_all role Party)) other))))
      (alone_decides (record { party = party; role = role }))

  -- a citizen holds rights in the name of one of its circle, or of a group with a member in the circle
  name_decides : (party named : ℕ) → Decides (is_name_of r (circle_of r party) named) ((one : ℕ) × Contains (circle_of r party) one × ((named ≡ one) ⊎ Joins t h named one))
  name_decides party named =
      any_decides (λ one. holds_under_name r one named) (λ one. (named ≡ one) ⊎ Joins t h named one) (circle_of r party)
      (λ one among. Decides-or (nat_eq named one) (is_member_of r one named) (Decides-eqb named one) (member_decides r t h is named one))

  -- a name of the caller that is a viewer of the party
  abbrev ToldBy : Option Relation → Caller → Type 0
  ToldBy None caller = ⊥
  ToldBy (Some relation) caller = (seer : ℕ) × (is_own_name r caller seer ≡ true) × IsViewer relation t h n seer

  -- ---- a citizen

  -- a party that one of the circle selects is a name of the circle, or has a viewer in it
  named_or_told : (party one : ℕ) → Contains (circle_of r party) one → AnySelects (selections_of Citizen Party) t h one n → (is_name_of r (circle_of r party) n ≡ true) ⊎ ToldBy (Some Holding) (citizen party)
  named_or_told party one among (inl it) = inl ((name_decides party n).1 (one, among, inl (sym it.3 ∙ it.2)))
  named_or_told party one among (inr (inl it)) = inl ((name_decides party n).1 (one, among, inr (it.0, it.1, it.3, it.2)))
  named_or_told party one among (inr (inr (inl it))) = inr (one, (name_decides party one).1 (one, among, inl refl), it)
  named_or_told party one among (inr (inr (inr (inl it)))) =
      let told = it.1 in
      let through = told.interest in
      inr (
        told.held.1.party,
        (name_decides party told.held.1.party).1 (one, among, inr (through.joined, through.joined_stands, sym through.group, through.member)),
        (
          it.0,
          record { held = told.held; interest = record { stands = through.stands; party = refl; class = through.class }; stands = told.stands; unit = told.unit; yields = told.yields },
          it.2,
        ),
      )
  named_or_told party one among (inr (inr (inr (inr none)))) = absurd none

  -- and a party with a viewer among the names of the circle is selected for one of it
  told_to_name : (party : ℕ) → ToldBy (Some Holding) (citizen party) → sees r (citizen party) Party n ≡ true
  told_to_name party told =
      let it = (name_decides party told.0).0 told.1 in
      let seen_by = told.2 in
      (citizen_decides party).1 (
        it.0,
        it.1,
        elim it.2 [
          | inl same ↦ inr (inr (inl (subst (λ p. selects HeldParties t h p n) same seen_by)))
          | inr joins ↦ inr (inr (inr (inl (
            seen_by.0,
            record {
              held = seen_by.1.held;
              interest = record {
                joined = joins.0;
                joined_stands = joins.1;
                stands = seen_by.1.interest.stands;
                group = seen_by.1.interest.party ∙ sym joins.2;
                member = joins.3;
                class = seen_by.1.interest.class;
              };
              stands = seen_by.1.stands;
              unit = seen_by.1.unit;
              yields = seen_by.1.yields;
            },
            seen_by.2,
          ))))
        ],
      )

  -- an existing name of the circle is visible
  name_is_seen : (party : ℕ) → is_name_of r (circle_of r party) n ≡ true → stands r Party n ≡ true → sees r (citizen party) Party n ≡ true
  name_is_seen party named there =
      let it = (name_decides party n).0 named in
      let one = (has_decides t h.parties r.parties is.parties n).0 there in
      (citizen_decides party).1 (
        it.0,
        it.1,
        elim it.2 [
          | inl same ↦ inl (one.0, one.1, one.2 ∙ same, one.2)
          | inr joins ↦ inr (inl (joins.0, joins.1, joins.3, joins.2))
        ],
      )

  -- ---- another caller

  itself_is_given : (party : ℕ) → nat_eq n party ≡ true → stands r Party n ≡ true → (more : Type 0) → selects Itself t h party n ⊎ more
  itself_is_given party named there more =
      let one = (has_decides t h.parties r.parties is.parties n).0 there in
      inl (one.0, one.1, one.2 ∙ eqb-true n party named, one.2)

  other_name : (party : ℕ) → nat_eq n party ≡ false → selects Itself t h party n → ⊥
  other_name party other it = false≢true (sym other ∙ (Decides-eqb n party).1 (sym it.3 ∙ it.2))

  -- ---- all callers

  -- a name of the caller is visible exactly if it exists
  pub named_is : (party : ℕ) (role : Role) → sees_all role Party ≡ false → is_own_name r (record { party = party; role = role }) n ≡ true → stands r Party n ≡ sees r (record { party = party; role = role }) Party n
  named_is party Citizen all named = same_tests _ _ (name_is_seen party named) (seen_stands r (citizen party) n)
  named_is party Conveyancer all named = same_tests _ _ (λ there. (other_decides party Conveyancer refl).1 (itself_is_given party named there _)) (seen_stands r (record { party = party; role = Conveyancer }) n)
  named_is party Notary all named = absurd (false≢true (sym all))
  named_is party Bank all named = same_tests _ _ (λ there. (other_decides party Bank refl).1 (itself_is_given party named there _)) (seen_stands r (record { party = party; role = Bank }) n)
  named_is party CertifiedSurveyor all named = same_tests _ _ (λ there. (other_decides party CertifiedSurveyor refl).1 (itself_is_given party named there _)) (seen_stands r (record { party = party; role = CertifiedSurveyor }) n)
  named_is party StateAdministrator all named = absurd (false≢true (sym all))

  -- another party is visible exactly if one of the caller's names is its viewer
  pub told_decides : (party : ℕ) (role : Role) → sees_all role Party ≡ false → is_own_name r (record { party = party; role = role }) n ≡ false
      → Decides (sees r (record { party = party; role = role }) Party n) (ToldBy (relation_of role) (record { party = party; role = role }))
  told_decides party Citizen all other = (
    (λ it. let given = (citizen_decides party).0 it in elim (named_or_told party given.0 given.1 given.2) [ inl named ↦ absurd (false≢true (sym other ∙ named)) | inr told ↦ told ]),
    told_to_name party,
  )
  told_decides party Conveyancer all other = (
    (λ it. elim ((other_decides party Conveyancer refl).0 it) [ inl itself ↦ absurd (other_name party other itself) | inr more ↦ elim more [ inl told ↦ (party, (Decides-eqb party party).1 refl, told) | inr none ↦ absurd none ] ]),
    (λ told. (other_decides party Conveyancer refl).1 (inr (inl (subst (λ p. selects LodgedParties t h p n) (eqb-true told.0 party told.1) told.2)))),
  )
  told_decides party Notary all other = absurd (false≢true (sym all))
  told_decides party Bank all other = (
    (λ it. elim ((other_decides party Bank refl).0 it) [ inl itself ↦ absurd (other_name party other itself) | inr more ↦ elim more [ inl told ↦ (party, (Decides-eqb party party).1 refl, told) | inr none ↦ absurd none ] ]),
    (λ told. (other_decides party Bank refl).1 (inr (inl (subst (λ p. selects CreditParties t h p n) (eqb-true told.0 party told.1) told.2)))),
  )
  told_decides party CertifiedSurveyor all other = (
    (λ it. elim ((other_decides party CertifiedSurveyor refl).0 it) [ inl itself ↦ absurd (other_name party other itself) | inr none ↦ absurd none ]),
    (λ none. absurd none),
  )
  told_decides party StateAdministrator all other = absurd (false≢true (sym all))

  -- ---- reads

  module _ (caller : Caller) (all : sees_all caller.role Party ≡ false) (names : List ℕ) where
    -- a party that is one of the caller's names
    pub name_seen : AreOwnNames caller names r → list_any (nat_eq n) names ≡ true → stands r Party n ≡ sees r caller Party n
    name_seen own listed = named_is caller.party caller.role all (sym (listed_is r caller names own n) ∙ listed)

    other_is : AreOtherNames caller names n r → is_own_name r caller n ≡ false
    other_is others = sym (listed_is r caller names others.0 n) ∙ others.1

    -- another one, without viewers
    pub unseen : AreOtherNames caller names n r → relation_of caller.role ≡ None → false ≡ sees r caller Party n
    unseen others none =
        same_from_decides _ _ ((λ e. absurd (false≢true e)), (λ told. absurd told))
        (subst (λ o. Decides (sees r caller Party n) (ToldBy o caller)) none (told_decides caller.party caller.role all (other_is others)))

    -- another one, with viewers
    pub told_seen : (relation : Relation) (viewers_of_party : List ℕ) → AreOtherNames caller names n r → relation_of caller.role ≡ Some relation → AreExactly viewers_of_party (IsViewer relation t h n)
        → list_any (λ seer. list_any (nat_eq seer) names) viewers_of_party ≡ sees r caller Party n
    told_seen relation viewers_of_party others some are =
        same_from_decides _ _
        (Decides-like _ (λ it. (it.0, it.2, (are it.0).0 it.1)) (λ told. (told.0, (are told.0).1 told.2, told.1))
        (any_decides (λ seer. list_any (nat_eq seer) names) (λ seer. is_own_name r caller seer ≡ true) viewers_of_party (λ seer among. listed_decides r caller names others.0 seer)))
        (subst (λ o. Decides (sees r caller Party n) (ToldBy o caller)) some (told_decides caller.party caller.role all (other_is others)))
