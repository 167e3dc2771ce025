-- Proves the laws on callers, times and the acts that are reserved to roles.
use Rattle.std.proofs.Common.{◌≡◌, inl, inr, ℕ, ◌≤◌, Bool, true, false, ◌||◌, ◌&&◌, not, List, [], ◌∷◌, refl, sym, ap, ◌∙◌, subst, arith}
use Rattle.std.specs.Prelude.{◌≢◌, is_some, nat_eq}
use Rattle.std.proofs.lemmas.Bool.{false≢true, and_from, and_left, and_parts, and_right, eq-eqb, ne_eqb, not-false, not-true, or_from}
use Rattle.land_core.proofs.Booleans.{and_false, or_nothing, second_false}
use Rattle.land_core.specs.Register.{stands, holds}
use Rattle.land_core.specs.Role.{is_role}
use Rattle.land_core.specs.declared.act.Act.{Act}
use Rattle.land_core.specs.declared.act.Act.TheVariants as act
use Rattle.land_core.specs.declared.act.Lodging.{Lodging}
use Rattle.land_core.specs.declared.ask.Ask.{Ask}
use Rattle.land_core.specs.declared.ask.Ask.TheVariants as ask
use Rattle.land_core.specs.declared.caller.Caller.{Caller}
use Rattle.land_core.specs.declared.content.Content.{Content}
use Rattle.land_core.specs.declared.content.Content.TheVariants as content
use Rattle.land_core.specs.declared.content.Discharge.{Discharge}
use Rattle.land_core.specs.declared.content.Mortgage.{Mortgage}
use Rattle.land_core.specs.declared.content.Transfer.{Transfer}
use Rattle.land_core.specs.declared.kind.Kind.TheVariants as kind
use Rattle.land_core.specs.declared.merger.Merger.{Merger}
use Rattle.land_core.specs.declared.register.Register.{Register}
use Rattle.land_core.specs.declared.role.Role.{Role}
use Rattle.land_core.specs.declared.role.Role.TheVariants.{Conveyancer, Notary, Bank, CertifiedSurveyor, StateAdministrator}
use Rattle.land_core.specs.declared.subdivision.Subdivision.{Subdivision}
use Rattle.land_rules.proofs.Denied.{none_from_allowed, verdicts_least}
use Rattle.land_rules.specs.ActLaws.{approve_request, refuse_request}
use Rattle.land_rules.specs.Acts.{decides, is_between_others, is_discharge_of_another, is_mortgage_of, is_mortgage_of_another, changes_mortgages, is_mandate_act, may_lodge_mortgages, changes_outlines, may_lodge_transfers, is_office_act, is_transfer_content, lodges}
use Rattle.land_rules.specs.Relations.{has_lodged, is_rrr_where}
use Rattle.land_rules.specs.Rules.{Rules, act_rules, denies, first_denial, sees_only_present, rules_on, sight_rules, verdict_of}
use Rattle.land_rules.specs.StandingLaws.{OfficeActsAreForAdministrators, BanksAndNotariesLodgeMortgages, BanksDischargeTheirOwnMortgages, BanksLodgeTheirOwnMortgages, ConveyancersAndNotariesLodgeTransfers, IsAllowedTo, IsReservedTo, IsOfficeRequest, IsOfficeRequestForOthers, Lodges, LodgesMortgageOrDischarge, LodgesSubdivisionOrMerger, LodgesTransfer, RolesAreHeld, UnregisteredCallersAreDenied, SurveyorsLodgeSubdivisionsAndMergers, ThreeRolesSeeOnlyThePresent, has_role_among, is_in_role, is_lodging_act, may_make_request, roles_with_past}
use Rattle.land_rules.specs.declared.verdict.Verdict.{Verdict}
use Rattle.land_rules.specs.declared.verdict.Verdict.TheVariants.{Allowed}
use Rattle.land_rules.proofs.StandingTests.{not_both, nothing_there}
use Rattle.land_rules.proofs.Asked.{asks_for, asks_the_office, decides_for_others, discharge_of_another, lodges_it, lodges_mortgage_or_discharge, lodges_outline_change, lodges_transfer, mortgage_is_found, mortgage_of_another, mortgage_or_discharge_of, no_mortgage_found, of_the_office, office_lodges_nothing, outlines_are_no_transfer, outlines_of, transfer_of, withdraws_nothing}
use Rattle.land_rules.proofs.StandingRules.{allows, as_bank, closed_from, from_rule_1, from_rule_2, from_rule_3, from_rule_4, from_rule_5, from_rule_6, from_rule_7, from_rule_8, from_rule_9, in_role, late_is_allowed, may, no_past_from, none_before, past_from, present_from, rule_1, rule_2, rule_3, rule_4, rule_5, rule_6, rule_7, rule_8, rule_9}

module _ (now at : Register) (caller : Caller) (past : Bool) where
  -- a rule that denies such acts in all roles but some, if of the lower rules only the first three may deny
  -- such an act
  left_by : (roles : List Role) (k : ℕ) (these : Ask → Type 0) (test : Act → Bool) (a : Ask) → 4 ≤ k
      → (these a → asks_for test a ≡ true) → (asks_for test a ≡ true → these a)
      → denies k (rules_on now at caller a past) ≡ (asks_for test a && not (has_role_among roles caller))
      → (asks_for test a ≡ true → none_before now at caller past a 4 → none_before now at caller past a k)
      → IsReservedTo roles k these now at caller a past
  left_by roles k these test a le passes is says before = record {
    denied = (
      λ e.
          let it = ((verdicts_least now at caller a past).denied k).0 e in
          let parts = and_parts _ _ (sym says ∙ it.holds) in
          record { asker = may now at caller past a k le it.least; asked = is parts.0; other = not-true _ parts.1 },
      λ h.
          let asked = passes h.asked in
          ((verdicts_least now at caller a past).denied k).1 (record {
            holds = says ∙ and_from _ _ asked (ap not h.other);
            least = before asked (from_rule_4 now at caller past a h.asker);
          }),
    );
    allowed = λ asked e. not-false _ (second_false _ _ (passes asked) (sym says ∙ none_from_allowed (rules_on now at caller a past) e k));
  }

  office_left : (a : Ask) → IsReservedTo (StateAdministrator ∷ []) 4 IsOfficeRequest now at caller a past
  office_left a =
      left_by (StateAdministrator ∷ []) 4 IsOfficeRequest is_office_act a (omega arith) (asks_the_office a) (of_the_office a)
      (rule_4 now at caller past a
      ∙ ap (λ b. asks_for is_office_act a && not b) (sym (or_nothing (is_role caller.role StateAdministrator))))
      (λ asked before. before)

  transfers_left : (a : Ask) → IsReservedTo (Conveyancer ∷ Notary ∷ []) 5 LodgesTransfer now at caller a past
  transfers_left a =
      left_by (Conveyancer ∷ Notary ∷ []) 5 LodgesTransfer (lodges is_transfer_content) a (omega arith) (lodges_transfer a) (transfer_of a)
      (rule_5 now at caller past a
      ∙ ap (λ b. asks_for (lodges is_transfer_content) a && not (is_role caller.role Conveyancer || b))
      (sym (or_nothing (is_role caller.role Notary))))
      (from_rule_5 now at caller past is_transfer_content a)

  outlines_left : (a : Ask) → IsReservedTo (CertifiedSurveyor ∷ []) 6 LodgesSubdivisionOrMerger now at caller a past
  outlines_left a =
      left_by (CertifiedSurveyor ∷ []) 6 LodgesSubdivisionOrMerger (lodges changes_outlines) a (omega arith)
      (lodges_outline_change a) (outlines_of a)
      (rule_6 now at caller past a
      ∙ ap (λ b. asks_for (lodges changes_outlines) a && not b) (sym (or_nothing (is_role caller.role CertifiedSurveyor))))
      (from_rule_6 now at caller past changes_outlines outlines_are_no_transfer a)

  mortgages_left : (a : Ask) → IsReservedTo (Bank ∷ Notary ∷ []) 7 LodgesMortgageOrDischarge now at caller a past
  mortgages_left a =
      left_by (Bank ∷ Notary ∷ []) 7 LodgesMortgageOrDischarge (lodges changes_mortgages) a (omega arith)
      (lodges_mortgage_or_discharge a) (mortgage_or_discharge_of a)
      (rule_7 now at caller past a
      ∙ ap (λ b. asks_for (lodges changes_mortgages) a && not (is_role caller.role Bank || b))
      (sym (or_nothing (is_role caller.role Notary))))
      (from_rule_7 now at caller past a)

  -- none of the first three rules denies a caller that may make requests
  pub none_of_three : may_make_request now caller past ≡ true → (others : Bool) → others ≡ false
      → (not (stands now kind.Party caller.party) || (not (holds now caller.party caller.role) || (past && sees_only_present caller || others)))
      ≡ false
  none_of_three asker others none =
      let parts = and_parts (is_in_role now caller) (not past || has_role_among roles_with_past caller) asker in
      let held = and_parts (stands now kind.Party caller.party) (holds now caller.party caller.role) parts.0 in
      or_from _ _ (ap not held.0) (or_from _ _ (ap not held.1) (or_from _ _ (late_is_allowed past _ _ (present_from caller) parts.1) none))

  -- an act of the office that is not a decision on the caller's own mutation
  office_given : (a : Ask) → IsAllowedTo (StateAdministrator ∷ []) (IsOfficeRequestForOthers now caller.party) now at caller a past
  office_given a asker role it =
      subst (λ (x : Ask). verdict_of now at caller x past ≡ Allowed) (sym it.office.asked)
      (given it.office.act it.office.no_lodging it.office.no_mandate (decides_for_others now caller.party it.office.act
      (subst (λ (x : Ask). (number : ℕ) → has_lodged now caller.party number ≡ true → (x ≢ approve_request number) × (x ≢ refuse_request number))
      it.office.asked it.others)))
    where
      given : (it : Act) → is_lodging_act it ≡ false → is_mandate_act it ≡ false → decides (has_lodged now caller.party) it ≡ false
          → verdict_of now at caller (ask.Do it) past ≡ Allowed
      given it no_lodging no_mandate others =
          let nothing : (passes : Content → Bool) → lodges passes it ≡ false = λ passes. office_lodges_nothing passes it no_lodging in
          allows (rules_on now at caller (ask.Do it) past) (none_of_three asker _
          (or_from _ _ (and_right _ _ (ap not (sym (or_nothing _) ∙ role)))
          (or_from _ _ (and_left _ _ (nothing is_transfer_content))
          (or_from _ _ (and_left _ _ (nothing changes_outlines))
          (or_from _ _ (and_left _ _ (nothing changes_mortgages))
          (or_from _ _ (and_right _ _ (nothing (is_mortgage_of_another caller.party)))
          (or_from _ _ (and_right _ _ (nothing (is_discharge_of_another now caller.party)))
          (or_from _ _ others
          (or_from _ _ (and_left _ _ no_mandate)
          (or_from _ _ (withdraws_nothing (is_between_others caller.party) it no_mandate) refl))))))))))

  -- rules 5 to 9 on a lodged content
  record IsFree (c : Content) : Type 0 where
    transfer : (is_transfer_content c && not (may_lodge_transfers caller)) ≡ false
    outlines : (changes_outlines c && not (is_role caller.role CertifiedSurveyor)) ≡ false
    mortgage : (changes_mortgages c && not (may_lodge_mortgages caller)) ≡ false
    lent : (is_role caller.role Bank && is_mortgage_of_another caller.party c) ≡ false
    entry_of_ask : (is_role caller.role Bank && is_discharge_of_another now caller.party c) ≡ false

  lodging_given : (a : Ask) (c : Content) → Lodges c a → may_make_request now caller past ≡ true → IsFree c
      → verdict_of now at caller a past ≡ Allowed
  lodging_given a c it asker free =
      subst (λ (x : Ask). verdict_of now at caller x past ≡ Allowed) (sym it.asked) (given it.lodging (subst IsFree (sym it.content) free))
    where
      given : (lodging : Lodging) → IsFree lodging.content → verdict_of now at caller (ask.Do (act.Lodge lodging)) past ≡ Allowed
      given lodging free =
          allows (rules_on now at caller (ask.Do (act.Lodge lodging)) past) (none_of_three asker _
          (or_from _ _ free.transfer (or_from _ _ free.outlines (or_from _ _ free.mortgage
          (or_from _ _ free.lent (or_from _ _ free.entry_of_ask refl))))))

  free_transfer : (it : Transfer) → may_lodge_transfers caller ≡ true → IsFree (content.Transfer it)
  free_transfer it role = record {
    transfer = ap not role;
    outlines = refl;
    mortgage = refl;
    lent = and_false _;
    entry_of_ask = and_false _;
  }

  free_subdivision : (it : Subdivision) → is_role caller.role CertifiedSurveyor ≡ true → IsFree (content.Subdivision it)
  free_subdivision it role = record {
    transfer = refl;
    outlines = ap not role;
    mortgage = refl;
    lent = and_false _;
    entry_of_ask = and_false _;
  }

  free_merger : (it : Merger) → is_role caller.role CertifiedSurveyor ≡ true → IsFree (content.Merger it)
  free_merger it role = record {
    transfer = refl;
    outlines = ap not role;
    mortgage = refl;
    lent = and_false _;
    entry_of_ask = and_false _;
  }

  free_mortgage : (it : Mortgage) → may_lodge_mortgages caller ≡ true
      → (is_role caller.role Bank && not (nat_eq it.creditor caller.party)) ≡ false
      → IsFree (content.Mortgage it)
  free_mortgage it role lent = record {
    transfer = refl;
    outlines = refl;
    mortgage = ap not role;
    lent = lent;
    entry_of_ask = and_false _;
  }

  free_discharge : (it : Discharge) → may_lodge_mortgages caller ≡ true
      → (is_role caller.role Bank && not (is_rrr_where (is_mortgage_of caller.party) now it.mortgage)) ≡ false
      → IsFree (content.Discharge it)
  free_discharge it role entry_of_ask = record {
    transfer = refl;
    outlines = refl;
    mortgage = ap not role;
    lent = and_false _;
    entry_of_ask = entry_of_ask;
  }

  -- banks may lodge mortgages and discharges
  bank_lodges : is_role caller.role Bank ≡ true → may_lodge_mortgages caller ≡ true
  bank_lodges bank = ap (λ b. b || is_role caller.role Notary) bank

-- ---- the laws

pub strangers_are_denied : UnregisteredCallersAreDenied
strangers_are_denied now at caller a past = (
  λ e. nothing_there _ (not-true _ (sym (rule_1 now at caller past a) ∙ (((verdicts_least now at caller a past).denied 1).0 e).holds)),
  λ none. ((verdicts_least now at caller a past).denied 1).1 (record {
    holds = rule_1 now at caller past a ∙ ap (λ o. not (is_some o)) none;
    least = from_rule_1 now at caller past a;
  }),
)

pub roles_are_held : RolesAreHeld
roles_are_held now at caller a past = record {
  denied = (
    λ e.
        let it = ((verdicts_least now at caller a past).denied 2).0 e in
        record {
          party = not-false _ (sym (rule_1 now at caller past a) ∙ it.least 1 (omega arith));
          no_grant = nothing_there _ (not-true _ (sym (rule_2 now at caller past a) ∙ it.holds));
        },
    λ h. ((verdicts_least now at caller a past).denied 2).1 (record {
      holds = rule_2 now at caller past a ∙ ap (λ o. not (is_some o)) h.no_grant;
      least = from_rule_2 now at caller past a h.party;
    }),
  );
  allowed = λ e. let none = none_from_allowed (rules_on now at caller a past) e in in_role now at caller past a (none 1) (none 2);
}

-- the verdict if the condition of rule 3 is known
abbrev with_late : (now : Register) → Caller → Rules → (late : Bool) → Verdict
with_late now caller others late =
    first_denial ((1, not (stands now kind.Party caller.party)) ∷ (2, not (holds now caller.party caller.role)) ∷ (3, late) ∷ others)

-- a role that sees the past has the same verdict at each time
same_at_each_moment : (now at : Register) (caller : Caller) (a : Ask) → sees_only_present caller ≡ false
    → verdict_of now at caller a true ≡ verdict_of now at caller a false
same_at_each_moment now at caller (ask.View kind number moment) h =
    ap (with_late now caller (sight_rules at caller (ask.View kind number moment))) h
same_at_each_moment now at caller (ask.List kind moment) h = ap (with_late now caller []) h
same_at_each_moment now at caller (ask.Sheet unit moment) h = ap (with_late now caller (sight_rules at caller (ask.Sheet unit moment))) h
same_at_each_moment now at caller (ask.Do it) h = ap (with_late now caller (act_rules now caller it)) h

pub past_is_closed : ThreeRolesSeeOnlyThePresent
past_is_closed now at caller a = record {
  as_now = λ h. same_at_each_moment now at caller a (present_from caller h);
  allowed = λ e. past_from caller (sym (rule_3 now at caller true a) ∙ none_from_allowed (rules_on now at caller a true) e 3);
  denied = λ past. (
    λ e.
        let it = ((verdicts_least now at caller a past).denied 3).0 e in
        let parts = and_parts _ _ (sym (rule_3 now at caller past a) ∙ it.holds) in
        record {
          asker = in_role now at caller past a (it.least 1 (omega arith)) (it.least 2 (omega arith));
          late = parts.0;
          closed = no_past_from caller parts.1;
        },
    λ h. ((verdicts_least now at caller a past).denied 3).1 (record {
      holds = rule_3 now at caller past a ∙ and_from _ _ h.late (closed_from caller h.closed);
      least = from_rule_3 now at caller past a h.asker;
    }),
  );
}

pub office_acts_are_reserved : OfficeActsAreForAdministrators
office_acts_are_reserved now at caller a past = record {
  left = office_left now at caller past a;
  given = office_given now at caller past a;
}

pub transfers_are_left : ConveyancersAndNotariesLodgeTransfers
transfers_are_left now at caller a past = record {
  left = transfers_left now at caller past a;
  given = λ asker role it.
      lodging_given now at caller past a (content.Transfer it.0) it.1 asker (free_transfer now at caller past it.0 (two_roles role));
}
  where
    two_roles : has_role_among (Conveyancer ∷ Notary ∷ []) caller ≡ true → may_lodge_transfers caller ≡ true
    two_roles role = ap (λ b. is_role caller.role Conveyancer || b) (sym (or_nothing (is_role caller.role Notary))) ∙ role

pub outlines_are_left : SurveyorsLodgeSubdivisionsAndMergers
outlines_are_left now at caller a past = record {
  left = outlines_left now at caller past a;
  given = λ asker role. given asker (sym (or_nothing _) ∙ role);
}
  where
    given : may_make_request now caller past ≡ true → is_role caller.role CertifiedSurveyor ≡ true → LodgesSubdivisionOrMerger a
        → verdict_of now at caller a past ≡ Allowed
    given asker role (inl (it, lodged)) =
        lodging_given now at caller past a (content.Subdivision it) lodged asker (free_subdivision now at caller past it role)
    given asker role (inr (it, lodged)) =
        lodging_given now at caller past a (content.Merger it) lodged asker (free_merger now at caller past it role)

-- a notary is not a bank, and lodges mortgages as well
record IsNotary (caller : Caller) : Type 0 where
  no_bank : is_role caller.role Bank ≡ false
  mortgages : may_lodge_mortgages caller ≡ true

notary : (party : ℕ) (role : Role) → let caller : Caller = record { party = party; role = role } in
    has_role_among (Notary ∷ []) caller ≡ true → IsNotary caller
notary party Notary h = record { no_bank = refl; mortgages = refl }
notary party other h = absurd (false≢true h)

pub mortgages_are_left : BanksAndNotariesLodgeMortgages
mortgages_are_left now at caller a past = record {
  left = mortgages_left now at caller past a;
  given = λ asker role. given asker (notary caller.party caller.role role);
}
  where
    given : may_make_request now caller past ≡ true → IsNotary caller → LodgesMortgageOrDischarge a → verdict_of now at caller a past ≡ Allowed
    given asker role (inl (it, lodged)) =
        lodging_given now at caller past a (content.Mortgage it) lodged asker
        (free_mortgage now at caller past it role.mortgages (and_left _ _ role.no_bank))
    given asker role (inr (it, lodged)) =
        lodging_given now at caller past a (content.Discharge it) lodged asker
        (free_discharge now at caller past it role.mortgages (and_left _ _ role.no_bank))

pub own_mortgages : BanksLodgeTheirOwnMortgages
own_mortgages now at caller a past = record {
  own = λ bank it.
      let parts = and_parts _ _ bank in
      let role : is_role caller.role Bank ≡ true = sym (or_nothing _) ∙ parts.1 in
      lodging_given now at caller past a (content.Mortgage it.mortgage) it.lodged parts.0
      (free_mortgage now at caller past it.mortgage (bank_lodges now at caller past role)
      (and_right _ _ (ap not (eq-eqb _ _ it.lender))));
  denied = (
    λ e.
        let least = ((verdicts_least now at caller a past).denied 8).0 e in
        let parts = and_parts _ _ (sym (rule_8 now at caller past a) ∙ least.holds) in
        let it = mortgage_of_another caller.party a parts.1 in
        record {
          bank = as_bank now at caller past a 8 (omega arith) least.least parts.0;
          creditor = it.mortgage.creditor;
          lodged = record { mortgage = it.mortgage; lodged = it.lodged; lender = refl };
          other = it.other;
        },
    λ h.
        let bank = and_parts _ _ h.bank in
        let role : is_role caller.role Bank ≡ true = sym (or_nothing _) ∙ bank.1 in
        let it = h.lodged in
        let lodged : (passes : Content → Bool) (b : Bool) → passes (content.Mortgage it.mortgage) ≡ b → asks_for (lodges passes) a ≡ b
        = λ passes b. lodges_it passes a (content.Mortgage it.mortgage) it.lodged b in
        let other = ne_eqb it.mortgage.creditor caller.party (λ same. h.other (sym it.lender ∙ same)) in
        ((verdicts_least now at caller a past).denied 8).1 (record {
          holds = rule_8 now at caller past a ∙ and_from _ _ role (lodged (is_mortgage_of_another caller.party) true (ap not other));
          least = from_rule_8 now at caller past a role (lodged changes_mortgages true refl) (from_rule_4 now at caller past a bank.0);
        }),
  );
}

pub own_discharges : BanksDischargeTheirOwnMortgages
own_discharges now at caller a past = record {
  own = λ number bank it has.
      let parts = and_parts _ _ bank in
      let role : is_role caller.role Bank ≡ true = sym (or_nothing _) ∙ parts.1 in
      let found = ap (λ n. is_rrr_where (is_mortgage_of caller.party) now n) it.ends ∙ mortgage_is_found now caller.party number has in
      lodging_given now at caller past a (content.Discharge it.discharge) it.lodged parts.0
      (free_discharge now at caller past it.discharge (bank_lodges now at caller past role)
      (and_right _ _ (ap not found)));
  denied = (
    λ e.
        let least = ((verdicts_least now at caller a past).denied 9).0 e in
        let parts = and_parts _ _ (sym (rule_9 now at caller past a) ∙ least.holds) in
        let it = discharge_of_another now caller.party a parts.1 in
        record {
          bank = as_bank now at caller past a 9 (omega arith) least.least parts.0;
          number = it.discharge.mortgage;
          lodged = record { discharge = it.discharge; lodged = it.lodged; ends = refl };
          none = λ has. not_both _ (mortgage_is_found now caller.party it.discharge.mortgage has) it.other;
        },
    λ h.
        let bank = and_parts _ _ h.bank in
        let role : is_role caller.role Bank ≡ true = sym (or_nothing _) ∙ bank.1 in
        let it = h.lodged in
        let lodged : (passes : Content → Bool) (b : Bool) → passes (content.Discharge it.discharge) ≡ b → asks_for (lodges passes) a ≡ b
        = λ passes b. lodges_it passes a (content.Discharge it.discharge) it.lodged b in
        let none = ap (λ n. is_rrr_where (is_mortgage_of caller.party) now n) it.ends ∙ no_mortgage_found now caller.party h.number h.none in
        ((verdicts_least now at caller a past).denied 9).1 (record {
          holds = rule_9 now at caller past a ∙ and_from _ _ role (lodged (is_discharge_of_another now caller.party) true (ap not none));
          least = from_rule_9 now at caller past a role (lodged changes_mortgages true refl)
              (lodged (is_mortgage_of_another caller.party) false refl) (from_rule_4 now at caller past a bank.0);
        }),
  );
}
