-- Proves the law on rules 28 and 29: which callers give and withdraw mandates.
use Rattle.std.proofs.Common.{◌≡◌, ℕ, Bool, true, false, ◌||◌, ◌&&◌, not, cond, [], ◌∷◌, ◌++◌, inl, inr, refl, sym, ap, ◌∙◌, subst, arith}
use Rattle.std.specs.Prelude.{nat_eq}
use Rattle.std.specs.List.{list_any}
use Rattle.std.proofs.lemmas.Bool.{false≢true, and_from, and_left, and_parts, and_right, eq-eqb, eqb-true, false_from_ne_true, not-false, not-true, or_from, or_parts, or_right}
use Rattle.std.proofs.lemmas.List.Folds.{list_any-append}
use Rattle.land_core.proofs.Booleans.{or_nothing, second_false}
use Rattle.land_core.specs.Role.{is_role}
use Rattle.land_core.specs.declared.act.Act.{Act}
use Rattle.land_core.specs.declared.act.Act.TheVariants as act
use Rattle.land_core.specs.declared.ask.Ask.{Ask}
use Rattle.land_core.specs.declared.ask.Ask.TheVariants as ask
use Rattle.land_core.specs.declared.caller.Caller.{Caller}
use Rattle.land_core.specs.declared.content.Content.{Content}
use Rattle.land_core.specs.declared.kind.Kind.TheVariants as kind
use Rattle.land_core.specs.declared.mandates.Mandate.{Mandate}
use Rattle.land_core.specs.declared.register.Register.{Register}
use Rattle.land_core.specs.declared.role.Role.TheVariants.{Citizen, CertifiedSurveyor, Bank, StateAdministrator}
use Rattle.land_rules.proofs.Asked.{asks_for}
use Rattle.land_rules.proofs.Denied.{none_from_allowed, verdicts_least}
use Rattle.land_rules.proofs.StandingLaws.{none_of_three}
use Rattle.land_rules.proofs.StandingRules.{allows, may}
use Rattle.land_rules.proofs.StandingTests.{not_both}
use Rattle.land_rules.specs.Acts.{decides, is_between_others, is_discharge_of_another, is_mortgage_of_another, changes_mortgages, is_mandate_act, may_lodge_mortgages, changes_outlines, may_lodge_transfers, is_office_act, is_transfer_content, lodges, withdraws}
use Rattle.land_rules.specs.Relations.{has_lodged}
use Rattle.land_rules.specs.Rules.{Rules, caller_rules, denies, first_denial, rules_on, verdict_of}
use Rattle.land_rules.specs.StandingLaws.{CitizensGiveMandates, IsReservedTo, ActsOnOwnMandate, ActsOnMandate, IsPartyTo, WithdrawsMandate, may_make_request}
use Rattle.land_rules.specs.declared.verdict.Verdict.TheVariants.{Allowed, Denied}

-- a rule that denies if none of those before it does
first_of : (before : Rules) (k : ℕ) (b : Bool) (later : Rules) → list_any (λ rule. rule.1) before ≡ false → b ≡ true
    → first_denial (before ++ ((k, b) ∷ later)) ≡ Denied k
first_of [] k b later none here = ap (λ x. cond x (Denied k) (first_denial later)) here
first_of (rule ∷ before) k b later none here =
    ap (λ x. cond x (Denied rule.0) (first_denial (before ++ ((k, b) ∷ later)))) (or_parts _ _ none).0
    ∙ first_of before k b later (or_parts _ _ none).1 here

-- ---- an act on a mandate is not an act of the office, a lodging or a decision

no_office : (it : Act) → is_mandate_act it ≡ true → is_office_act it ≡ false
no_office (act.Mandate it) h = refl
no_office (act.Withdraw it) h = refl
no_office other h = absurd (false≢true h)

no_lodging : (passes : Content → Bool) (it : Act) → is_mandate_act it ≡ true → lodges passes it ≡ false
no_lodging passes (act.Mandate it) h = refl
no_lodging passes (act.Withdraw it) h = refl
no_lodging passes other h = absurd (false≢true h)

no_decision : (passes : ℕ → Bool) (it : Act) → is_mandate_act it ≡ true → decides passes it ≡ false
no_decision passes (act.Mandate it) h = refl
no_decision passes (act.Withdraw it) h = refl
no_decision passes other h = absurd (false≢true h)

on_mandate : (a : Ask) → asks_for is_mandate_act a ≡ true → ActsOnMandate a
on_mandate (ask.Do (act.Mandate it)) h = inl (it, refl)
on_mandate (ask.Do (act.Withdraw it)) h = inr (it, refl)
on_mandate other h = absurd (false≢true h)

is_on : (a : Ask) → ActsOnMandate a → asks_for is_mandate_act a ≡ true
is_on a (inl (it, asked)) = subst (λ (x : Ask). asks_for is_mandate_act x ≡ true) (sym asked) refl
is_on a (inr (it, asked)) = subst (λ (x : Ask). asks_for is_mandate_act x ≡ true) (sym asked) refl

-- ---- principals and agents

not_between : (party : ℕ) (it : Mandate) → IsPartyTo party it → is_between_others party it ≡ false
not_between party it (inl own) = ap (λ b. not (b || nat_eq it.agent party)) (eq-eqb it.principal party own)
not_between party it (inr own) = ap not (or_right (nat_eq it.principal party) (nat_eq it.agent party) (eq-eqb it.agent party own))

between : (party : ℕ) (it : Mandate) → (IsPartyTo party it → ⊥) → is_between_others party it ≡ true
between party it others =
    ap not (or_from _ _ (false_from_ne_true _ (λ h. others (inl (eqb-true it.principal party h)))) (false_from_ne_true _ (λ h. others (inr (eqb-true it.agent party h)))))

-- a withdrawal of a mandate between others
record Withdraws (party : ℕ) (a : Ask) : Type 0 where
  mandate : Mandate
  asked : WithdrawsMandate mandate a
  others : IsPartyTo party mandate → ⊥

withdrawal : (party : ℕ) (a : Ask) → asks_for (withdraws (is_between_others party)) a ≡ true → Withdraws party a
withdrawal party (ask.Do (act.Withdraw it)) h = record { mandate = it; asked = refl; others = λ own. not_both _ h (not_between party it own) }
withdrawal party other h = absurd (false≢true h)

module _ (now at : Register) (caller : Caller) (past : Bool) where
  -- ---- rules 28 and 29 on any request

  rule_28 : (a : Ask) → denies 28 (rules_on now at caller a past) ≡ (asks_for is_mandate_act a && not (is_role caller.role Citizen))
  rule_28 (ask.View kind.Party number moment) = refl
  rule_28 (ask.View kind.Unit number moment) = refl
  rule_28 (ask.View kind.Parcel number moment) = refl
  rule_28 (ask.View kind.Rrr number moment) = refl
  rule_28 (ask.View kind.Source number moment) = refl
  rule_28 (ask.View kind.Mutation number moment) = refl
  rule_28 (ask.List k moment) = refl
  rule_28 (ask.Sheet unit moment) = refl
  rule_28 (ask.Do it) = or_nothing _

  rule_29 : (a : Ask) → denies 29 (rules_on now at caller a past) ≡ asks_for (withdraws (is_between_others caller.party)) a
  rule_29 (ask.View kind.Party number moment) = refl
  rule_29 (ask.View kind.Unit number moment) = refl
  rule_29 (ask.View kind.Parcel number moment) = refl
  rule_29 (ask.View kind.Rrr number moment) = refl
  rule_29 (ask.View kind.Source number moment) = refl
  rule_29 (ask.View kind.Mutation number moment) = refl
  rule_29 (ask.List k moment) = refl
  rule_29 (ask.Sheet unit moment) = refl
  rule_29 (ask.Do it) = or_nothing _

  -- ---- no lower rule denies an act on a mandate to a caller that may make requests

  abbrev earlier : Act → Rules
  earlier it =
      caller_rules now caller past
      ++ ((4, is_office_act it && not (is_role caller.role StateAdministrator))
      ∷ (5, lodges is_transfer_content it && not (may_lodge_transfers caller))
      ∷ (6, lodges changes_outlines it && not (is_role caller.role CertifiedSurveyor))
      ∷ (7, lodges changes_mortgages it && not (may_lodge_mortgages caller))
      ∷ (8, is_role caller.role Bank && lodges (is_mortgage_of_another caller.party) it)
      ∷ (9, is_role caller.role Bank && lodges (is_discharge_of_another now caller.party) it)
      ∷ (10, decides (has_lodged now caller.party) it)
      ∷ [])

  abbrev of_role : Act → ℕ × Bool
  of_role it = (28, is_mandate_act it && not (is_role caller.role Citizen))

  abbrev of_parties : Act → ℕ × Bool
  of_parties it = (29, withdraws (is_between_others caller.party) it)

  quiet : (it : Act) → is_mandate_act it ≡ true → may_make_request now caller past ≡ true → list_any (λ rule. rule.1) (earlier it) ≡ false
  quiet it is asker =
      none_of_three now at caller past asker _
      (or_from _ _ (and_left _ _ (no_office it is))
      (or_from _ _ (and_left _ _ (no_lodging is_transfer_content it is))
      (or_from _ _ (and_left _ _ (no_lodging changes_outlines it is))
      (or_from _ _ (and_left _ _ (no_lodging changes_mortgages it is))
      (or_from _ _ (and_right _ _ (no_lodging (is_mortgage_of_another caller.party) it is))
      (or_from _ _ (and_right _ _ (no_lodging (is_discharge_of_another now caller.party) it is))
      (or_from _ _ (no_decision (has_lodged now caller.party) it is) refl)))))))

  out_of_role : (it : Act) → is_mandate_act it ≡ true → may_make_request now caller past ≡ true → is_role caller.role Citizen ≡ false
      → verdict_of now at caller (ask.Do it) past ≡ Denied 28
  out_of_role it is asker other =
      first_of (earlier it) 28 (is_mandate_act it && not (is_role caller.role Citizen)) (of_parties it ∷ []) (quiet it is asker) (and_from _ _ is (ap not other))

  quiet_in_role : (it : Act) → is_mandate_act it ≡ true → may_make_request now caller past ≡ true → is_role caller.role Citizen ≡ true
      → list_any (λ rule. rule.1) (earlier it ++ (of_role it ∷ [])) ≡ false
  quiet_in_role it is asker citizen =
      list_any-append (λ rule. rule.1) (earlier it) (of_role it ∷ [])
      ∙ or_from _ _ (quiet it is asker) (or_from _ _ (and_right _ _ (ap not citizen)) refl)

  of_others : (it : Act) → is_mandate_act it ≡ true → may_make_request now caller past ≡ true → is_role caller.role Citizen ≡ true
      → withdraws (is_between_others caller.party) it ≡ true → verdict_of now at caller (ask.Do it) past ≡ Denied 29
  of_others it is asker citizen others =
      first_of (earlier it ++ (of_role it ∷ [])) 29 (withdraws (is_between_others caller.party) it) [] (quiet_in_role it is asker citizen) others

  its_own : (it : Act) → is_mandate_act it ≡ true → may_make_request now caller past ≡ true → is_role caller.role Citizen ≡ true
      → withdraws (is_between_others caller.party) it ≡ false → verdict_of now at caller (ask.Do it) past ≡ Allowed
  its_own it is asker citizen own =
      allows (rules_on now at caller (ask.Do it) past)
      (list_any-append (λ rule. rule.1) (earlier it ++ (of_role it ∷ [])) (of_parties it ∷ [])
      ∙ or_from _ _ (quiet_in_role it is asker citizen) (or_from _ _ own refl))

  -- ---- the parts of the law

  elsewhere : (a : Ask) → ActsOnMandate a → may_make_request now caller past ≡ true → is_role caller.role Citizen ≡ false
      → verdict_of now at caller a past ≡ Denied 28
  elsewhere a (inl (it, asked)) asker other =
      subst (λ (x : Ask). verdict_of now at caller x past ≡ Denied 28) (sym asked) (out_of_role (act.Mandate it) refl asker other)
  elsewhere a (inr (it, asked)) asker other =
      subst (λ (x : Ask). verdict_of now at caller x past ≡ Denied 28) (sym asked) (out_of_role (act.Withdraw it) refl asker other)

  left_to_citizens : (a : Ask) → IsReservedTo (Citizen ∷ []) 28 ActsOnMandate now at caller a past
  left_to_citizens a = record {
    denied = (
      λ e.
          let it = ((verdicts_least now at caller a past).denied 28).0 e in
          let parts = and_parts _ _ (sym (rule_28 a) ∙ it.holds) in
          record {
            asker = may now at caller past a 28 (omega arith) it.least;
            asked = on_mandate a parts.0;
            other = or_nothing _ ∙ not-true _ parts.1;
          },
      λ h. elsewhere a h.asked h.asker (sym (or_nothing _) ∙ h.other),
    );
    allowed = λ asked e.
        or_nothing _ ∙ not-false _ (second_false _ _ (is_on a asked) (sym (rule_28 a) ∙ none_from_allowed (rules_on now at caller a past) e 28));
  }

  given_to_each : (a : Ask) → may_make_request now caller past ≡ true → is_role caller.role Citizen ≡ true → ActsOnOwnMandate caller.party a
      → verdict_of now at caller a past ≡ Allowed
  given_to_each a asker citizen (inl (it, asked)) =
      subst (λ (x : Ask). verdict_of now at caller x past ≡ Allowed) (sym asked) (its_own (act.Mandate it) refl asker citizen refl)
  given_to_each a asker citizen (inr (it, asked, own)) =
      subst (λ (x : Ask). verdict_of now at caller x past ≡ Allowed) (sym asked)
      (its_own (act.Withdraw it) refl asker citizen (not_between caller.party it own))

pub citizens_give : CitizensGiveMandates
citizens_give now at caller a past = record {
  left = left_to_citizens now at caller past a;
  given = λ asker role it. given_to_each now at caller past a asker (sym (or_nothing _) ∙ role) it;
  denied = (
    λ e.
        let least = ((verdicts_least now at caller a past).denied 29).0 e in
        let it = withdrawal caller.party a (sym (rule_29 now at caller past a) ∙ least.holds) in
        record {
          asker = may now at caller past a 29 (omega arith) least.least;
          citizen =
              or_nothing _
              ∙ not-false _ (second_false _ _ (is_on a (inr (it.mandate, it.asked))) (sym (rule_28 now at caller past a) ∙ least.least 28 (omega arith)));
          mandate = it.mandate;
          asked = it.asked;
          others = it.others;
        },
    λ h.
        subst (λ (x : Ask). verdict_of now at caller x past ≡ Denied 29) (sym h.asked)
        (of_others now at caller past (act.Withdraw h.mandate) refl h.asker (sym (or_nothing _) ∙ h.citizen) (between caller.party h.mandate h.others)),
  );
}
