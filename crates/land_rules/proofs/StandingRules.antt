-- When each of the rules 1 to 9 denies a request.
use Rattle.std.proofs.Common.{◌≡◌, ℕ, ◌+◌, ◌<◌, ◌≤◌, Bool, true, false, ◌||◌, ◌&&◌, not, cond, [], ◌∷◌, refl, sym, ap, ◌∙◌, subst, arith}
use Rattle.std.specs.Prelude.{nat_eq, nat_lt}
use Rattle.std.specs.List.{list_any}
use Rattle.std.proofs.lemmas.Bool.Decides.{nat_tests}
use Rattle.std.proofs.lemmas.List.Folds.{list_any-append}
use Rattle.std.proofs.lemmas.Bool.{and_from, and_left, and_parts, and_right, eqb-true, not-false, not-true, or_from, or_parts}
use Rattle.land_core.proofs.Booleans.{and_false, or_nothing}
use Rattle.land_core.specs.Register.{stands, holds}
use Rattle.land_core.specs.Role.{is_role}
use Rattle.land_core.specs.declared.act.Act.{Act}
use Rattle.land_core.specs.declared.ask.Ask.{Ask}
use Rattle.land_core.specs.declared.ask.Ask.TheVariants as ask
use Rattle.land_core.specs.declared.caller.Caller.{Caller}
use Rattle.land_core.specs.declared.content.Content.{Content}
use Rattle.land_core.specs.declared.kind.Kind.TheVariants as kind
use Rattle.land_core.specs.declared.register.Register.{Register}
use Rattle.land_core.specs.declared.role.Role.{Role}
use Rattle.land_core.specs.declared.role.Role.TheVariants.{Citizen, Notary, Bank, CertifiedSurveyor, StateAdministrator}
use Rattle.land_rules.specs.Acts.{is_discharge_of_another, is_mortgage_of_another, changes_mortgages, may_lodge_mortgages, changes_outlines, may_lodge_transfers, is_office_act, is_transfer_content, lodges}
use Rattle.land_rules.specs.Rules.{Rules, act_rules, caller_rules, denies, first_denial, sees_only_present, are_rules_above, rules_on, sight_rules, standing_rules}
use Rattle.land_rules.specs.StandingLaws.{may_act_as_bank, has_role_among, is_in_role, may_make_request, roles_with_past}
use Rattle.land_rules.specs.declared.verdict.Verdict.TheVariants.{Allowed, Denied}
use Rattle.land_rules.proofs.Asked.{asks_for, lodges_as_no_office, lodges_no_other, mortgages_are_no_outlines, mortgages_are_no_transfer}

-- ---- rules in ascending order

-- no rule up to a number denies if all numbers are above it
none_up_to : (low : ℕ) (rules : Rules) → are_rules_above low rules ≡ true → (k : ℕ) → k ≤ low → denies k rules ≡ false
none_up_to low [] h k le = refl
none_up_to low (rule ∷ rules) h k le =
    let above : nat_lt low rule.0 ≡ true = (and_parts _ _ h).0 in
    or_from _ _ (and_left _ _ (other low rule.0 k above le)) (none_up_to rule.0 rules (and_parts _ _ h).1 k (below low rule.0 k above le))
  where
    other : (low n k : ℕ) → nat_lt low n ≡ true → k ≤ low → nat_eq n k ≡ false
    other low n k h le = grind (arith, nat_tests)

    below : (low n k : ℕ) → nat_lt low n ≡ true → k ≤ low → k ≤ n
    below low n k h le = grind (arith, nat_tests)

sight_rises : (at : Register) (caller : Caller) (a : Ask) → are_rules_above 10 (sight_rules at caller a) ≡ true
sight_rises at caller (ask.View kind.Party number moment) = refl
sight_rises at caller (ask.View kind.Unit number moment) = refl
sight_rises at caller (ask.View kind.Parcel number moment) = refl
sight_rises at caller (ask.View kind.Rrr number moment) = refl
sight_rises at caller (ask.View kind.Source number moment) = refl
sight_rises at caller (ask.View kind.Mutation number moment) = refl
sight_rises at caller (ask.List k moment) = refl
sight_rises at caller (ask.Sheet unit moment) = refl
sight_rises at caller (ask.Do it) = refl

-- if no rule denies, the verdict allows
pub allows : (rules : Rules) → list_any (λ rule. rule.1) rules ≡ false → first_denial rules ≡ Allowed
allows [] h = refl
allows (rule ∷ rules) h = ap (λ b. cond b (Denied rule.0) (first_denial rules)) (or_parts _ _ h).0 ∙ allows rules (or_parts _ _ h).1

-- a condition on numbers that holds below a number and at it
one_more : (test : ℕ → Bool) (k : ℕ) → test k ≡ false → ((j : ℕ) → j < k → test j ≡ false) → (j : ℕ) → j < k + 1 → test j ≡ false
one_more test k here before j less =
    elim (nat_eq j k) as (λ b. nat_eq j k ≡ b → test j ≡ false) [
      | true ↦ λ same. subst (λ (n : ℕ). test n ≡ false) (sym (eqb-true j k same)) here
      | false ↦ λ apart. before j (lower j k less apart)
    ] refl
  where
    lower : (j k : ℕ) → j < k + 1 → nat_eq j k ≡ false → j < k
    lower j k less apart = grind (arith, nat_tests)

none_below_zero : (test : ℕ → Bool) (j : ℕ) → j < 0 → test j ≡ false
none_below_zero test j less = absurd (no j less)
  where
    no : (j : ℕ) → j < 0 → ⊥
    no j less = omega arith

-- ---- roles

past_by_role : (party : ℕ) (role : Role) → let caller : Caller = record { party = party; role = role } in
    has_role_among roles_with_past caller ≡ not (sees_only_present caller)
past_by_role party Citizen = refl
past_by_role party other = refl

pub present_from : (caller : Caller) → has_role_among roles_with_past caller ≡ true → sees_only_present caller ≡ false
present_from caller h = not-true _ (sym (past_by_role caller.party caller.role) ∙ h)

pub past_from : (caller : Caller) → sees_only_present caller ≡ false → has_role_among roles_with_past caller ≡ true
past_from caller h = past_by_role caller.party caller.role ∙ ap not h

pub closed_from : (caller : Caller) → has_role_among roles_with_past caller ≡ false → sees_only_present caller ≡ true
closed_from caller h = not-false _ (sym (past_by_role caller.party caller.role) ∙ h)

pub no_past_from : (caller : Caller) → sees_only_present caller ≡ true → has_role_among roles_with_past caller ≡ false
no_past_from caller h = past_by_role caller.party caller.role ∙ ap not h

pub late_is_allowed : (past told present : Bool) → (told ≡ true → present ≡ false) → (not past || told) ≡ true → (past && present) ≡ false
late_is_allowed true told present h e = h e
late_is_allowed false told present h e = refl

late_may : (past told present : Bool) → (present ≡ false → told ≡ true) → (past && present) ≡ false → (not past || told) ≡ true
late_may true told present h e = h e
late_may false told present h e = refl

-- ---- each rule

module _ (now at : Register) (caller : Caller) (past : Bool) where
  -- sight rules have numbers above 10
  standing_alone : (a : Ask) (k : ℕ) → k ≤ 10 → denies k (rules_on now at caller a past) ≡ denies k (standing_rules now caller a past)
  standing_alone a k le =
      list_any-append (λ rule. nat_eq rule.0 k && rule.1) (standing_rules now caller a past) (sight_rules at caller a)
      ∙ ap (λ b. denies k (standing_rules now caller a past) || b) (none_up_to 10 (sight_rules at caller a) (sight_rises at caller a) k le)
      ∙ or_nothing _

  by_caller : (k : ℕ) → ((it : Act) → denies k (act_rules now caller it) ≡ false) → (a : Ask)
      → denies k (standing_rules now caller a past) ≡ denies k (caller_rules now caller past)
  by_caller k none (ask.Do it) =
      list_any-append (λ rule. nat_eq rule.0 k && rule.1) (caller_rules now caller past) (act_rules now caller it)
      ∙ ap (λ b. denies k (caller_rules now caller past) || b) (none it)
      ∙ or_nothing _
  by_caller k none read = refl

  by_act : (k : ℕ) → denies k (caller_rules now caller past) ≡ false → (a : Ask)
      → denies k (standing_rules now caller a past) ≡ asks_for (λ it. denies k (act_rules now caller it)) a
  by_act k none (ask.Do it) =
      list_any-append (λ rule. nat_eq rule.0 k && rule.1) (caller_rules now caller past) (act_rules now caller it)
      ∙ ap (λ b. b || denies k (act_rules now caller it)) none
  by_act k none read = none

  -- a rule on acts of a kind in other roles, and one on acts of a kind in one role
  elsewhere : (these : Act → Bool) (role : Bool) (a : Ask)
      → asks_for (λ it. these it && not role || false) a ≡ (asks_for these a && not role)
  elsewhere these role (ask.Do it) = or_nothing _
  elsewhere these role read = refl

  there : (these : Act → Bool) (role : Bool) (a : Ask)
      → asks_for (λ it. role && these it || false) a ≡ (role && asks_for these a)
  there these role (ask.Do it) = or_nothing _
  there these role read = sym (and_false role)

  rule_0 : (a : Ask) → denies 0 (rules_on now at caller a past) ≡ false
  rule_0 a = standing_alone a 0 (omega arith) ∙ by_caller 0 (λ it. refl) a

  pub rule_1 : (a : Ask) → denies 1 (rules_on now at caller a past) ≡ not (stands now kind.Party caller.party)
  rule_1 a = standing_alone a 1 (omega arith) ∙ by_caller 1 (λ it. refl) a ∙ or_nothing _

  pub rule_2 : (a : Ask) → denies 2 (rules_on now at caller a past) ≡ not (holds now caller.party caller.role)
  rule_2 a = standing_alone a 2 (omega arith) ∙ by_caller 2 (λ it. refl) a ∙ or_nothing _

  pub rule_3 : (a : Ask) → denies 3 (rules_on now at caller a past) ≡ (past && sees_only_present caller)
  rule_3 a = standing_alone a 3 (omega arith) ∙ by_caller 3 (λ it. refl) a ∙ or_nothing _

  pub rule_4 : (a : Ask) → denies 4 (rules_on now at caller a past)
      ≡ (asks_for is_office_act a && not (is_role caller.role StateAdministrator))
  rule_4 a = standing_alone a 4 (omega arith) ∙ by_act 4 refl a
      ∙ elsewhere is_office_act (is_role caller.role StateAdministrator) a

  pub rule_5 : (a : Ask) → denies 5 (rules_on now at caller a past)
      ≡ (asks_for (lodges is_transfer_content) a && not (may_lodge_transfers caller))
  rule_5 a = standing_alone a 5 (omega arith) ∙ by_act 5 refl a
      ∙ elsewhere (lodges is_transfer_content) (may_lodge_transfers caller) a

  pub rule_6 : (a : Ask) → denies 6 (rules_on now at caller a past)
      ≡ (asks_for (lodges changes_outlines) a && not (is_role caller.role CertifiedSurveyor))
  rule_6 a = standing_alone a 6 (omega arith) ∙ by_act 6 refl a
      ∙ elsewhere (lodges changes_outlines) (is_role caller.role CertifiedSurveyor) a

  pub rule_7 : (a : Ask) → denies 7 (rules_on now at caller a past)
      ≡ (asks_for (lodges changes_mortgages) a && not (may_lodge_mortgages caller))
  rule_7 a = standing_alone a 7 (omega arith) ∙ by_act 7 refl a
      ∙ elsewhere (lodges changes_mortgages) (may_lodge_mortgages caller) a

  pub rule_8 : (a : Ask) → denies 8 (rules_on now at caller a past)
      ≡ (is_role caller.role Bank && asks_for (lodges (is_mortgage_of_another caller.party)) a)
  rule_8 a = standing_alone a 8 (omega arith) ∙ by_act 8 refl a
      ∙ there (lodges (is_mortgage_of_another caller.party)) (is_role caller.role Bank) a

  pub rule_9 : (a : Ask) → denies 9 (rules_on now at caller a past)
      ≡ (is_role caller.role Bank && asks_for (lodges (is_discharge_of_another now caller.party)) a)
  rule_9 a = standing_alone a 9 (omega arith) ∙ by_act 9 refl a
      ∙ there (lodges (is_discharge_of_another now caller.party)) (is_role caller.role Bank) a

  -- no rule below a number denies
  abbrev pub none_before : (a : Ask) → ℕ → Type 0
  none_before a k = (j : ℕ) → j < k → denies j (rules_on now at caller a past) ≡ false

  next : (a : Ask) (k : ℕ) → denies k (rules_on now at caller a past) ≡ false → none_before a k → none_before a (k + 1)
  next a k here before = one_more (λ j. denies j (rules_on now at caller a past)) k here before

  pub from_rule_1 : (a : Ask) → none_before a 1
  from_rule_1 a = next a 0 (rule_0 a) (none_below_zero (λ j. denies j (rules_on now at caller a past)))

  pub from_rule_2 : (a : Ask) → stands now kind.Party caller.party ≡ true → none_before a 2
  from_rule_2 a s = next a 1 (rule_1 a ∙ ap not s) (from_rule_1 a)

  pub from_rule_3 : (a : Ask) → is_in_role now caller ≡ true → none_before a 3
  from_rule_3 a h = let parts = and_parts _ _ h in next a 2 (rule_2 a ∙ ap not parts.1) (from_rule_2 a parts.0)

  pub from_rule_4 : (a : Ask) → may_make_request now caller past ≡ true → none_before a 4
  from_rule_4 a h =
      let parts = and_parts _ _ h in
      next a 3 (rule_3 a ∙ late_is_allowed past _ _ (present_from caller) parts.1) (from_rule_3 a parts.0)

  pub in_role : (a : Ask) → denies 1 (rules_on now at caller a past) ≡ false → denies 2 (rules_on now at caller a past) ≡ false
      → is_in_role now caller ≡ true
  in_role a one two = and_from _ _ (not-false _ (sym (rule_1 a) ∙ one)) (not-false _ (sym (rule_2 a) ∙ two))

  pub may : (a : Ask) (k : ℕ) → 4 ≤ k → none_before a k → may_make_request now caller past ≡ true
  may a k le none =
      and_from _ _ (in_role a (none 1 (omega arith)) (none 2 (omega arith)))
      (late_may past _ _ (past_from caller) (sym (rule_3 a) ∙ none 3 (omega arith)))

  -- rule 4 does not deny lodgings, and rules 5 and 6 do not deny those of mortgages and discharges
  pub from_rule_5 : (passes : Content → Bool) (a : Ask) → asks_for (lodges passes) a ≡ true → none_before a 4 → none_before a 5
  from_rule_5 passes a h before = next a 4 (rule_4 a ∙ and_left _ _ (lodges_as_no_office passes a h)) before

  pub from_rule_6 : (passes : Content → Bool) → ((c : Content) → passes c ≡ true → is_transfer_content c ≡ false) → (a : Ask)
      → asks_for (lodges passes) a ≡ true → none_before a 4 → none_before a 6
  from_rule_6 passes apart a h before =
      next a 5 (rule_5 a ∙ and_left _ _ (lodges_no_other passes is_transfer_content apart a h))
      (from_rule_5 passes a h before)

  pub from_rule_7 : (a : Ask) → asks_for (lodges changes_mortgages) a ≡ true → none_before a 4 → none_before a 7
  from_rule_7 a h before =
      next a 6 (rule_6 a ∙ and_left _ _ (lodges_no_other changes_mortgages changes_outlines mortgages_are_no_outlines a h))
      (from_rule_6 changes_mortgages mortgages_are_no_transfer a h before)

  -- for a bank, rule 7 does not deny lodgings of mortgages and discharges, and rule 8 only those of mortgages
  -- of others
  pub from_rule_8 : (a : Ask) → is_role caller.role Bank ≡ true → asks_for (lodges changes_mortgages) a ≡ true
      → none_before a 4 → none_before a 8
  from_rule_8 a bank h before =
      next a 7 (rule_7 a ∙ and_right _ _ (ap (λ b. not (b || is_role caller.role Notary)) bank)) (from_rule_7 a h before)

  pub from_rule_9 : (a : Ask) → is_role caller.role Bank ≡ true → asks_for (lodges changes_mortgages) a ≡ true
      → asks_for (lodges (is_mortgage_of_another caller.party)) a ≡ false → none_before a 4 → none_before a 9
  from_rule_9 a bank h own before = next a 8 (rule_8 a ∙ and_right _ _ own) (from_rule_8 a bank h before)

  pub as_bank : (a : Ask) (k : ℕ) → 4 ≤ k → none_before a k → is_role caller.role Bank ≡ true → may_act_as_bank now caller past ≡ true
  as_bank a k le none bank = and_from _ _ (may a k le none) (or_nothing _ ∙ bank)
