-- Proves the laws on decisions.
use Rattle.std.proofs.Common.{◌≡◌, ℕ, Bool, true, false, refl, sym, ◌∙◌}
use Rattle.std.specs.Prelude.{◌||◌}
use Rattle.std.proofs.lemmas.Bool.{false≢true}
use Rattle.land_rules.proofs.Denied.{none_from_allowed}
use Rattle.land_rules.proofs.SightLaws.{may_make_request}
use Rattle.land_rules.specs.ActLaws.{AdministratorsDecideForOthers, LodgersDoNotDecide, approve_request, refuse_request}
use Rattle.land_rules.specs.Rules.{Rules, denies, first_denial, is_allowed, rules_on}
use Rattle.land_rules.specs.declared.verdict.Verdict.{Verdict}
use Rattle.land_rules.specs.declared.verdict.Verdict.TheVariants.{Allowed, Denied}

-- if a rule denies, the verdict does not allow
denied_by : (k : ℕ) (rules : Rules) → denies k rules ≡ true → is_allowed (first_denial rules) ≡ false
denied_by k rules h = by_verdict (first_denial rules) refl
  where
    by_verdict : (v : Verdict) → first_denial rules ≡ v → is_allowed v ≡ false
    by_verdict Allowed e = absurd (false≢true (sym (none_from_allowed rules e k) ∙ h))
    by_verdict (Denied j) e = refl

-- rule 10 is the last of the rules on a decision
last_denies : (b : Bool) → b ≡ true → (b || false) ≡ true
last_denies true e = refl
last_denies false e = e

pub lodgers_do_not_decide : LodgersDoNotDecide
lodgers_do_not_decide now at caller number past h = record {
  approval = denied_by 10 (rules_on now at caller (approve_request number) past) (last_denies _ h);
  refusal = denied_by 10 (rules_on now at caller (refuse_request number) past) (last_denies _ h);
}

pub administrators_decide : AdministratorsDecideForOthers
administrators_decide now at party number past asks = record {
  approval = may_make_request _ _ past _ asks;
  refusal = may_make_request _ _ past _ asks;
}
