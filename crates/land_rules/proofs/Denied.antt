-- The first rule that denies has the lowest number of all that deny.
use Rattle.std.proofs.Common.{◌≡◌, ℕ, ◌<◌, ◌≤◌, Bool, true, false, ◌||◌, ◌&&◌, cond, [], ◌∷◌, refl, sym, ap, ◌∙◌, subst, arith}
use Rattle.std.specs.Prelude.{nat_eq, nat_lt}
use Rattle.std.proofs.lemmas.Bool.{false≢true, and_parts}
use Rattle.std.proofs.lemmas.Bool.Decides.{nat_tests}
use Rattle.std.proofs.lemmas.Cmp.{nat_eq_equiv}
use Rattle.land_core.specs.declared.ask.Ask.TheVariants as ask
use Rattle.land_core.specs.declared.kind.Kind.TheVariants as kind
use Rattle.land_rules.specs.Laws.{RulesAreOrdered, VerdictsAreLeast}
use Rattle.land_rules.specs.Rules.{Rules, first_denial, denies, are_rules_above, rules_on}
use Rattle.land_rules.specs.declared.verdict.Verdict.{Verdict}
use Rattle.land_rules.specs.declared.verdict.Verdict.TheVariants.{Allowed, Denied}

-- no rule up to a number denies if all numbers are above it
none_below : (low : ℕ) (rules : Rules) → are_rules_above low rules ≡ true → (k : ℕ) → k ≤ low → denies k rules ≡ false
none_below low [] h k le = refl
none_below low (rule ∷ rules) h k le =
    let above : nat_lt low rule.0 ≡ true = (and_parts _ _ h).0 in
    let apart : nat_eq rule.0 k ≡ false = other low rule.0 k above le in
    let later = none_below rule.0 rules (and_parts _ _ h).1 k (below low rule.0 k above le) in
    ap (λ b. (b && rule.1) || denies k rules) apart ∙ later
  where
    other : (low n k : ℕ) → nat_lt low n ≡ true → k ≤ low → nat_eq n k ≡ false
    other low n k h le = grind (arith, nat_tests)

    below : (low n k : ℕ) → nat_lt low n ≡ true → k ≤ low → k ≤ n
    below low n k h le = grind (arith, nat_tests)

-- if the first denial is k, rule k denies and no lower rule does
pub record IsLeast (rules : Rules) (k : ℕ) : Type 0 where
  pub holds : denies k rules ≡ true
  pub least : (j : ℕ) → j < k → denies j rules ≡ false

denied_is_not_allowed : (k : ℕ) → Allowed ≡ Denied k → ⊥
denied_is_not_allowed k e = cc

eq-other : (n j : ℕ) → j < n → nat_eq n j ≡ false
eq-other n j h = grind (arith, nat_tests)

pub least_from_first : (low : ℕ) (rules : Rules) → are_rules_above low rules ≡ true → (k : ℕ) → first_denial rules ≡ Denied k → IsLeast rules k
least_from_first low [] h k e = absurd (denied_is_not_allowed k e)
least_from_first low (rule ∷ rules) h k e =
    elim (rule.1) as (λ b. rule.1 ≡ b → cond b (Denied rule.0) (first_denial rules) ≡ Denied k → IsLeast (rule ∷ rules) k) [
      | true ↦ λ here e.
          let k_is : rule.0 ≡ k = cc in
          subst (λ (n : ℕ). IsLeast (rule ∷ rules) n) k_is (record {
            holds = ap (λ b. (b && rule.1) || denies rule.0 rules) (nat_eq_equiv.refl rule.0) ∙ ap (λ b. b || denies rule.0 rules) here;
            least = λ j less. ap (λ b. (b && rule.1) || denies j rules) (eq-other rule.0 j less) ∙ none_below rule.0 rules (and_parts _ _ h).1 j (omega arith);
          })
      | false ↦ λ gone e.
          let later = least_from_first rule.0 rules (and_parts _ _ h).1 k e in
          record {
            holds = ap (λ b. (nat_eq rule.0 k && b) || denies k rules) gone ∙ skip (nat_eq rule.0 k) (denies k rules) ∙ later.holds;
            least = λ j less. ap (λ b. (nat_eq rule.0 j && b) || denies j rules) gone ∙ skip (nat_eq rule.0 j) (denies j rules) ∙ later.least j less;
          }
    ] refl e
  where
    skip : (a b : Bool) → ((a && false) || b) ≡ b
    skip true b = refl
    skip false b = refl

pub none_from_allowed : (rules : Rules) → first_denial rules ≡ Allowed → (k : ℕ) → denies k rules ≡ false
none_from_allowed [] e k = refl
none_from_allowed (rule ∷ rules) e k =
    elim (rule.1) as (λ b. rule.1 ≡ b → cond b (Denied rule.0) (first_denial rules) ≡ Allowed → ((nat_eq rule.0 k && rule.1) || denies k rules) ≡ false) [
      | true ↦ λ here e. absurd (denied_is_not_allowed rule.0 (sym e))
      | false ↦ λ gone e. ap (λ b. (nat_eq rule.0 k && b) || denies k rules) gone ∙ and_false (nat_eq rule.0 k) (denies k rules) ∙ none_from_allowed rules e k
    ] refl e
  where
    and_false : (a b : Bool) → ((a && false) || b) ≡ b
    and_false true b = refl
    and_false false b = refl

one_number : (m k : ℕ) → (m < k → ⊥) → (k < m → ⊥) → m ≡ k
one_number m k a b = grind (arith, a, b)

-- the lowest rule that denies is the first one
pub first_from_least : (rules : Rules) → are_rules_above 0 rules ≡ true → (k : ℕ) → denies k rules ≡ true → ((j : ℕ) → j < k → denies j rules ≡ false) → first_denial rules ≡ Denied k
first_from_least rules rise k holds least = by_verdict (first_denial rules) refl
  where
    by_verdict : (v : Verdict) → first_denial rules ≡ v → first_denial rules ≡ Denied k
    by_verdict Allowed e = absurd (false≢true (sym (none_from_allowed rules e k) ∙ holds))
    by_verdict (Denied m) e =
        let first = least_from_first 0 rules rise m e in
        e ∙ ap Denied (one_number m k
        (λ less. false≢true (sym (least m less) ∙ first.holds))
        (λ more. false≢true (sym (first.least k more) ∙ holds)))

all_rise : RulesAreOrdered
all_rise now at caller (ask.View kind.Party number moment) past = refl
all_rise now at caller (ask.View kind.Unit number moment) past = refl
all_rise now at caller (ask.View kind.Parcel number moment) past = refl
all_rise now at caller (ask.View kind.Rrr number moment) past = refl
all_rise now at caller (ask.View kind.Source number moment) past = refl
all_rise now at caller (ask.View kind.Mutation number moment) past = refl
all_rise now at caller (ask.List k moment) past = refl
all_rise now at caller (ask.Sheet unit moment) past = refl
all_rise now at caller (ask.Do it) past = refl

pub verdicts_least : VerdictsAreLeast
verdicts_least now at caller a past =
    let rules = rules_on now at caller a past in
    let rise = all_rise now at caller a past in
    record {
      denied = λ k. (
        λ e. let it = least_from_first 0 rules rise k e in record { holds = it.holds; least = it.least },
        λ h. first_from_least rules rise k h.holds h.least,
      );
      allowed = (none_from_allowed rules, λ none. by_verdict none (first_denial rules) refl);
    }
  where
    by_verdict : ((k : ℕ) → denies k (rules_on now at caller a past) ≡ false) → (v : Verdict) → first_denial (rules_on now at caller a past) ≡ v → first_denial (rules_on now at caller a past) ≡ Allowed
    by_verdict none Allowed e = e
    by_verdict none (Denied m) e = absurd (false≢true (sym (none m) ∙ (least_from_first 0 (rules_on now at caller a past) (all_rise now at caller a past) m e).holds))
