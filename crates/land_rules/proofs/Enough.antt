-- The evidence is sufficient for the standing rules.
use Rattle.std.proofs.Common.{◌≡◌, ℕ, Bool, false, not, refl, ap, ◌∙◌, ◌++◌}
use Rattle.std.specs.Prelude.{IfSome}
use Rattle.std.specs.FinMap as map
use Rattle.std.specs.Option.{option_map_or}
use Rattle.land_core.specs.Register.{stands, holds}
use Rattle.land_core.specs.declared.act.Act.{Act}
use Rattle.land_core.specs.declared.act.Act.TheVariants as act
use Rattle.land_core.specs.declared.ask.Ask.TheVariants as ask
use Rattle.land_core.specs.declared.caller.Caller.{Caller}
use Rattle.land_core.specs.declared.content.Content.{Content}
use Rattle.land_core.specs.declared.content.Content.TheVariants as content
use Rattle.land_core.specs.declared.kind.Kind.TheVariants as kind
use Rattle.land_core.specs.declared.register.Register.{Register}
use Rattle.land_rules.specs.Acts.{is_discharge_of_another, is_mortgage_of}
use Rattle.land_rules.specs.Denials.Standing.{EvidenceIsEnough, entry_of_act, entry_of_content, mutation_of_act}
use Rattle.land_rules.specs.Relations.{has_lodged, is_lodger_of}
use Rattle.land_rules.specs.Rules.{act_rules, caller_rules, first_denial}

caller_same : (evidence now : Register) (caller : Caller) (past : Bool) → stands evidence kind.Party caller.party ≡ stands now kind.Party caller.party
    → holds evidence caller.party caller.role ≡ holds now caller.party caller.role → caller_rules evidence caller past ≡ caller_rules now caller past
caller_same evidence now caller past party role = cc

discharge_same : (evidence now : Register) (party : ℕ) (c : Content) → IfSome (entry_of_content c) (λ n. map.get evidence.rrrs n ≡ map.get now.rrrs n)
    → is_discharge_of_another evidence party c ≡ is_discharge_of_another now party c
discharge_same evidence now party (content.Transfer it) h = refl
discharge_same evidence now party (content.Subdivision it) h = refl
discharge_same evidence now party (content.Merger it) h = refl
discharge_same evidence now party (content.Mortgage it) h = refl
discharge_same evidence now party (content.Discharge it) h = ap (λ found. not (option_map_or (is_mortgage_of party) found false)) h

lodged_same : (evidence now : Register) (party n : ℕ) → map.get evidence.mutations n ≡ map.get now.mutations n → has_lodged evidence party n ≡ has_lodged now party n
lodged_same evidence now party n h = ap (λ found. option_map_or (is_lodger_of party) found false) h

act_same : (evidence now : Register) (caller : Caller) (a : Act) → IfSome (entry_of_act a) (λ n. map.get evidence.rrrs n ≡ map.get now.rrrs n)
    → IfSome (mutation_of_act a) (λ n. map.get evidence.mutations n ≡ map.get now.mutations n) → act_rules evidence caller a ≡ act_rules now caller a
act_same evidence now caller (act.Enrol it) entry mutation = refl
act_same evidence now caller (act.Group it) entry mutation = refl
act_same evidence now caller (act.Regroup it) entry mutation = refl
act_same evidence now caller (act.Grant it) entry mutation = refl
act_same evidence now caller (act.Revoke it) entry mutation = refl
act_same evidence now caller (act.Mandate it) entry mutation = refl
act_same evidence now caller (act.Withdraw it) entry mutation = refl
act_same evidence now caller (act.Register it) entry mutation = refl
act_same evidence now caller (act.Burden it) entry mutation = refl
act_same evidence now caller (act.Lift it) entry mutation = refl
act_same evidence now caller (act.Lodge it) entry mutation = let e = discharge_same evidence now caller.party it.content entry in cc
act_same evidence now caller (act.Approve it) entry mutation = let e = lodged_same evidence now caller.party it.mutation mutation in cc
act_same evidence now caller (act.Refuse it) entry mutation = let e = lodged_same evidence now caller.party it.mutation mutation in cc

pub evidence_is_enough : EvidenceIsEnough
evidence_is_enough evidence now caller (ask.View k number moment) past h = ap first_denial (caller_same evidence now caller past h.party h.role)
evidence_is_enough evidence now caller (ask.List k moment) past h = ap first_denial (caller_same evidence now caller past h.party h.role)
evidence_is_enough evidence now caller (ask.Sheet unit moment) past h = ap first_denial (caller_same evidence now caller past h.party h.role)
evidence_is_enough evidence now caller (ask.Do it) past h =
    let asks = caller_same evidence now caller past h.party h.role in
    let does = act_same evidence now caller it h.entry h.mutation in
    ap (λ rules. first_denial (rules ++ act_rules evidence caller it)) asks ∙ ap (λ rules. first_denial (caller_rules now caller past ++ rules)) does
