use Rattle.std.proofs.Common.{◌≡◌, sym, ◌∙◌, subst, rules, true, false}
use Rattle.std.specs.Prelude.{int_lt, unwrap_or, FitsSigned}
use Rattle.std.specs.Int.{w64}
use Rattle.std.proofs.lemmas.Int.{to_z-of_z}
use Rattle.std.proofs.lemmas.Result.{IfOk-weaker}
use Rattle.land_core.specs.Numbers.{IsMoment}
use Rattle.land_keep.proofs.Steps.{now_is_moment, opens, role_is_held, shows_asked, step_allowed, step_denied, step_late, without_change_leads}
use Rattle.land_keep.specs.Keeping.{SheetHasRequestedMoment, SheetHasMoment}
use Rattle.land_keep.specs.Machine.{at_of, now_of, asked_moment, verdict_at}
use Rattle.land_keep.specs.Moments.{now_after}
use Rattle.land_keep.specs.declared.prepared.Prepared.{Prepared}
use Rattle.land_keep.specs.declared.reply.Reply.{Reply}
use Rattle.land_keep.specs.declared.reply.Reply.TheVariants as reply
use Rattle.land_rules.specs.declared.verdict.Verdict.TheVariants.{Allowed, Denied}
use Rattle.land_keep.proofs.machine.prepare.Goals as goal

pub returns-in-Allowed-clause-prepared : goal.returns-in-Allowed-clause-prepared
returns-in-Allowed-clause-prepared g c honest =
    let tl = g.K.Keeper.timeline c.args.keeper.now in
    let asked = c.prepare_allowed.ensures.was honest in
    let trust = c.in_ok-rule.ensures.was asked in
    let opened = opens (g.K.Keeper.closed c.args.keeper.now) (g.K.Keeper.closed c.first_denial.new.self) _ c.in_ok-rule.ensures.closes in
    let fit_clock : FitsSigned w64 c.args.clock = search rules in
    let fit_last : FitsSigned w64 c.last.result = search rules in
    let fit_now : FitsSigned w64 c.now_at-now.result = search rules in
    let fit_at : FitsSigned w64 c.unwrap_or-at.result = search rules in
    let last_is = c.last.ensures.last (trust, opened.0) in
    let now_is : c.now_at-now.result ≡ now_of c.args.clock tl = rw (← last_is) (simp to_z-of_z at c.now_at-now.ensures) in
    let at_is : c.unwrap_or-at.result ≡ asked_moment c.args.request.now.ask (now_of c.args.clock tl) = rw (← now_is, ← c.explicit_moment.ensures) (simp to_z-of_z at c.unwrap_or-at.ensures) in
    let late : int_lt (now_of c.args.clock tl) (asked_moment c.args.request.now.ask (now_of c.args.clock tl)) ≡ false = rw (← at_is, ← now_is) (simp to_z-of_z at c.if-now-at.false) in
    let free : verdict_at tl c.args.request.now.caller c.args.request.now.ask (now_of c.args.clock tl) ≡ Allowed = rw (← now_is) (sym (simp to_z-of_z at (c.in_ok-rule.ensures.value asked)) ∙ c.in-Allowed.is) in
    rw (step_allowed c.args.clock c.args.request.now tl late free, ← at_is)
    (rw (c.in_ok-rule.ensures.same (asked, opened.1)) at (simp to_z-of_z at (c.prepare_allowed.ensures.prepared honest)))

pub returns-in-Denied-clause-prepared : goal.returns-in-Denied-clause-prepared
returns-in-Denied-clause-prepared g c honest =
    let tl = g.K.Keeper.timeline c.args.keeper.now in
    let trust = c.in_ok-rule.ensures.was honest in
    let fit_clock : FitsSigned w64 c.args.clock = search rules in
    let fit_last : FitsSigned w64 c.last.result = search rules in
    let fit_now : FitsSigned w64 c.now_at-now.result = search rules in
    let fit_at : FitsSigned w64 c.unwrap_or-at.result = search rules in
    let last_is = c.last.ensures.last (trust, sym c.is_closed.ensures ∙ c.if-is_closed.false) in
    let now_is : c.now_at-now.result ≡ now_of c.args.clock tl = rw (← last_is) (simp to_z-of_z at c.now_at-now.ensures) in
    let at_is : c.unwrap_or-at.result ≡ asked_moment c.args.request.now.ask (now_of c.args.clock tl) = rw (← now_is, ← c.explicit_moment.ensures) (simp to_z-of_z at c.unwrap_or-at.ensures) in
    let late : int_lt (now_of c.args.clock tl) (asked_moment c.args.request.now.ask (now_of c.args.clock tl)) ≡ false = rw (← at_is, ← now_is) (simp to_z-of_z at c.if-now-at.false) in
    let denied : verdict_at tl c.args.request.now.caller c.args.request.now.ask (now_of c.args.clock tl) ≡ Denied c.in-Denied.rule = rw (← now_is) (sym (simp to_z-of_z at (c.in_ok-rule.ensures.value honest)) ∙ c.in-Denied.is) in
    without_change_leads c.without_change-in-Denied.result (reply.Denied c.in-Denied.rule) _ tl c.without_change-in-Denied.ensures.reply c.without_change-in-Denied.ensures.writing
    (step_denied c.args.clock c.args.request.now tl c.in-Denied.rule late denied)

pub returns-then-now-at-clause-prepared : goal.returns-then-now-at-clause-prepared
returns-then-now-at-clause-prepared g c honest =
    let tl = g.K.Keeper.timeline c.args.keeper.now in
    let fit_clock : FitsSigned w64 c.args.clock = search rules in
    let fit_last : FitsSigned w64 c.last.result = search rules in
    let fit_now : FitsSigned w64 c.now_at-now.result = search rules in
    let fit_at : FitsSigned w64 c.unwrap_or-at.result = search rules in
    let last_is = c.last.ensures.last (honest, sym c.is_closed.ensures ∙ c.if-is_closed.false) in
    let now_is : c.now_at-now.result ≡ now_of c.args.clock tl = rw (← last_is) (simp to_z-of_z at c.now_at-now.ensures) in
    let at_is : c.unwrap_or-at.result ≡ asked_moment c.args.request.now.ask (now_of c.args.clock tl) = rw (← now_is, ← c.explicit_moment.ensures) (simp to_z-of_z at c.unwrap_or-at.ensures) in
    let late : int_lt (now_of c.args.clock tl) (asked_moment c.args.request.now.ask (now_of c.args.clock tl)) ≡ true = rw (← at_is, ← now_is) (simp to_z-of_z at c.if-now-at.true) in
    without_change_leads c.without_change.result (reply.Fault 135) _ tl c.without_change.ensures.reply c.without_change.ensures.writing (step_late c.args.clock c.args.request.now tl late)

pub prepare_allowed-requires-clause-role_held : goal.prepare_allowed-requires-clause-role_held
prepare_allowed-requires-clause-role_held g c honest =
    let tl = g.K.Keeper.timeline c.args.keeper.now in
    let opened = opens (g.K.Keeper.closed c.args.keeper.now) (g.K.Keeper.closed c.first_denial.new.self) _ c.in_ok-rule.ensures.closes in
    let fit_now : FitsSigned w64 c.now_at-now.result = search rules in
    let free : verdict_at tl c.args.request.now.caller c.args.request.now.ask c.now_at-now.result ≡ Allowed = sym (simp to_z-of_z at (c.in_ok-rule.ensures.value honest)) ∙ c.in-Allowed.is in
    rw (c.in_ok-rule.ensures.same (honest, opened.1)) (role_is_held tl c.args.request.now.caller c.args.request.now.ask c.now_at-now.result free)

pub returns-in-Denied-clause-moment : goal.returns-in-Denied-clause-moment
returns-in-Denied-clause-moment g c = subst (λ (r : Reply). SheetHasRequestedMoment c.args.request.now.ask r) (sym c.without_change-in-Denied.ensures.reply) tt

pub returns-in-Allowed-clause-moment : goal.returns-in-Allowed-clause-moment
returns-in-Allowed-clause-moment g c =
    let fit_clock : FitsSigned w64 c.args.clock = search rules in
    let fit_last : FitsSigned w64 c.last.result = search rules in
    let fit_now : FitsSigned w64 c.now_at-now.result = search rules in
    let fit_at : FitsSigned w64 c.unwrap_or-at.result = search rules in
    let a = c.args.request.now.ask in
    let now_is : c.now_at-now.result ≡ now_after c.args.clock c.last.result = simp to_z-of_z at c.now_at-now.ensures in
    let at_is : c.unwrap_or-at.result ≡ unwrap_or (at_of a) c.now_at-now.result = rw (← c.explicit_moment.ensures) (simp to_z-of_z at c.unwrap_or-at.ensures) in
    let is : IsMoment c.now_at-now.result = rw now_is (now_is_moment c.args.clock c.last.result c.last.ensures.moment) in
    let Shown : Prepared → Type 0 = λ it. SheetHasMoment c.unwrap_or-at.result it.reply in
    let Asked : Prepared → Type 0 = λ it. SheetHasRequestedMoment a it.reply in
    IfOk-weaker c.prepare_allowed.result Shown Asked (λ it h. shows_asked a c.unwrap_or-at.result c.now_at-now.result it.reply at_is is h)
    (simp to_z-of_z at c.prepare_allowed.ensures.moment)
