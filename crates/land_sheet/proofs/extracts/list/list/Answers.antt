use Rattle.std.proofs.Common.{◌≡◌, sym, ap, ◌∙◌, rules, true, false, of_z, to_z}
use Rattle.std.specs.Prelude.{FitsSigned, int_lt, unwrap_or}
use Rattle.std.specs.Int.{w64}
use Rattle.std.proofs.lemmas.Int.{to_z-of_z}
use Rattle.land_core.specs.declared.ask.Ask.TheVariants as ask
use Rattle.land_core.specs.declared.ask.Request.{Request}
use Rattle.land_keep.proofs.Steps.{step_allowed, step_denied, step_late}
use Rattle.land_keep.specs.Machine.{Next, asked_moment, now_of, verdict_at}
use Rattle.land_keep.specs.Timeline.{register_at}
use Rattle.land_keep.specs.declared.reply.Reply.TheVariants as reply
use Rattle.land_rules.specs.Rules.{seen_of}
use Rattle.land_rules.specs.declared.verdict.Verdict.TheVariants.{Allowed, Denied}
use Rattle.land_sheet.proofs.extracts.list.list.Goals as goal

pub returns-then-now-moment-clause-listed : goal.returns-then-now-moment-clause-listed
returns-then-now-moment-clause-listed g c honest =
    let tl = g.K.Keeper.timeline c.args.keeper.now in
    let request : Request = record { caller = c.args.caller; ask = ask.List c.args.kind c.args.at } in
    let fit_clock : FitsSigned w64 c.args.clock = search rules in
    let fit_last : FitsSigned w64 c.last.result = search rules in
    let fit_now : FitsSigned w64 c.read_moment-now.result = search rules in
    let fit_moment : FitsSigned w64 c.unwrap_or-moment.result = search rules in
    let last_is = c.last.ensures.last (honest, sym c.is_closed.ensures ∙ c.if-is_closed.false) in
    let now_is : c.read_moment-now.result ≡ now_of c.args.clock tl = rw (← last_is) (simp to_z-of_z at c.read_moment-now.ensures) in
    let at_is : c.unwrap_or-moment.result ≡ unwrap_or c.args.at (now_of c.args.clock tl) = rw (← now_is) (simp to_z-of_z at c.unwrap_or-moment.ensures) in
    let late : int_lt (now_of c.args.clock tl) (asked_moment request.ask (now_of c.args.clock tl)) ≡ true = rw (← at_is, ← now_is) (simp to_z-of_z at c.if-now-moment.true) in
    ap (λ (next : Next). next.0) (step_late c.args.clock request tl late)

pub returns-in-Denied-clause-listed : goal.returns-in-Denied-clause-listed
returns-in-Denied-clause-listed g c honest =
    let tl = g.K.Keeper.timeline c.args.keeper.now in
    let request : Request = record { caller = c.args.caller; ask = ask.List c.args.kind c.args.at } in
    let trust = c.in_ok-rule.ensures.was honest in
    let fit_clock : FitsSigned w64 c.args.clock = search rules in
    let fit_last : FitsSigned w64 c.last.result = search rules in
    let fit_now : FitsSigned w64 c.read_moment-now.result = search rules in
    let fit_moment : FitsSigned w64 c.unwrap_or-moment.result = search rules in
    let last_is = c.last.ensures.last (trust, sym c.is_closed.ensures ∙ c.if-is_closed.false) in
    let now_is : c.read_moment-now.result ≡ now_of c.args.clock tl = rw (← last_is) (simp to_z-of_z at c.read_moment-now.ensures) in
    let at_is : c.unwrap_or-moment.result ≡ unwrap_or c.args.at (now_of c.args.clock tl) = rw (← now_is) (simp to_z-of_z at c.unwrap_or-moment.ensures) in
    let late : int_lt (now_of c.args.clock tl) (asked_moment request.ask (now_of c.args.clock tl)) ≡ false = rw (← at_is, ← now_is) (simp to_z-of_z at c.if-now-moment.false) in
    let denied : verdict_at tl c.args.caller request.ask (now_of c.args.clock tl) ≡ Denied c.in-Denied.rule = rw (← now_is) (sym (simp to_z-of_z at (c.in_ok-rule.ensures.value honest)) ∙ c.in-Denied.is) in
    ap (λ (next : Next). next.0) (step_denied c.args.clock request tl c.in-Denied.rule late denied)

pub returns-clause-listed : goal.returns-clause-listed
returns-clause-listed g c honest =
    let tl = g.K.Keeper.timeline c.args.keeper.now in
    let request : Request = record { caller = c.args.caller; ask = ask.List c.args.kind c.args.at } in
    let between = c.in_ok-sight-in-Allowed.ensures.was honest in
    let trust = c.in_ok-rule.ensures.was between in
    let fit_clock : FitsSigned w64 c.args.clock = search rules in
    let fit_last : FitsSigned w64 c.last.result = search rules in
    let fit_now : FitsSigned w64 c.read_moment-now.result = search rules in
    let fit_moment : FitsSigned w64 c.unwrap_or-moment.result = search rules in
    let ajar = sym c.is_closed.ensures ∙ c.if-is_closed.false in
    let last_is = c.last.ensures.last (trust, ajar) in
    let now_is : c.read_moment-now.result ≡ now_of c.args.clock tl = rw (← last_is) (simp to_z-of_z at c.read_moment-now.ensures) in
    let at_is : c.unwrap_or-moment.result ≡ unwrap_or c.args.at (now_of c.args.clock tl) = rw (← now_is) (simp to_z-of_z at c.unwrap_or-moment.ensures) in
    let late : int_lt (now_of c.args.clock tl) (asked_moment request.ask (now_of c.args.clock tl)) ≡ false = rw (← at_is, ← now_is) (simp to_z-of_z at c.if-now-moment.false) in
    let free : verdict_at tl c.args.caller request.ask (now_of c.args.clock tl) ≡ Allowed = rw (← now_is) (sym (simp to_z-of_z at (c.in_ok-rule.ensures.value between)) ∙ c.in-Allowed.is) in
    let still : g.K.Keeper.closed c.first_denial.new.self ≡ false = rw ajar at c.in_ok-rule.ensures.closes in
    let same : g.K.Keeper.timeline c.first_denial.new.self ≡ tl = c.in_ok-rule.ensures.same (between, still) in
    let numbers : c.in_ok-sight-in-Allowed.field-0 ≡ seen_of (register_at tl (unwrap_or c.args.at (now_of c.args.clock tl))) c.args.caller c.args.kind =
    rw (← at_is, ← same) (simp to_z-of_z at (c.in_ok-sight-in-Allowed.ensures.value honest)) in
    ap (λ (next : Next). next.0) (step_allowed c.args.clock request tl late free) ∙ ap reply.Numbers (sym numbers)

pub returns-clause-moment : goal.returns-clause-moment
returns-clause-moment g c honest =
    let tl = g.K.Keeper.timeline c.args.keeper.now in
    let trust = c.in_ok-rule.ensures.was (c.in_ok-sight-in-Allowed.ensures.was honest) in
    let fit_clock : FitsSigned w64 c.args.clock = search rules in
    let fit_last : FitsSigned w64 c.last.result = search rules in
    let fit_now : FitsSigned w64 c.read_moment-now.result = search rules in
    let last_is = c.last.ensures.last (trust, sym c.is_closed.ensures ∙ c.if-is_closed.false) in
    let now_is : c.read_moment-now.result ≡ now_of c.args.clock tl = rw (← last_is) (simp to_z-of_z at c.read_moment-now.ensures) in
    let at_is : c.unwrap_or-moment.result ≡ unwrap_or c.args.at (now_of c.args.clock tl) = rw (← now_is) (simp to_z-of_z at c.unwrap_or-moment.ensures) in
    let alike : to_z w64 (of_z w64 c.unwrap_or-moment.result) ≡ c.unwrap_or-moment.result = search rules in
    alike ∙ at_is
