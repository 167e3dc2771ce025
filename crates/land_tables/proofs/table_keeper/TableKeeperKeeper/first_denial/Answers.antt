use Rattle.std.proofs.Common.{ap, of_z, rules, subst, to_z, w64, Err, Ok, ◌≡◌, ◌≤ℤ◌, ◌∙◌}
use Rattle.std.specs.Prelude.{ℤ, int_lt}
use Rattle.land_core.specs.declared.register.Register.{Register}
use Rattle.land_keep.specs.Machine.{asked_moment}
use Rattle.land_keep.specs.Timeline.{IsSoundTimeline, Timeline, last_stamp, register_at}
use Rattle.land_rules.specs.Rules.{verdict_of}
use Rattle.land_tables.proofs.Keeping.{closes_next, closes_ok, closes_on, stays_open, verdict_now, verdict_then}
use Rattle.land_tables.specs.TablesState.{held_timeline}
use Rattle.land_tables.proofs.table_keeper.TableKeeperKeeper.first_denial.Goals as goal

pub returns-then-last-at-clause-value : goal.returns-then-last-at-clause-value
returns-then-last-at-clause-value g c clean =
    let S = g.S.Store in
    let mid = c.last_register.new.self in
    let now : to_z w64 (of_z w64 c.args.now) ≡ c.args.now = search rules in
    let is_moment : c.unwrap_or-at.result ≡ asked_moment c.args.ask.now c.args.now = search rules in
    let le : c.last.result ≤ℤ c.unwrap_or-at.result = search rules in
    let still = stays_open c.args.self.now.tables.is_closed mid.is_closed c.in_ok-newest.newest c.in_ok-newest.ensures.closes in
    let same : held_timeline S mid ≡ held_timeline S c.args.self.now.tables = c.in_ok-newest.ensures.same (clean, still) in
    let is_stamp = c.last.ensures.last (clean, still) ∙ ap last_stamp same in
    let sound = subst IsSoundTimeline same (c.last.ensures.sound (clean, still)) in
    let is : c.verdict.result ≡ verdict_of c.in_ok-newest.newest c.in_ok-newest.newest c.args.caller c.args.ask.now (int_lt c.unwrap_or-at.result c.args.now) = search rules in
    verdict_now (held_timeline S c.args.self.now.tables) c.args.caller c.args.ask.now c.args.now c.unwrap_or-at.result is_moment c.in_ok-newest.newest (c.in_ok-newest.ensures.value clean) c.verdict.result
    c.last.result sound is_stamp le is

pub returns-in_err-then-clause-closes : goal.returns-in_err-then-clause-closes
returns-in_err-then-clause-closes g c =
    closes_on Register c.args.self.now.tables.is_closed c.read_at.new.self.is_closed c.in_err-then.field-0.0 c.from_residual-in_err-then.result
    (closes_next c.args.self.now.tables.is_closed c.last_register.new.self.is_closed c.read_at.new.self.is_closed c.in_ok-newest.newest (Err c.in_err-then.field-0.0) c.in_ok-newest.ensures.closes c.in_err-then.ensures.closes)
    c.from_residual-in_err-then.ensures.1

pub returns-clause-value : goal.returns-clause-value
returns-clause-value g c clean =
    let S = g.S.Store in
    let mid = c.last_register.new.self in
    let now : to_z w64 (of_z w64 c.args.now) ≡ c.args.now = search rules in
    let asked : to_z w64 (of_z w64 c.unwrap_or-at.result) ≡ c.unwrap_or-at.result = search rules in
    let is_moment : c.unwrap_or-at.result ≡ asked_moment c.args.ask.now c.args.now = search rules in
    let still = stays_open c.args.self.now.tables.is_closed mid.is_closed c.in_ok-newest.newest c.in_ok-newest.ensures.closes in
    let was = c.in_ok-then.ensures.was clean in
    let same : held_timeline S mid ≡ held_timeline S c.args.self.now.tables = c.in_ok-newest.ensures.same (was, still) in
    let read = subst (λ (t : ℤ). c.in_ok-then.then ≡ register_at (held_timeline S mid) t) asked (c.in_ok-then.ensures.value clean) in
    let is_then = read ∙ ap (λ (tl : Timeline). register_at tl c.unwrap_or-at.result) same in
    let is : c.verdict-2.result ≡ verdict_of c.in_ok-newest.newest c.in_ok-then.then c.args.caller c.args.ask.now (int_lt c.unwrap_or-at.result c.args.now) = search rules in
    verdict_then (held_timeline S c.args.self.now.tables) c.args.caller c.args.ask.now c.args.now c.unwrap_or-at.result is_moment c.in_ok-newest.newest (c.in_ok-newest.ensures.value was) c.verdict-2.result
    c.in_ok-then.then is_then is

pub returns-clause-closes : goal.returns-clause-closes
returns-clause-closes g c =
    closes_ok c.args.self.now.tables.is_closed c.read_at.new.self.is_closed c.in_ok-then.then c.verdict-2.result
    (closes_next c.args.self.now.tables.is_closed c.last_register.new.self.is_closed c.read_at.new.self.is_closed c.in_ok-newest.newest (Ok c.in_ok-then.then) c.in_ok-newest.ensures.closes c.in_ok-then.ensures.closes)
