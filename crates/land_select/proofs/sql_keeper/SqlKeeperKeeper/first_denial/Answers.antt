use Rattle.std.proofs.Common.{of_z, rules, subst, sym, to_z, w64, ◌≡◌}
use Rattle.std.specs.Prelude.{ℤ, int_lt}
use Rattle.std.specs.Int.{int_min}
use Rattle.land_core.specs.Numbers.{last_moment}
use Rattle.land_keep.proofs.Steps.{opens}
use Rattle.land_keep.specs.Machine.{asked_moment}
use Rattle.land_keep.specs.Timeline.{Timeline, last_register, register_at}
use Rattle.land_select.proofs.KnownRoles.{still_known, verdict_shows}
use Rattle.land_select.proofs.Seen.{verdict_told}
use Rattle.land_rules.specs.Denials.Standing.{mutation_of_ask}
use Rattle.land_select.specs.Cache.{IsMutationValue, IsValueFor}
use Rattle.land_select.specs.KnownRoles.{AreKnownIn, HoldsRoleIf, shows_role}
use Rattle.land_tables.proofs.Keeping.{closes_ok}
use Rattle.land_tables.proofs.LookedAt.{look_moment}
use Rattle.land_tables.specs.TablesState.{IsHonest, held_timeline}
use Rattle.sqlite.specs.Held.{state}
use Rattle.land_select.proofs.sql_keeper.SqlKeeperKeeper.first_denial.Goals as goal

pub returns-clause-value : goal.returns-clause-value
returns-clause-value g c clean =
    let s = state g.S.Store c.args.self.now.conn in
    let at = c.unwrap_or-at.result in
    let now : to_z w64 (of_z w64 c.args.now) ≡ c.args.now = search rules in
    let t : to_z w64 (of_z w64 at) ≡ at = search rules in
    let u : to_z w64 (of_z w64 c.min-known_or_zero.result) ≡ c.min-known_or_zero.result = search rules in
    let is_moment : at ≡ asked_moment c.args.ask.now c.args.now = search rules in
    let least : c.min-known_or_zero.result ≡ int_min at last_moment = search rules in
    let closed = (opens c.self.inside.tables.is_closed c.execute.new.tables.is_closed c.in_ok-told.told c.in_ok-told.ensures.closes).0 in
    let known = rw c.self.view_is at (c.is_known-is_held.ensures (last_register (held_timeline g.S.Store c.self.inside.tables)) (c.self.invariant (c.in_ok-told.ensures.was clean, closed)).1) in
    let answer = rw (c.self.view_is, now, t, u) at (c.in_ok-told.ensures.value clean) in
    (verdict_told c.soundness_by_number.ensures s c.args.caller c.is_known-is_held.result c.args.ask.now c.args.now at c.min-known_or_zero.result is_moment (look_moment at c.min-known_or_zero.result least) c.in_ok-told.told answer known).0

pub returns-clause-closes : goal.returns-clause-closes
returns-clause-closes g c = rw c.self.view_is at (closes_ok c.self.inside.tables.is_closed c.execute.new.tables.is_closed c.in_ok-told.told c.in_ok-told.told.0 c.in_ok-told.ensures.closes)

pub invariant_of-self : goal.invariant_of-self
invariant_of-self g c live = (
  tt,
  still_known (IsHonest g.S.Store c.self.inside.tables) (IsHonest g.S.Store c.execute.new.tables) c.self.inside.tables.is_closed c.execute.new.tables.is_closed c.execute.result
      (held_timeline g.S.Store c.self.inside.tables) (held_timeline g.S.Store c.execute.new.tables) c.self.inside.known c.execute.ensures.closes c.execute.ensures.was c.execute.ensures.same (λ was. (c.self.invariant was).1) live,
)

pub invariant_of-self-2 : goal.invariant_of-self-2
invariant_of-self-2 g c live =
    let s = state g.S.Store c.args.self.now.conn in
    let at = c.unwrap_or-at.result in
    let ask = c.args.ask.now in
    let caller = c.args.caller in
    let it = c.in_ok-told.told in
    let was_held = held_timeline g.S.Store c.self.inside.tables in
    let is_held = held_timeline g.S.Store c.execute.new.tables in
    let now : to_z w64 (of_z w64 c.args.now) ≡ c.args.now = search rules in
    let t : to_z w64 (of_z w64 at) ≡ at = search rules in
    let u : to_z w64 (of_z w64 c.min-known_or_zero.result) ≡ c.min-known_or_zero.result = search rules in
    let is_moment : at ≡ asked_moment ask c.args.now = search rules in
    let least : c.min-known_or_zero.result ≡ int_min at last_moment = search rules in
    let closed = (opens c.self.inside.tables.is_closed c.execute.new.tables.is_closed it c.in_ok-told.ensures.closes).0 in
    let known_before = (c.self.invariant (c.in_ok-told.ensures.was live.0, closed)).1 in
    let known = rw c.self.view_is at (c.is_known-is_held.ensures (last_register was_held) known_before) in
    let answer = rw (c.self.view_is, now, t, u) at (c.in_ok-told.ensures.value live.0) in
    let found = verdict_told c.soundness_by_number.ensures s caller c.is_known-is_held.result ask c.args.now at c.min-known_or_zero.result is_moment (look_moment at c.min-known_or_zero.result least) it answer known in
    let same = rw c.self.view_is at (c.in_ok-told.ensures.same live) in
    let kept = c.cache_for.ensures is_held
    (subst (λ (x : ℤ). IsValueFor (register_at is_held x) caller ask it.1) (sym t) (subst (λ (tl : Timeline). IsValueFor (register_at tl at) caller ask it.1) (sym same) found.1))
    (subst (λ (tl : Timeline). IsMutationValue (register_at tl last_moment) caller (mutation_of_ask ask) it.1) (sym same) found.2) in
    let tl = held_timeline g.S.Store c.args.self.now in
    let shown = subst (λ (tl : Timeline). HoldsRoleIf (shows_role it.0) (last_register tl) caller) (sym same)
    (verdict_shows (last_register tl) (register_at tl (asked_moment ask c.args.now)) caller ask (int_lt (asked_moment ask c.args.now) c.args.now) it.0 found.0) in
    let still = subst (λ (tl : Timeline). AreKnownIn (last_register tl) c.self.inside.known) (sym (c.in_ok-told.ensures.same live)) known_before in
    (kept, c.remember.ensures (last_register is_held) still shown)
