use Rattle.std.proofs.Common.{of_z, rules, subst, sym, to_z, w64, ◌≡◌, ◌∙◌, true}
use Rattle.std.specs.Int.{int_min}
use Rattle.std.specs.Prelude.{if◌then◌else◌, int_le}
use Rattle.land_core.specs.Numbers.{last_moment}
use Rattle.land_keep.proofs.Steps.{opens}
use Rattle.land_keep.specs.Keeping.{IsHonestAndOpen}
use Rattle.land_keep.specs.Timeline.{Timeline, last_register, last_stamp}
use Rattle.land_select.proofs.KnownRoles.{none_now, none_then, reaches, still_known}
use Rattle.land_select.proofs.Seen.{read_latest, sight_seen}
use Rattle.land_select.specs.KnownRoles.{AreKnownIn}
use Rattle.land_select_queries.specs.Joins.Sight.{HoldsNoMandateIf}
use Rattle.land_tables.specs.TablesState.{IsHonest, held_timeline}
use Rattle.sqlite.specs.Held.{state}
use Rattle.land_select.proofs.sql_keeper.SqlKeeperKeeper.sight.Goals as goal

pub invariant_of-self : goal.invariant_of-self
invariant_of-self g c live = (
  tt,
  still_known (IsHonest g.S.Store c.self.inside.tables) (IsHonest g.S.Store c.execute.new.tables) c.self.inside.tables.is_closed c.execute.new.tables.is_closed c.execute.result
      (held_timeline g.S.Store c.self.inside.tables) (held_timeline g.S.Store c.execute.new.tables) c.self.inside.known c.execute.ensures.closes c.execute.ensures.was c.execute.ensures.same (λ was. (c.self.invariant was).1) live,
)

pub invariant_of-self-2 : goal.invariant_of-self-2
invariant_of-self-2 g c live =
    let s = state g.S.Store c.args.self.now.conn in
    let caller = c.args.caller in
    let at = c.args.at in
    let it = c.in_ok-told.told in
    let tl = held_timeline g.S.Store c.args.self.now in
    let is_latest = c.is_latest-latest.result in
    let holds_none = c.holds_no_mandate-holds_none.result in
    let t : to_z w64 (of_z w64 at) ≡ at = search rules in
    let l : to_z w64 (of_z w64 c.last.result) ≡ c.last.result = search rules in
    let u : to_z w64 (of_z w64 c.reading_moment.result) ≡ c.reading_moment.result = search rules in
    let read : c.reading_moment.result ≡ (if is_latest then last_moment else int_min at last_moment) = rw t at c.reading_moment.ensures in
    let was : IsHonestAndOpen (IsHonest g.S.Store c.self.inside.tables) c.self.inside.tables.is_closed = (c.in_ok-told.ensures.was live.0, (opens c.self.inside.tables.is_closed c.execute.new.tables.is_closed it c.in_ok-told.ensures.closes).0) in
    let rising = rw c.self.view_is at (c.last.ensures.sound was).rising in
    let latest : is_latest ≡ int_le (last_stamp tl) at = rw (t, l, c.last.ensures.last was, c.self.view_is) at c.is_latest-latest.ensures in
    let known = rw c.self.view_is at (c.holds_no_mandate-holds_none.ensures.known (last_register (held_timeline g.S.Store c.self.inside.tables)) (c.self.invariant was).1) in
    let given = none_then tl at is_latest holds_none caller.party rising (λ is. reaches (last_stamp tl) at (sym latest ∙ is)) c.holds_no_mandate-holds_none.ensures.latest known in
    let answer = rw (c.self.view_is, u) at (c.in_ok-told.ensures.value live.0) in
    let seen = sight_seen s caller holds_none c.args.kind at c.reading_moment.result (read_latest s at c.reading_moment.result is_latest latest read) it answer given in
    let none = none_now tl at is_latest it.1 caller.party rising (λ is. reaches (last_stamp tl) at (sym latest ∙ is)) seen.1 in
    let same = rw c.self.view_is at (c.in_ok-told.ensures.same live) in
    let still = subst (λ (tl : Timeline). AreKnownIn (last_register tl) c.self.inside.known) (sym (c.in_ok-told.ensures.same live)) (c.self.invariant was).1 in (
      tt,
      c.remember_no_mandate.ensures (last_register (held_timeline g.S.Store c.execute.new.tables)) still
          (subst (λ (tl : Timeline). is_latest ≡ true → HoldsNoMandateIf it.1 (last_register tl) caller.party) (sym same) none),
    )

pub returns-clause-value : goal.returns-clause-value
returns-clause-value g c clean =
    let s = state g.S.Store c.args.self.now.conn in
    let caller = c.args.caller in
    let at = c.args.at in
    let it = c.in_ok-told.told in
    let tl = held_timeline g.S.Store c.args.self.now in
    let is_latest = c.is_latest-latest.result in
    let holds_none = c.holds_no_mandate-holds_none.result in
    let t : to_z w64 (of_z w64 at) ≡ at = search rules in
    let l : to_z w64 (of_z w64 c.last.result) ≡ c.last.result = search rules in
    let u : to_z w64 (of_z w64 c.reading_moment.result) ≡ c.reading_moment.result = search rules in
    let read : c.reading_moment.result ≡ (if is_latest then last_moment else int_min at last_moment) = rw t at c.reading_moment.ensures in
    let was : IsHonestAndOpen (IsHonest g.S.Store c.self.inside.tables) c.self.inside.tables.is_closed = (c.in_ok-told.ensures.was clean, (opens c.self.inside.tables.is_closed c.execute.new.tables.is_closed it c.in_ok-told.ensures.closes).0) in
    let rising = rw c.self.view_is at (c.last.ensures.sound was).rising in
    let latest : is_latest ≡ int_le (last_stamp tl) at = rw (t, l, c.last.ensures.last was, c.self.view_is) at c.is_latest-latest.ensures in
    let known = rw c.self.view_is at (c.holds_no_mandate-holds_none.ensures.known (last_register (held_timeline g.S.Store c.self.inside.tables)) (c.self.invariant was).1) in
    let given = none_then tl at is_latest holds_none caller.party rising (λ is. reaches (last_stamp tl) at (sym latest ∙ is)) c.holds_no_mandate-holds_none.ensures.latest known in
    let answer = rw (c.self.view_is, u) at (c.in_ok-told.ensures.value clean) in
    let seen = sight_seen s caller holds_none c.args.kind at c.reading_moment.result (read_latest s at c.reading_moment.result is_latest latest read) it answer given in
    seen.0
