-- Remembered roles are held, and verdicts show them.
use Rattle.std.proofs.Common.{◌≡◌, ◌∙◌, Bool, true, false, not, cond, nat_eq, ◌==◌, length, List, [], ◌∷◌, Option, None, Some, Result, Ok, Err, refl, sym, ap, ap₂, arith, subst, is_some}
use Rattle.std.proofs.lemmas.Bool.{false≢true}
use Rattle.std.proofs.lemmas.Bool.Decides.{Decides-eqb}
use Rattle.std.proofs.lemmas.List.{nil_from_length}
use Rattle.std.specs.Cmp.{nat_eq_equiv, tied_itself}
use Rattle.std.specs.FinMap as map
use Rattle.std.specs.Ordering.{eq_by_cmp, is_eq}
use Rattle.std.specs.List.{list_any}
use Rattle.std.proofs.lemmas.Int.{ints}
use Rattle.std.specs.Prelude.{ℤ, ℕ, ◌≤ℤ◌, ◌||◌, OnErr, OnOk, int_le}
use Rattle.land_core.proofs.FiniteMaps.{is_equal}
use Rattle.land_core.proofs.FiniteSets.{exact_grants, grants_total, mandates_total}
use Rattle.land_core.proofs.Reflection.{get-entries_where}
use Rattle.land_core.specs.Changes.{after}
use Rattle.land_core.specs.Entries.{with_changes, with_entries, without}
use Rattle.land_core.specs.Grants.{Grants, grant_cmp, grant_to, has_grant, set_entries}
use Rattle.land_core.specs.Laws.{SoundnessByNumber}
use Rattle.land_core.specs.Mandates.{Mandates, has_mandate, mandate_cmp, mandate_between}
use Rattle.land_core.specs.Register.{holds, stands}
use Rattle.land_core.specs.declared.ask.Ask.{Ask}
use Rattle.land_core.specs.declared.ask.Ask.TheVariants as ask
use Rattle.land_core.specs.declared.caller.Caller.{Caller}
use Rattle.land_core.specs.declared.change.Change.{Change}
use Rattle.land_core.specs.declared.kind.Kind.TheVariants as kind
use Rattle.land_core.specs.declared.mandates.Mandate.{Mandate}
use Rattle.land_core.specs.declared.register.Register.{Register}
use Rattle.land_core.specs.declared.roles.Grant.{Grant}
use Rattle.land_keep.specs.Keeping.{Closes, IsHonestAndOpen}
use Rattle.land_keep.specs.Machine.{written_timeline}
use Rattle.land_keep.specs.Timeline.{IsIncreasing, Timeline, last_register, last_stamp, register_at}
use Rattle.land_keep.specs.declared.store_fault.StoreFault.{StoreFault}
use Rattle.land_rules.proofs.InCircles.{is_principal}
use Rattle.land_rules.specs.Circles.{principals_of}
use Rattle.land_rules.specs.Laws.{IsSoundOrNothing}
use Rattle.land_rules.specs.Rules.{first_denial, standing_rules, verdict_of}
use Rattle.land_rules.specs.declared.verdict.Verdict.{Verdict}
use Rattle.land_rules.specs.declared.verdict.Verdict.TheVariants.{Denied}
use Rattle.land_select.proofs.Callers.{holder_stands}
use Rattle.land_select.specs.KnownRoles.{AreKnownIn, HoldsRoleIf, shows_role}
use Rattle.land_select.specs.Verdicts.{holder_verdict, is_read, roles_in}
use Rattle.land_select.specs.declared.known_roles.KnownRoles.{KnownRoles}
use Rattle.land_select_queries.specs.Joins.Sight.{HoldsNoMandate, HoldsNoMandateIf}
use Rattle.land_tables.proofs.WrittenTimelines.{stays_last, written_register}

-- ---- sets of roles

-- the empty set
pub none_held : (P : Grant → Type 0) (roles : Grants) → roles ≡ map.empty → (grant : Grant) → has_grant roles grant ≡ true → P grant
none_held P roles is grant has = absurd (false≢true (sym (ap is_some (map.get-empty grant_cmp grant)) ∙ subst (λ (m : Grants). has_grant m grant ≡ true) is has))

-- one more
pub one_more_held : (P : Grant → Type 0) (roles more : Grants) (grant : Grant) → more ≡ map.insert roles grant tt → ((other : Grant) → has_grant roles other ≡ true → P other) → P grant
    → (other : Grant) → has_grant more other ≡ true → P other
one_more_held P roles more grant are held is other has = go (eq_by_cmp grant_cmp other grant) refl
  where
    at : has_grant more other ≡ is_some (cond (eq_by_cmp grant_cmp other grant) (Some tt) (map.get roles other))
    at = ap (λ (m : Grants). has_grant m other) are ∙ ap is_some (map.get-insert grants_total roles grant tt other)

    go : (b : Bool) → eq_by_cmp grant_cmp other grant ≡ b → P other
    go true same = subst P (sym (exact_grants other grant (is_equal _ same))) is
    go false apart = held other (sym (ap (λ b. is_some (cond b (Some tt) (map.get roles other))) apart) ∙ sym at ∙ has)

-- a set of one role has it
pub one_role : (grant : Grant) → has_grant (map.insert map.empty grant tt) grant ≡ true
one_role grant =
    ap is_some (map.get-insert grants_total (map.empty {R = grant_cmp}) grant tt grant)
    ∙ ap (λ b. is_some (cond b (Some tt) (map.get (map.empty {R = grant_cmp}) grant))) (ap is_eq (tied_itself grants_total grant))

-- the roles of a party decide if it holds one
pub own_roles_decide : (r : Register) (caller : Caller) → has_grant (roles_in r caller.party) (grant_to caller.party caller.role) ≡ holds r caller.party caller.role
own_roles_decide r caller =
    ap is_some (get-entries_where grants_total exact_grants (λ given u. nat_eq given.party caller.party) r.roles (grant_to caller.party caller.role) (λ u. (Decides-eqb caller.party caller.party).1 refl))

-- ---- changes

-- an inserted role removes none
roles_grow : (roles : Grants) (es : List (Grant × Unit {0})) (grant : Grant) → has_grant roles grant ≡ true → has_grant (with_entries roles es) grant ≡ true
roles_grow roles [] grant has = has
roles_grow roles (e ∷ es) grant has = roles_grow (map.insert roles e.0 e.1) es grant (kept (eq_by_cmp grant_cmp grant e.0) refl)
  where
    kept : (b : Bool) → eq_by_cmp grant_cmp grant e.0 ≡ b → has_grant (map.insert roles e.0 e.1) grant ≡ true
    kept true is = ap is_some (map.get-insert grants_total roles e.0 e.1 grant ∙ ap (λ b. cond b (Some e.1) (map.get roles grant)) is)
    kept false is = ap is_some (map.get-insert grants_total roles e.0 e.1 grant ∙ ap (λ b. cond b (Some e.1) (map.get roles grant)) is) ∙ has

pub none_in : {X : Type 0} (xs : List X) → (length xs == 0) ≡ true → xs ≡ []
none_in xs h = nil_from_length xs ((Decides-eqb (length xs) 0).0 h)

-- a removed mandate adds none
mandates_shrink : (mandates : Mandates) (ended : List Mandate) (mandate : Mandate) → has_mandate (without mandates ended) mandate ≡ true → has_mandate mandates mandate ≡ true
mandates_shrink mandates [] mandate has = has
mandates_shrink mandates (e ∷ es) mandate has = kept (eq_by_cmp mandate_cmp mandate e) refl (sym (ap is_some (map.get-remove mandates_total mandates e mandate)) ∙ mandates_shrink (map.remove mandates e) es mandate has)
  where
    kept : (b : Bool) → eq_by_cmp mandate_cmp mandate e ≡ b → is_some (cond (eq_by_cmp mandate_cmp mandate e) None (map.get mandates mandate)) ≡ true → has_mandate mandates mandate ≡ true
    kept true is left = absurd (false≢true (sym (ap (λ b. is_some (cond b None (map.get mandates mandate))) is) ∙ left))
    kept false is left = sym (ap (λ b. is_some (cond b None (map.get mandates mandate))) is) ∙ left

-- what holds of no more than another does not hold if the other does not
not_so : (a b : Bool) → (a ≡ true → b ≡ true) → b ≡ false → a ≡ false
not_so true b so none = absurd (false≢true (sym none ∙ so refl))
not_so false b so none = refl

-- a list without members is empty
none_of : (xs : List ℕ) → ((n : ℕ) → list_any (nat_eq n) xs ≡ false) → xs ≡ []
none_of [] h = refl
none_of (x ∷ xs) h = absurd (false≢true (sym (h x) ∙ ap (λ b. b || list_any (nat_eq x) xs) (nat_eq_equiv.refl x)))

-- a change that gives no mandate gives none to a party
still_none : (r : Register) (change : Change) (party : ℕ) → change.put.mandates ≡ [] → HoldsNoMandate r party → HoldsNoMandate (after change r) party
still_none r change party put none = none_of (principals_of (after change r) party) (λ principal.
    is_principal (after change r) party principal
    ∙ not_so (has_mandate (after change r).mandates (mandate_between principal party)) (has_mandate r.mandates (mandate_between principal party))
    (λ has. mandates_shrink r.mandates change.ended.mandates (mandate_between principal party)
    (subst (λ (given : List Mandate). has_mandate (with_changes r.mandates (set_entries given) change.ended.mandates) (mandate_between principal party) ≡ true) put has))
    (sym (is_principal r party principal) ∙ ap (list_any (nat_eq principal)) none))

-- a change that ends no role and gives no mandate leaves the remembered facts correct
pub known_after : (r : Register) (change : Change) (known : Option KnownRoles) → change.ended.roles ≡ [] → change.put.mandates ≡ [] → AreKnownIn r known → AreKnownIn (after change r) known
known_after r change None ended put are = tt
known_after r change (Some known) ended put are = record {
  roles = λ grant has.
      subst (λ keys. has_grant (with_changes r.roles (set_entries change.put.roles) keys) (grant_to grant.party grant.role) ≡ true) (sym ended)
      (roles_grow r.roles (set_entries change.put.roles) (grant_to grant.party grant.role) (are.roles grant has));
  mandates = λ grant has. still_none r change grant.party put (are.mandates grant has);
}

-- so the remembered roles are correct after a write, and after one that failed
pub known_when_written : (result : Result (Unit {0}) StoreFault) (old new : Timeline) (change : Change) (stamp : ℤ) (known : Option KnownRoles) → OnOk result (new ≡ written_timeline old change stamp) → OnErr result (new ≡ old)
    → AreKnownIn (last_register old) known × AreKnownIn (after change (last_register old)) known → AreKnownIn (last_register new) known
known_when_written (Ok it) old new change stamp known is same both =
    subst (λ (tl : Timeline). AreKnownIn (last_register tl) known) (sym is) (subst (λ (r : Register). AreKnownIn r known) (sym (written_register old change stamp)) both.1)
known_when_written (Err fault) old new change stamp known is same both = subst (λ (tl : Timeline). AreKnownIn (last_register tl) known) (sym same) both.0

-- ---- the keeper

pub was_open : {T : Type 0} (before after : Bool) (r : Result T StoreFault) → Closes before after r → after ≡ false → before ≡ false
was_open true after (Ok it) closes is = absurd closes
was_open true after (Err fault) closes is = absurd (false≢true (sym is ∙ closes.1))
was_open false after r closes is = refl

-- a call that leaves the timeline leaves the remembered roles correct
pub still_known : {T : Type 0} (was_honest honest : Type 0) (before after : Bool) (r : Result T StoreFault) (old new : Timeline) (known : Option KnownRoles) → Closes before after r → (honest → was_honest)
    → (IsHonestAndOpen honest after → new ≡ old) → (IsHonestAndOpen was_honest before → AreKnownIn (last_register old) known) → IsHonestAndOpen honest after → AreKnownIn (last_register new) known
still_known was_honest honest before after r old new known closes was same is live =
    subst (λ (tl : Timeline). AreKnownIn (last_register tl) known) (sym (same live)) (is (was live.0, was_open before after r closes live.1))

pub reaches : (last t : ℤ) → int_le last t ≡ true → last ≤ℤ t
reaches last t is = grind (arith, ints)

-- at the latest time the register is the last one, so a party that is known to hold no mandate holds none then
pub none_then : (tl : Timeline) (t : ℤ) (is_latest holds_none : Bool) (party : ℕ) → IsIncreasing tl → (is_latest ≡ true → last_stamp tl ≤ℤ t) → (holds_none ≡ true → is_latest ≡ true) → HoldsNoMandateIf holds_none (last_register tl) party
    → HoldsNoMandateIf holds_none (register_at tl t) party
none_then tl t is_latest holds_none party rising latest only none is = subst (λ (r : Register). HoldsNoMandate r party) (sym (stays_last tl t rising (latest (only is)))) (none is)

-- and what is found then is a fact of the last register
pub none_now : (tl : Timeline) (t : ℤ) (is_latest holds_none : Bool) (party : ℕ) → IsIncreasing tl → (is_latest ≡ true → last_stamp tl ≤ℤ t) → HoldsNoMandateIf holds_none (register_at tl t) party
    → is_latest ≡ true → HoldsNoMandateIf holds_none (last_register tl) party
none_now tl t is_latest holds_none party rising latest none is given = subst (λ (r : Register). HoldsNoMandate r party) (stays_last tl t rising (latest is)) (none given)

-- ---- verdicts

-- a verdict of the first two rules, or of those after them
shown : (there held : Bool) (after v : Verdict) → v ≡ cond (not there) (Denied 1) (cond (not held) (Denied 2) after) → shows_role v ≡ true → held ≡ true
shown there true after v is shows = refl
shown true false after v is shows = absurd (false≢true (sym (ap shows_role is) ∙ shows))
shown false false after v is shows = absurd (false≢true (sym (ap shows_role is) ∙ shows))

-- a verdict that shows the role is one on a caller that holds it
pub verdict_shows : (now at : Register) (caller : Caller) (a : Ask) (past : Bool) (v : Verdict) → v ≡ verdict_of now at caller a past → HoldsRoleIf (shows_role v) now caller
verdict_shows now at caller (ask.View k n t) past v is shows = shown (stands now kind.Party caller.party) (holds now caller.party caller.role) _ v is shows
verdict_shows now at caller (ask.List k t) past v is shows = shown (stands now kind.Party caller.party) (holds now caller.party caller.role) _ v is shows
verdict_shows now at caller (ask.Sheet unit t) past v is shows = shown (stands now kind.Party caller.party) (holds now caller.party caller.role) _ v is shows
verdict_shows now at caller (ask.Do it) past v is shows = shown (stands now kind.Party caller.party) (holds now caller.party caller.role) _ v is shows

-- the first two rules do not deny a caller that holds the role that it claims
passed : (there held : Bool) (after : Verdict) → there ≡ true → held ≡ true → after ≡ cond (not there) (Denied 1) (cond (not held) (Denied 2) after)
passed there held after is has = ap₂ (λ b c. cond (not b) (Denied 1) (cond (not c) (Denied 2) after)) (sym is) (sym has)

-- so rule 3 decides, if the request only reads
pub holder_told : SoundnessByNumber → (r : Register) → IsSoundOrNothing r → (caller : Caller) (a : Ask) (past : Bool) → is_read a ≡ true → holds r caller.party caller.role ≡ true
    → holder_verdict caller past ≡ first_denial (standing_rules r caller a past)
holder_told look_ups r premise caller a past reads held = go a reads
  where
    there : stands r kind.Party caller.party ≡ true
    there = holder_stands look_ups r caller premise held

    go : (a : Ask) → is_read a ≡ true → holder_verdict caller past ≡ first_denial (standing_rules r caller a past)
    go (ask.View k n t) reads = passed (stands r kind.Party caller.party) (holds r caller.party caller.role) (holder_verdict caller past) there held
    go (ask.List k t) reads = passed (stands r kind.Party caller.party) (holds r caller.party caller.role) (holder_verdict caller past) there held
    go (ask.Sheet unit t) reads = passed (stands r kind.Party caller.party) (holds r caller.party caller.role) (holder_verdict caller past) there held
    go (ask.Do it) reads = absurd (false≢true reads)
