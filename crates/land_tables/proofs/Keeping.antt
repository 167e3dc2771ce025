-- A keeper that reads whole tables: the results of its calls.
use Rattle.std.proofs.Common.{◌≡◌, ◌∙◌, ap, sym, subst, Bool, true, false, Result, Ok, Err, IsErrAnd}
use Rattle.std.specs.Prelude.{ℤ, ◌≤ℤ◌, int_lt}
use Rattle.land_core.specs.declared.ask.Ask.{Ask}
use Rattle.land_core.specs.declared.caller.Caller.{Caller}
use Rattle.land_core.specs.declared.register.Register.{Register}
use Rattle.land_keep.specs.Keeping.{Closes}
use Rattle.land_keep.specs.Machine.{asked_moment, verdict_at}
use Rattle.land_keep.specs.Timeline.{IsSoundTimeline, Timeline, last_register, last_stamp, register_at}
use Rattle.land_keep.specs.declared.store_fault.StoreFault.{StoreFault}
use Rattle.land_keep.specs.declared.store_fault.StoreFault.TheVariants.{Closed, NoMemory, Store}
use Rattle.land_rules.specs.Rules.{verdict_of}
use Rattle.land_rules.specs.declared.verdict.Verdict.{Verdict}
use Rattle.land_tables.proofs.WrittenTimelines.{stays_last}

-- two calls in sequence that leave a keeper open
pub closes_next : {T U : Type 0} (a b c : Bool) (x : T) (r : Result U StoreFault) → Closes {T = T} a b (Ok x) → Closes b c r → Closes a c r
closes_next true b c x r first next = absurd first
closes_next false b c x r first next = subst (λ (before : Bool). Closes before c r) first next

-- for any result
pub closes_ok : {T U : Type 0} (a b : Bool) (x : T) (y : U) → Closes {T = T} a b (Ok x) → Closes {T = U} a b (Ok y)
closes_ok true b x y closes = absurd closes
closes_ok false b x y closes = closes

pub stays_open : {T : Type 0} (a b : Bool) (x : T) → Closes {T = T} a b (Ok x) → b ≡ false
stays_open true b x closes = absurd closes
stays_open false b x closes = closes

-- a fault is propagated
pub closes_on : (T : Type 0) {U : Type 0} (a b : Bool) (fault : StoreFault) (r : Result U StoreFault) → Closes {T = T} a b (Err fault) → IsErrAnd r (λ f. f ≡ fault) → Closes a b r
closes_on T {U = U} a b fault (Ok x) closes is = absurd is
closes_on T {U = U} a b fault (Err f) closes is = handed a fault f closes is
  where
    handed : (a : Bool) (fault f : StoreFault) → Closes {T = T} a b (Err fault) → f ≡ fault → Closes {T = U} a b (Err f)
    handed true fault f closes is = (is ∙ closes.0, closes.1)
    handed false Store f closes is = subst (λ (e : StoreFault). Closes {T = U} false b (Err e)) (sym is) closes
    handed false NoMemory f closes is = subst (λ (e : StoreFault). Closes {T = U} false b (Err e)) (sym is) closes
    handed false Closed f closes is = absurd closes

module _ (tl : Timeline) (caller : Caller) (a : Ask) (now at_moment : ℤ) (is_moment : at_moment ≡ asked_moment a now) (newest : Register) (is_last : newest ≡ last_register tl) (v : Verdict) where
  -- from the last stamp on, the current register is the one at the requested time
  pub verdict_now : (last : ℤ) → IsSoundTimeline tl → last ≡ last_stamp tl → last ≤ℤ at_moment → v ≡ verdict_of newest newest caller a (int_lt at_moment now) → v ≡ verdict_at tl caller a now
  verdict_now last sound is_stamp le is =
      let reaches : last_stamp tl ≤ℤ at_moment = subst (λ (t : ℤ). t ≤ℤ at_moment) is_stamp le in
      is ∙ ap (λ (r : Register). verdict_of r r caller a (int_lt at_moment now)) is_last
      ∙ ap (λ (r : Register). verdict_of (last_register tl) r caller a (int_lt at_moment now)) (sym (stays_last tl at_moment sound.rising reaches))
      ∙ ap (λ (t : ℤ). verdict_of (last_register tl) (register_at tl t) caller a (int_lt t now)) is_moment

  -- before it, the register at that time is read
  pub verdict_then : (was : Register) → was ≡ register_at tl at_moment → v ≡ verdict_of newest was caller a (int_lt at_moment now) → v ≡ verdict_at tl caller a now
  verdict_then was is_then is =
      is ∙ ap (λ (r : Register). verdict_of r was caller a (int_lt at_moment now)) is_last
      ∙ ap (λ (r : Register). verdict_of (last_register tl) r caller a (int_lt at_moment now)) is_then
      ∙ ap (λ (t : ℤ). verdict_of (last_register tl) (register_at tl t) caller a (int_lt t now)) is_moment
