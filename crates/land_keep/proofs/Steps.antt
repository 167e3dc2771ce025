-- Lemmas: a run continues by one step, and a prepared reply commits the machine's step.
use Rattle.std.proofs.Common.{◌≡◌, Bool, true, false, not, drop, List, [], ◌∷◌, ◌++◌, Option, Some, None, Result, Ok, Err, refl, sym, ap, ◌∙◌, subst, inl, inr, ℕ, arith}
use Rattle.std.specs.Prelude.{ℤ, ◌≤ℤ◌, ◌<ℤ◌, int_lt, unwrap_or, MatchOption}
use Rattle.std.proofs.lemmas.Bool.{false≢true}
use Rattle.std.proofs.lemmas.Int.{ints, clamps}
use Rattle.land_acts.proofs.Accepted.{nothing_unstamped, tells_stamp}
use Rattle.land_acts.specs.Laws.{IsAccepted}
use Rattle.land_acts.specs.Outcome.{outcome_of}
use Rattle.land_acts.specs.declared.mutations.refusal.Planned.{Planned}
use Rattle.land_acts.specs.declared.mutations.refusal.Planned.TheVariants.{New, Repeat}
use Rattle.land_acts.specs.declared.mutations.refusal.Refusal.{Refusal}
use Rattle.land_core.specs.Acts.{is_well_formed}
use Rattle.land_core.specs.Numbers.{IsMoment, last_moment}
use Rattle.land_core.specs.Register.{holds, stands}
use Rattle.land_core.specs.declared.act.Act.{Act}
use Rattle.land_core.specs.declared.ask.Ask.{Ask}
use Rattle.land_core.specs.declared.ask.Ask.TheVariants as ask
use Rattle.land_core.specs.declared.ask.Request.{Request}
use Rattle.land_core.specs.declared.caller.Caller.{Caller}
use Rattle.land_core.specs.declared.kind.Kind.TheVariants as kind
use Rattle.land_keep.specs.Faults.{store_fault_number}
use Rattle.land_keep.specs.Keeping.{CanWrite, Closes, AnswersByStep, CommitsStep, Commits, RunsToState, SheetHasRequestedMoment, SheetHasMoment, ReportsClosing, apply_pending, prepared_of}
use Rattle.land_keep.specs.Machine.{Run, State, StepOrFault, Next, step, next_if_allowed, outcome_next, verdict_at, at_of, asked_moment, now_of, stamp_of}
use Rattle.land_keep.specs.Moments.{now_after, stamp_after}
use Rattle.land_keep.specs.Timeline.{Timeline, last_stamp, last_register, register_at}
use Rattle.land_keep.specs.declared.prepared.Prepared.{Prepared}
use Rattle.land_keep.specs.declared.prepared.Writing.{Writing}
use Rattle.land_keep.specs.declared.reply.Reply.{Reply}
use Rattle.land_keep.specs.declared.reply.Reply.TheVariants as reply
use Rattle.land_keep.specs.declared.store_fault.StoreFault.{StoreFault}
use Rattle.land_keep.specs.declared.store_fault.StoreFault.TheVariants.{NoMemory, Store, Closed}
use Rattle.land_rules.specs.Rules.{Rules, first_denial, rules_on}
use Rattle.land_rules.specs.declared.verdict.Verdict.TheVariants.{Allowed, Denied}

-- a run is extended by one request
pub run_more : {C : Type 0} (reads : C → ℤ → C → Type 0) (from mid to : State C) (reading : ℤ) (qs : List Request) (q : Request) (rs : List Reply) (r : Reply)
    → Run reads from qs rs mid → reads mid.clock reading to.clock → StepOrFault mid.closed reading q mid.timeline r to.timeline to.closed
    → Run reads from (qs ++ q ∷ []) (rs ++ r ∷ []) to
run_more {C} reads from mid to reading [] q [] r is rd el =
    subst (λ (s : State C). Run reads s (q ∷ []) (r ∷ []) to) is (reading, to, rd, el, refl)
run_more {C} reads from mid to reading (x ∷ xs) q (y ∷ ys) r run rd el =
    (run.0, run.1, run.2, run.3, run_more reads run.1 mid to reading xs q ys r run.4 rd el)
run_more {C} reads from mid to reading [] q (y ∷ ys) r run rd el = absurd run
run_more {C} reads from mid to reading (x ∷ xs) q [] r run rd el = absurd run

-- an element of a keeper that showed another timeline than the machine's, since it was closed, is one of the
-- machine's
element_from : (closed closed_after : Bool) (tl shown new shown_after : Timeline) (reading : ℤ) (q : Request) (r : Reply)
    → (closed ≡ false → shown ≡ tl) → StepOrFault closed reading q shown r new closed_after → (closed_after ≡ false → shown_after ≡ new)
    → (to : Timeline) × StepOrFault closed reading q tl r to closed_after × (closed_after ≡ false → shown_after ≡ to)
element_from true closed_after tl shown new shown_after reading q r same el shows =
    (tl, (el.0, refl, el.2), λ is_open. absurd (false≢true (sym is_open ∙ el.2)))
element_from false closed_after tl shown new shown_after reading q r same el shows =
    (new, subst (λ (t : Timeline). StepOrFault false reading q t r new closed_after) (same refl) el, shows)

-- a run to a state that the keeper represents is extended by the keeper's reply
pub runs_on : {C : Type 0} (reads : C → ℤ → C → Type 0) (from : State C) (honest honest_after : Type 0) (closed closed_after : Bool)
    (shown shown_after : Timeline) (clock clock_after : C) (reading : ℤ) (qs : List Request) (q : Request) (rs : List Reply) (r : Reply)
    → honest → RunsToState reads from qs rs honest closed shown clock → reads clock reading clock_after
    → AnswersByStep closed reading q shown r shown_after closed_after
    → RunsToState reads from (qs ++ q ∷ []) (rs ++ r ∷ []) honest_after closed_after shown_after clock_after
runs_on {C} reads from honest honest_after closed closed_after shown shown_after clock clock_after reading qs q rs r trust so rd answered =
    let mid = so.0 in
    let here = so.2 in
    let next = element_from closed closed_after mid.timeline shown answered.0 shown_after reading q r (λ is_open. here.2 (trust, is_open)) answered.1 answered.2 in
    let to : State C = record { closed = closed_after; timeline = next.0; clock = clock_after } in (
      to,
      run_more reads from mid to reading qs q rs r so.1
          (subst (λ (c : C). reads c reading clock_after) (sym here.1) rd)
          (subst (λ (b : Bool). StepOrFault b reading q mid.timeline r next.0 closed_after) (sym here.0) next.1),
      (refl, refl, λ live. next.2 live.1),
    )

-- if no rule denies, a step is the allowed one
pub step_allowed : (clock : ℤ) (request : Request) (tl : Timeline)
    → int_lt (now_of clock tl) (asked_moment request.ask (now_of clock tl)) ≡ false
    → verdict_at tl request.caller request.ask (now_of clock tl) ≡ Allowed
    → step clock request tl ≡ next_if_allowed clock request.caller request.ask (asked_moment request.ask (now_of clock tl)) tl
step_allowed clock request tl late free = rw (late, free) refl

-- a stamp is a moment after the last one
pub stamp_bounds : (clock last s : ℤ) → stamp_after clock last ≡ Some s → (s ≤ℤ last_moment) × (last <ℤ s)
stamp_bounds clock last s e = (grind (arith, ints), grind (arith, ints))

-- the reply prepared for an outcome commits that outcome
pub leads_to : (tl : Timeline) (clock : ℤ) (caller : Caller) (a : Act) (p : Result Planned Refusal)
    → is_well_formed a ≡ true → holds (last_register tl) caller.party caller.role ≡ true
    → outcome_of (last_register tl) caller a (stamp_of clock tl) ≡ p
    → Commits (prepared_of p) (outcome_next p tl) tl
leads_to tl clock caller a (Err refusal) wf role e = record { reply = refl; timeline = refl; can_finish = tt }
leads_to tl clock caller a (Ok (Repeat done)) wf role e = record { reply = refl; timeline = refl; can_finish = tt }
leads_to tl clock caller a (Ok (New change done)) wf role e =
    record { reply = refl; timeline = refl; can_finish = written_at (stamp_of clock tl) refl e }
  where
    written_at : (o : Option ℤ) → stamp_of clock tl ≡ o → outcome_of (last_register tl) caller a o ≡ Ok (New change done) → CanWrite tl change done.stamp
    written_at None is e = absurd (nothing_unstamped (last_register tl) caller a change done e)
    written_at (Some s) is e =
        let bounds = stamp_bounds clock (last_stamp tl) s is in
        let accepted : IsAccepted (last_register tl) change s = record { caller = caller; act = a; done = done; well_formed = wf; role_held = role; outcome = e } in
        subst (λ (at : ℤ). CanWrite tl change at) (sym (tells_stamp (last_register tl) change s accepted))
        (record { moment = bounds.0; later = bounds.1; made = accepted })

-- the reply prepared for an act is not a sheet
pub shows_no_sheet : (t : ℤ) (p : Result Planned Refusal) → SheetHasMoment t (prepared_of p).reply
shows_no_sheet t (Err refusal) = tt
shows_no_sheet t (Ok (Repeat done)) = tt
shows_no_sheet t (Ok (New change done)) = tt

-- ---- replies without a change

-- a moment in the future is a fault
pub step_late : (clock : ℤ) (request : Request) (tl : Timeline)
    → int_lt (now_of clock tl) (asked_moment request.ask (now_of clock tl)) ≡ true
    → step clock request tl ≡ (reply.Fault 135, tl)
step_late clock request tl late = rw late refl

-- if a rule denies, the reply has its number
pub step_denied : (clock : ℤ) (request : Request) (tl : Timeline) (rule : ℕ)
    → int_lt (now_of clock tl) (asked_moment request.ask (now_of clock tl)) ≡ false
    → verdict_at tl request.caller request.ask (now_of clock tl) ≡ Denied rule
    → step clock request tl ≡ (reply.Denied rule, tl)
step_denied clock request tl rule late denied = rw (late, denied) refl

-- if no rule denies, the caller has its role
second_passes : (x h : Bool) (rest : Rules) → first_denial ((1, x) ∷ (2, not h) ∷ rest) ≡ Allowed → h ≡ true
second_passes true h rest e = absurd (let denied : Denied 1 ≡ Allowed = e in cc)
second_passes false true rest e = refl
second_passes false false rest e = absurd (let denied : Denied 2 ≡ Allowed = e in cc)

abbrev first_fails : Timeline → Caller → Bool
first_fails tl caller = not (stands (last_register tl) kind.Party caller.party)

abbrev later_rules : Timeline → Caller → Ask → (now : ℤ) → Rules
later_rules tl caller a now = drop 2 (rules_on (last_register tl) (register_at tl (asked_moment a now)) caller a (int_lt (asked_moment a now) now))

pub role_is_held : (tl : Timeline) (caller : Caller) (a : Ask) (now : ℤ) → verdict_at tl caller a now ≡ Allowed → holds (last_register tl) caller.party caller.role ≡ true
role_is_held tl caller (ask.View k number at) now free = second_passes (first_fails tl caller) (holds (last_register tl) caller.party caller.role) (later_rules tl caller (ask.View k number at) now) free
role_is_held tl caller (ask.List k at) now free = second_passes (first_fails tl caller) (holds (last_register tl) caller.party caller.role) (later_rules tl caller (ask.List k at) now) free
role_is_held tl caller (ask.Sheet unit at) now free = second_passes (first_fails tl caller) (holds (last_register tl) caller.party caller.role) (later_rules tl caller (ask.Sheet unit at) now) free
role_is_held tl caller (ask.Do it) now free = second_passes (first_fails tl caller) (holds (last_register tl) caller.party caller.role) (later_rules tl caller (ask.Do it) now) free

-- a reply without a change leaves the timeline unchanged
pub without_change_leads : (p : Prepared) (r : Reply) (next : Next) (tl : Timeline) → p.reply ≡ r → p.writing ≡ None → next ≡ (r, tl) → Commits p next tl
without_change_leads p r next tl is none e =
    subst (λ (n : Next). Commits p n tl) (sym e)
    (record {
      reply = is;
      timeline = ap (λ (w : Option Writing). apply_pending w tl) none;
      can_finish = subst (λ (o : Option Writing). MatchOption o (Unit {0}) (λ w. CanWrite tl w.change w.stamp)) (sym none) tt;
    })

-- ---- moments

pub now_is_moment : (clock last : ℤ) → last ≤ℤ last_moment → IsMoment (now_after clock last)
now_is_moment clock last late = (omega (arith, ints, clamps), omega (arith, ints, clamps, late))

-- a sheet has the requested moment, or now
pub shows_asked : (a : Ask) (t now : ℤ) (r : Reply) → t ≡ unwrap_or (at_of a) now → IsMoment now → SheetHasMoment t r → SheetHasRequestedMoment a r
shows_asked a t now (reply.Object it) e is shows = tt
shows_asked a t now (reply.Numbers it) e is shows = tt
shows_asked a t now (reply.Sheet view) e is shows = named (at_of a) (shows ∙ e)
  where
    named : (o : Option ℤ) → view.at ≡ unwrap_or o now → MatchOption o (IsMoment view.at) (λ named. view.at ≡ named)
    named None e = subst IsMoment (sym e) is
    named (Some moment) e = e
shows_asked a t now (reply.Done it) e is shows = tt
shows_asked a t now (reply.Denied rule) e is shows = tt
shows_asked a t now (reply.Fault number) e is shows = tt
shows_asked a t now (reply.Refused number) e is shows = tt
shows_asked a t now (reply.Store number) e is shows = tt

-- ---- the store

-- a keeper that returns a value was open and is open
pub opens : {T : Type 0} (before closed : Bool) (it : T) → Closes before closed (Ok it) → (before ≡ false) × (closed ≡ false)
opens true closed it closes = absurd closes
opens false closed it closes = (refl, closes)

-- a store fault is an element that changes nothing
pub fault_element : (T : Type 0) (before closed : Bool) (reading : ℤ) (q : Request) (tl : Timeline) (fault : StoreFault)
    → Closes {T = T} before closed (Err fault) → StepOrFault before reading q tl (reply.Store (store_fault_number fault)) tl closed
fault_element T true closed reading q tl fault closes = (ap (λ (f : StoreFault). reply.Store (store_fault_number f)) closes.0, refl, closes.1)
fault_element T false closed reading q tl NoMemory closes = inr (inl (refl, refl, closes))
fault_element T false closed reading q tl Store closes = inr (inr (refl, refl, closes))
fault_element T false closed reading q tl Closed closes = absurd closes

-- a keeper that is open after a fault was open before
pub was_open : (T : Type 0) (before closed : Bool) (fault : StoreFault) → Closes {T = T} before closed (Err fault) → closed ≡ false → before ≡ false
was_open T true closed fault closes is_open = absurd (false≢true (sym is_open ∙ closes.1))
was_open T false closed fault closes is_open = refl

-- a store fault reports whether the store is closed
pub fault_tells : (T : Type 0) (before closed : Bool) (fault : StoreFault) → Closes {T = T} before closed (Err fault) → ReportsClosing before (reply.Store (store_fault_number fault)) closed
fault_tells T true closed fault closes = (ap (λ (f : StoreFault). reply.Store (store_fault_number f)) closes.0, closes.1)
fault_tells T false closed NoMemory closes = λ shut. absurd (false≢true (sym closes ∙ shut))
fault_tells T false closed Store closes = λ shut. refl
fault_tells T false closed Closed closes = absurd closes

-- a reply that was prepared and finished is a step
pub finished_element : (before closed : Bool) (reading : ℤ) (q : Request) (tl : Timeline) (p : Prepared)
    → before ≡ false → closed ≡ false → CommitsStep p reading q tl → StepOrFault before reading q tl p.reply (apply_pending p.writing tl) closed
finished_element before closed reading q tl p was is leads =
    subst (λ (b : Bool). StepOrFault b reading q tl p.reply (apply_pending p.writing tl) closed) (sym was) (inl (leads.reply, leads.timeline, is))
