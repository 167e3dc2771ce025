-- Calls inside a transaction, in order.
use Rattle.std.proofs.Common.{◌≡◌, inl, inr, ℕ, List, Ok, Err, Result, OnOk, IsErr, IsTrue, Bool, true, false, refl, sym, ◌∙◌, arith}
use Rattle.land_tables_schema.specs.Steps.{IsTransactionStep}
use Rattle.sqlite.proofs.StateLemmas.{survives_then}
use Rattle.sqlite.specs.Effect.{Database}
use Rattle.sqlite.specs.Held.{Held, state}
use Rattle.sqlite.specs.State.{State, HasCleanDisk, Survives, ExecutesInside, IsRolledBack, KeepsCommit, Shows}
use Rattle.sqlite.specs.Store.{Ghosts}
use Rattle.sqlite.specs.declared.error.Error.{Error}
use Rattle.sqlite_value.specs.Order.{Row}

-- a rolled-back transaction has kept the commit
rolled_back_keeps : (old new : State) → IsRolledBack old new → KeepsCommit old new
rolled_back_keeps old new h = record { was_open = h.was_open; committed = λ t. (h.undone t).1 }

shows_keeps : (old new : State) {now : Database} {autocommit : Bool} → Shows old new now old.committed autocommit → KeepsCommit old new
shows_keeps old new h = record { was_open = λ _. h.was_open; committed = λ _. h.committed_is }

executed_keeps : (old new : State) (sql : List ℕ) (params : Row) (r : Result ℕ Error) → ExecutesInside 0 sql params old new r → KeepsCommit old new
executed_keeps old new sql params (Ok count) h = shows_keeps old new h.1
executed_keeps old new sql params (Err e) (inl h) = elim h.1 [
  | inl same ↦ shows_keeps old new same.0
  | inr undone ↦ rolled_back_keeps old new undone
]
executed_keeps old new sql params (Err e) (inr h) = shows_keeps old new h.2.0

-- commits that two calls keep, one after the other
pub keeps_then : (a b c : State) → KeepsCommit a b → KeepsCommit b c → KeepsCommit a c
keeps_then a b c h k = record { was_open = λ t. h.was_open (k.was_open t); committed = λ t. k.committed t ∙ h.committed (k.was_open t) }

-- a disk that is clean was clean before
pub was_clean : (a b : State) → Survives a b (λ _. ⊥) → HasCleanDisk b → HasCleanDisk a
was_clean a b s clean = omega (arith, s.clean)

-- the effect of no call
pub no_step : {X E : Type 0} (x : X) (Done : Database → Database → Type 0) (a : State) → (HasCleanDisk a → Done a.now a.now) → IsTransactionStep {X = X} {E = E} (Ok x) Done a a
no_step x Done a done = record {
  done = done;
  inside = λ _. refl;
  kept = λ _. record { was_open = λ t. t; committed = λ _. refl };
  survives = record { clean = omega arith; shield = λ x. x; counts = omega arith; limit = refl; closes = λ _ t. inl t; crash = λ _ _ x. inl x };
}

-- a successful call after others
pub step_then : {X Y Z E : Type 0} {x : X} {y : Y} {z : Z} {First Next All : Database → Database → Type 0} (a b c : State) → IsTransactionStep {X = X} {E = E} (Ok x) First a b → IsTransactionStep {X = Y} {E = E} (Ok y) Next b c
    → (HasCleanDisk c → First a.now b.now → Next b.now c.now → All a.now c.now) → IsTransactionStep {X = Z} {E = E} (Ok z) All a c
step_then a b c first next all =
    let was = was_clean b c next.survives in
    record {
      done = λ clean. all clean (first.done (was clean)) (next.done clean);
      inside = λ clean. next.inside clean ∙ first.inside (was clean);
      kept = λ clean. keeps_then a b c (first.kept (was clean)) (next.kept clean);
      survives = survives_then a b c (λ _. ⊥) (λ _. ⊥) (λ _. ⊥) (λ _ _ n. n) (λ _ _ n. n) first.survives next.survives;
    }

-- a failed call after others
pub step_fails : {X Y Z E F : Type 0} {x : X} {next : Result Y F} {First Next All : Database → Database → Type 0} (a b c : State) (r : Result Z E) → IsErr r → IsTransactionStep {X = X} {E = E} (Ok x) First a b → IsTransactionStep next Next b c
    → IsTransactionStep r All a c
step_fails a b c (Err e) failed first next =
    let was = was_clean b c next.survives in
    record {
      done = λ _. tt;
      inside = λ _. tt;
      kept = λ clean. keeps_then a b c (first.kept (was clean)) (next.kept clean);
      survives = survives_then a b c (λ _. ⊥) (λ _. ⊥) (λ _. ⊥) (λ _ _ n. n) (λ _ _ n. n) first.survives next.survives;
    }
step_fails a b c (Ok z) failed first next = absurd (let is = failed in cc)

-- the effect, in another form
pub step_says : {X E : Type 0} {Did Done : Database → Database → Type 0} (a b : State) (r : Result X E) → IsTransactionStep r Did a b → (HasCleanDisk b → Did a.now b.now → Done a.now b.now) → IsTransactionStep r Done a b
step_says a b (Ok x) step says = record { done = λ clean. says clean (step.done clean); inside = step.inside; kept = step.kept; survives = step.survives }
step_says a b (Err e) step says = record { done = λ _. tt; inside = step.inside; kept = step.kept; survives = step.survives }

module _ {S : Type 0} (g : Ghosts S) (old new : Held S) (sql : List ℕ) (params : Row) (e : Error) (Done : Database → Database → Type 0) where
  abbrev Runs : Result ℕ Error → Type 0
  Runs r = IsTrue (state g old).in_transaction → ExecutesInside 0 sql params (state g old) (state g new) r

  abbrev IsRefused : Result ℕ Error → Type 0
  IsRefused r = (state g old).in_transaction ≡ false → (r ≡ Err e) × (new ≡ old)

  abbrev IsDoing : Type 0
  IsDoing = (count : ℕ) → ExecutesInside 0 sql params (state g old) (state g new) (Ok count) → Done (state g old).now (state g new).now

  done_inside : (b : Bool) → (state g old).in_transaction ≡ b → (r : Result ℕ Error) → IsRefused r → Runs r → IsDoing → OnOk r (Done (state g old).now (state g new).now)
  done_inside b is (Err f) none runs does = tt
  done_inside true is (Ok count) none runs does = does count (runs (rw is refl))
  done_inside false is (Ok count) none runs does = absurd (let refused = (none is).0 in cc)

  mode_inside : (b : Bool) → (state g old).in_transaction ≡ b → (r : Result ℕ Error) → IsRefused r → Runs r → OnOk r ((state g new).in_transaction ≡ (state g old).in_transaction)
  mode_inside b is (Err f) none runs = tt
  mode_inside true is (Ok count) none runs = (runs (rw is refl)).1.mode ∙ sym is
  mode_inside false is (Ok count) none runs = absurd (let refused = (none is).0 in cc)

  keeps_inside : (b : Bool) → (state g old).in_transaction ≡ b → (r : Result ℕ Error) → IsRefused r → Runs r → KeepsCommit (state g old) (state g new)
  keeps_inside true is r none runs = executed_keeps (state g old) (state g new) sql params r (runs (rw is refl))
  keeps_inside false is r none runs = rw (none is).1 (record { was_open = λ t. t; committed = λ _. refl })

  -- One statement satisfies `IsTransactionStep`, if its effect is known when it succeeds. Without a transaction it is
  -- rejected, and nothing changes.
  pub statement_steps : (r : Result ℕ Error) → IsRefused r → (HasCleanDisk (state g new) → Runs r) → Survives (state g old) (state g new) (λ _. ⊥) → (HasCleanDisk (state g old) → IsDoing)
      → IsTransactionStep r Done (state g old) (state g new)
  statement_steps r none runs safe does = record {
    done = λ clean. done_inside (state g old).in_transaction refl r none (runs clean) (does (was_clean (state g old) (state g new) safe clean));
    inside = λ clean. mode_inside (state g old).in_transaction refl r none (runs clean);
    kept = λ clean. keeps_inside (state g old).in_transaction refl r none (runs clean);
    survives = safe;
  }
