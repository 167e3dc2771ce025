-- Statements that a store rejects before it reads.
use Rattle.std.proofs.Common.{◌≡◌, ◌∙◌, inl, inr, sym, ℕ, List, [], IsTrue}
use Rattle.land_tables_schema.proofs.Looking.{unchanged_left}
use Rattle.land_tables_schema.specs.Rows.ReadQueries.{IsLeft}
use Rattle.sqlite.specs.State.{IsNotRun, IsUnchanged, State, store_error}
use Rattle.sqlite.specs.declared.error.Error.{Error}
use Rattle.sqlite.specs.declared.error.Error.TheVariants.{SqlInputError}
use Rattle.sqlite_resolve.specs.declared.error.CompileError.{CompileError}
use Rattle.sqlite_trees.specs.declared.error.StoreError.{StoreError}
use Rattle.sqlite_trees.specs.declared.error.StoreError.TheVariants.{OutOfMemory, Io, Corrupt, Full, Broken, Unstorable}
use Rattle.sqlite_value.specs.Order.{Row}

-- no failure of a store is reported as a malformed statement
not_the_text : (cause : StoreError) (fault : CompileError) → SqlInputError fault ≡ store_error cause → ⊥
not_the_text OutOfMemory fault same = cc
not_the_text Io fault same = cc
not_the_text Corrupt fault same = cc
not_the_text Full fault same = cc
not_the_text Broken fault same = cc
not_the_text Unstorable fault same = cc

-- a store that rejects a malformed statement is unchanged
pub refused_unchanged : (old new : State) (sql : List ℕ) (e : Error) (fault : CompileError) → e ≡ SqlInputError fault
    → ((params : Row) → IsNotRun old new sql params e) → IsUnchanged old new
unfolding IsNotRun
refused_unchanged old new sql e fault is h = elim (h []) [
  | inl refused ↦ refused.1
  | inr failed ↦ absurd (not_the_text failed.0 fault (sym is ∙ failed.1))
]

-- a store that did not run a statement, and is open, has its content from before, or the last commit
pub not_run_left : (old new : State) (sql : List ℕ) (e : Error) → ((params : Row) → IsNotRun old new sql params e) → IsTrue new.is_open → IsLeft old new
unfolding IsNotRun
not_run_left old new sql e h is_open = elim (h []) [
  | inl refused ↦ unchanged_left old new refused.1
  | inr failed ↦ record { was_open = failed.3.was_open is_open; now = inr (failed.3.undone is_open).0; committed = (failed.3.undone is_open).1 }
]
