-- A sequence of read-only queries, of which the last may fail.
use Rattle.std.proofs.Common.{◌≡◌, Ok, Err, IfErr, Result, refl, subst}
use Rattle.land_select_queries.specs.Joins.Execution.{HoldsNoHistory}
use Rattle.land_tables_rows.specs.declared.listing.fault.ReadFault.{ReadFault}
use Rattle.land_tables_schema.proofs.Looking.{look_fails, look_then, was_clean}
use Rattle.land_tables_schema.specs.Rows.ReadQueries.{IsStoreRead}
use Rattle.sqlite.specs.State.{HasCleanDisk, State}

-- a query after one that succeeded
pub look_after : {X Y E F : Type 0} {x : X} {P : X → Type 0} {Q All : Y → Type 0} (a b c : State) (r : Result Y F) → IsStoreRead {X = X} {E = E} (Ok x) P a b → IsStoreRead r Q b c
    → ((y : Y) → HasCleanDisk c → b.now ≡ a.now → P x → Q y → All y) → IsStoreRead r All a c
look_after a b c (Ok y) first next all = look_then a b c first next (all y)
look_after a b c (Err f) first next all = look_fails a b c (Err f) refl first next

-- its fault says the same of the tables before
pub none_after : {X Y Z E F : Type 0} {x : X} {P : X → Type 0} {Q : Y → Type 0} (a b c : State) (r : Result Y F) (told : Result Z ReadFault) → IsStoreRead {X = X} {E = E} (Ok x) P a b → IsStoreRead r Q b c → HasCleanDisk c
    → IfErr told (HoldsNoHistory b.now.trees) → IfErr told (HoldsNoHistory a.now.trees)
none_after a b c r (Ok y) first next clean none = tt
none_after a b c r (Err f) first next clean none = subst (λ now. HoldsNoHistory now.trees f) (first.same (was_clean b c next.survives clean)).0.now_is none
