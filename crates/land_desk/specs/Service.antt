-- Serving connections one at a time.
pub mod Coming
pub mod Reading
pub mod Waiting
use Rattle.std.specs.Prelude.{◌≡◌, ◌<◌, ◌≤◌, ℕ, ℤ, Bool, true, false, List, [], ◌∷◌, ◌++◌, length, map}
use Rattle.std.specs.Prelude.{Option, Some, None, Result, Ok, Err}
use Rattle.land_desk.specs.Serving.{StepOf, ServesByRun, Reachable}
use Rattle.land_desk.specs.declared.serve.DeskFault.{DeskFault}
use Rattle.land_desk.specs.declared.serve.Served.{Served}
use Rattle.land_desk.specs.declared.service.serving.ServiceFault.{ServiceFault}
use Rattle.land_desk.specs.declared.service.serving.ServiceFault.TheVariants.{Closed, Accept}
use Rattle.land_keep.specs.Machine.{State}

-- A connection: its input, the bytes written to it before and after it was served, and the outcome of serving
-- it.
pub record Connection : Type 0 where
  pub bytes : Option (List ℕ)
  pub old : Option (List ℕ)
  pub new : Option (List ℕ)
  pub outcome : Result Served DeskFault

-- A connection is served by a run of the model: on its input if that is known, else by some requests.
abbrev pub ServesConnection : {C : Type 0} → (reads : C → ℤ → C → Type 0) → (bytes old new : Option (List ℕ))
    → Result Served DeskFault → State C → State C → Type 0
ServesConnection reads None old new outcome from to = Reachable (StepOf reads) from to
ServesConnection reads (Some bytes) old new outcome from to = ServesByRun reads bytes from to old new outcome

-- The same, of a connection.
abbrev pub ServesTheConnection : {C : Type 0} → (reads : C → ℤ → C → Type 0) → State C → Connection → State C
    → Type 0
ServesTheConnection reads from x to = ServesConnection reads x.bytes x.old x.new x.outcome from to

-- Connections are served in order, with any outcomes. Each starts at the state in which the one before ended,
-- and none is served on a store that is closed.
abbrev pub ServesInOrder : {C : Type 0} → (reads : C → ℤ → C → Type 0) → State C → List Connection → State C
    → Type 0
ServesInOrder reads from [] to = to ≡ from
ServesInOrder {C} reads from (x ∷ xs) to =
    (mid : State C) × (from.closed ≡ false) × ServesTheConnection reads from x mid
    × ServesInOrder reads mid xs to

-- These are the first of the pending connections, and the others are still pending.
abbrev pub AreFirstConnections : List Connection → (coming after : Option (List (Option (List ℕ)))) → Type 0
AreFirstConnections xs None after = Unit {0}
AreFirstConnections xs (Some all) None = ⊥
AreFirstConnections xs (Some all) (Some rest) = all ≡ map (λ x. x.bytes) xs ++ rest

-- The number of connections served: as many as requested, or fewer if accepting failed or the store closed.
abbrev pub IsServedCount : {T : Type 0} → (served wanted : ℕ) → Result T ServiceFault → Type 0
IsServedCount served wanted (Ok done) = served ≡ wanted
IsServedCount served wanted (Err Accept) = served < wanted
IsServedCount served wanted (Err Closed) = served ≤ wanted

-- The number of connections served if one is requested: none if accepting failed.
abbrev pub accepted_count : {T : Type 0} → Result T ServiceFault → ℕ
accepted_count (Ok done) = 1
accepted_count (Err Accept) = 0
accepted_count (Err Closed) = 1

-- Connections are served up to a state that is represented after the call. The others are still pending.
abbrev pub ServesUpTo : {C : Type 0} → (reads : C → ℤ → C → Type 0) → State C → (stands : State C → Type 0)
    → (coming after : Option (List (Option (List ℕ))))
    → (count : ℕ → Type 0) → Type 0
ServesUpTo {C} reads from stands coming after count =
    (xs : List Connection) × (to : State C) × ServesInOrder reads from xs to × stands to
    × AreFirstConnections xs coming after
    × count (length xs)

-- The next connection is served, unless accepting failed.
abbrev pub ServesNextConnection : {C T : Type 0} → (reads : C → ℤ → C → Type 0) → State C
    → (stands : State C → Type 0)
    → (coming after : Option (List (Option (List ℕ))))
    → Result T ServiceFault → Type 0
ServesNextConnection reads from stands coming after result =
    ServesUpTo reads from stands coming after (λ n. n ≡ accepted_count result)

-- As many connections are served as requested, unless the service ended early.
abbrev pub ServesConnections : {C T : Type 0} → (reads : C → ℤ → C → Type 0) → (wanted : ℕ) → State C
    → (stands : State C → Type 0)
    → (coming after : Option (List (Option (List ℕ)))) → Result T ServiceFault → Type 0
ServesConnections reads wanted from stands coming after result =
    ServesUpTo reads from stands coming after (λ n. IsServedCount n wanted result)

-- The result reports a closed store if and only if the store is closed.
abbrev pub ReportsClosed : {T : Type 0} → Result T ServiceFault → (closed : Bool) → Type 0
ReportsClosed (Ok done) closed = closed ≡ false
ReportsClosed (Err Accept) closed = closed ≡ false
ReportsClosed (Err Closed) closed = closed ≡ true
