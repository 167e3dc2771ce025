-- Many connections served at once: one run of the register machine, and for each connection the replies to
-- its items, in their order.
use Rattle.std.specs.Prelude.{◌≡◌, ◌≢◌, ℕ, ℤ, ◌<◌, ◌≤◌, nat_eq, Bool, true, false, List, [], ◌∷◌, ◌++◌}
use Rattle.std.specs.Prelude.{length, map, Option, Some, None, IfSome, Result, Ok, Err, ◌⊎◌, slice_get}
use Rattle.std.specs.Prelude.{if◌then◌else◌}
use Rattle.std.specs.Io.KnownBytes.{Appends}
use Rattle.land_desk.specs.Serving.{AnswersItem, Exchange, StepOf, all_sent, is_closing}
use Rattle.land_keep.specs.Machine.{State}
use Rattle.land_pool.specs.Endings.{Ending, RecordsAll, endings_of}
use Rattle.land_pool.specs.declared.pool.PoolFault.{PoolFault}
use Rattle.land_pool.specs.declared.pool.PoolFault.TheVariants.{Closed, Accept, NoMemory}
use Rattle.land_wire.specs.Framing.Items.{IsItem}

-- ---- one run, over all connections

-- An exchange, and the number of its connection.
pub record Numbered : Type 0 where
  pub number : ℕ
  pub exchange : Exchange

-- These items are answered one after another, whichever connections they are from, and none by a closed
-- store.
abbrev pub IsRunOf : {C : Type 0} → (reads : C → ℤ → C → Type 0) → State C → List Numbered → State C → Type 0
IsRunOf reads from [] to = to ≡ from
IsRunOf {C} reads from (t ∷ ts) to =
    (mid : State C) × (from.closed ≡ false) × AnswersItem (StepOf reads) from t.exchange mid
    × IsRunOf reads mid ts to

-- The exchanges of one connection, in their order.
abbrev pub exchanges_of : ℕ → List Numbered → List Exchange
exchanges_of k [] = []
exchanges_of k (t ∷ ts) = if nat_eq t.number k then t.exchange ∷ exchanges_of k ts else exchanges_of k ts

-- ---- one connection

-- The bytes begin with these items, none of which closes the connection, and `rest` follows them.
abbrev pub BeginsWithItems : List ℕ → List Exchange → List ℕ → Type 0
BeginsWithItems bytes [] rest = rest ≡ bytes
BeginsWithItems bytes (x ∷ xs) rest =
    (mid : List ℕ) × IsItem bytes x.item mid × (is_closing x ≡ false) × BeginsWithItems mid xs rest

-- These are the items of the bytes, until no byte is left or one of them closes the connection.
abbrev pub AreAllItems : List ℕ → List Exchange → Type 0
AreAllItems bytes [] = bytes ≡ []
AreAllItems bytes (x ∷ xs) =
    (mid : List ℕ) × IsItem bytes x.item mid × (is_closing x ≡ true → xs ≡ [])
    × (is_closing x ≡ false → AreAllItems mid xs)

-- These are the first items of the bytes.
abbrev pub AreFirstItems : List ℕ → List Exchange → Type 0
AreFirstItems bytes xs = AreAllItems bytes xs ⊎ ((rest : List ℕ) × BeginsWithItems bytes xs rest)

-- Of the responses a prefix was written, and these bytes were not.
abbrev pub SendsPrefix : (old new : Option (List ℕ)) → List Exchange → (unsent : List ℕ) → Type 0
SendsPrefix old new xs unsent = (sent : List ℕ) × Appends old new sent × (all_sent xs ≡ sent ++ unsent)

-- A connection was served completely: each of its items was answered, and each response was written. Or it
-- was broken off: its first items were answered, and a prefix of the responses was written.
abbrev pub IsServed : (complete : Bool) → (bytes old new : Option (List ℕ)) → List Exchange → Type 0
IsServed true bytes old new xs = IfSome bytes (λ all. AreAllItems all xs) × Appends old new (all_sent xs)
IsServed false bytes old new xs =
    IfSome bytes (λ all. AreFirstItems all xs) × ((unsent : List ℕ) × SendsPrefix old new xs unsent)

-- A connection that was accepted: its input.
pub record Accepted : Type 0 where
  pub bytes : Option (List ℕ)

-- A connection with these exchanges ended at most once, and was served as its ending reports. Of one that has
-- not ended, the first items were answered.
abbrev pub IsServedAs : Accepted → List Exchange → List Ending → Type 0
IsServedAs c xs [] = IfSome c.bytes (λ all. AreFirstItems all xs)
IsServedAs c xs (e ∷ []) = IsServed e.complete c.bytes e.fresh e.written xs
IsServedAs c xs (e ∷ f ∷ es) = ⊥

-- Each accepted connection is served, and no exchange and no ending is of another one.
pub record EachIsServed (accepted : List Accepted) (log : List Numbered) (endings : List Ending)
    : Type 0 where
  pub served : (k : ℕ) (c : Accepted) → slice_get accepted k ≡ Some c
      → IsServedAs c (exchanges_of k log) (endings_of k endings)
  pub no_exchange : (k : ℕ) → length accepted ≤ k → exchanges_of k log ≡ []
  pub no_ending : (k : ℕ) → length accepted ≤ k → endings_of k endings ≡ []

-- ---- all connections

-- The accepted connections are the first of the pending ones, and the others are still pending.
abbrev pub AreFirstPending : List Accepted → (coming after : Option (List (Option (List ℕ)))) → Type 0
AreFirstPending xs None after = Unit {0}
AreFirstPending xs (Some all) None = ⊥
AreFirstPending xs (Some all) (Some rest) = all ≡ map (λ x. x.bytes) xs ++ rest

-- Without a fault as many connections were accepted as requested, and each of them ended.
abbrev pub IsAcceptedCount : {T : Type 0} → (accepted wanted : ℕ) → List Ending → Result T PoolFault → Type 0
IsAcceptedCount accepted wanted endings (Ok done) =
    (accepted ≡ wanted) × ((k : ℕ) → k < accepted → endings_of k endings ≢ [])
IsAcceptedCount accepted wanted endings (Err fault) = accepted ≤ wanted

-- Connections are served at once by one run of the machine, up to a state that is represented after the call.
abbrev pub ServesAtOnce : {C T : Type 0} → (reads : C → ℤ → C → Type 0) → (wanted : ℕ) → State C
    → (stands : State C → Type 0)
    → (coming after : Option (List (Option (List ℕ)))) → (ended ended_after : Option (List Ending))
    → Result T PoolFault → Type 0
ServesAtOnce {C} reads wanted from stands coming after ended ended_after result =
    (log : List Numbered) × (accepted : List Accepted) × (endings : List Ending) × (to : State C)
    × IsRunOf reads from log to × stands to
    × EachIsServed accepted log endings
    × AreFirstPending accepted coming after
    × RecordsAll ended ended_after endings
    × IsAcceptedCount (length accepted) wanted endings result

-- The service reports whether the store is closed.
abbrev pub ReportsClosedStore : {T : Type 0} → Result T PoolFault → (closed : Bool) → Type 0
ReportsClosedStore (Ok done) closed = closed ≡ false
ReportsClosedStore (Err Closed) closed = closed ≡ true
ReportsClosedStore (Err Accept) closed = closed ≡ false
ReportsClosedStore (Err NoMemory) closed = closed ≡ false
