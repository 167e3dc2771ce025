-- The connections that are open while others are.
use Rattle.std.specs.Prelude.{◌≡◌, ℕ, ℤ, ◌+◌, ◌<◌, ◌≤◌, Bool, true, false, List, [], ◌∷◌, ◌++◌, length}
use Rattle.std.specs.Prelude.{Option, Some, IfSome}
use Rattle.std.specs.Prelude.{slice_get}
use Rattle.std.specs.Io.KnownBytes.{prepend_known}
use Rattle.land_desk.specs.Serving.{AnswersItem, Exchange, StepOf}
use Rattle.land_desk.specs.Serving.Asking.{IfBoth}
use Rattle.land_keep.specs.Machine.{State}
use Rattle.land_pool.specs.Endings.{Ending, RecordsAll, endings_of}
use Rattle.land_pool.specs.Interleaving.{Accepted, AreAllItems, AreFirstPending, BeginsWithItems}
use Rattle.land_pool.specs.Interleaving.{EachIsServed, IsRunOf}
use Rattle.land_pool.specs.Interleaving.{IsServed, Numbered, SendsPrefix, exchanges_of}
use Rattle.land_pool.specs.declared.open_connection.OpenConnection.{OpenConnection}
use Rattle.land_pool.specs.declared.open_connection.Progress.{Progress}
use Rattle.land_pool.specs.declared.open_connection.Progress.TheVariants.{Open, Complete, Broken}
use Rattle.land_wire.specs.Framing.Reads.{input_limit}

-- The items of one connection are answered one after another, and none by a closed store.
abbrev pub AnswersItems : {C : Type 0} → (reads : C → ℤ → C → Type 0) → State C → List Exchange → State C
    → Type 0
AnswersItems reads from [] to = to ≡ from
AnswersItems {C} reads from (x ∷ xs) to =
    (mid : State C) × (from.closed ≡ false) × AnswersItem (StepOf reads) from x mid
    × AnswersItems reads mid xs to

-- How far a connection is read: these items, and `rest` is its input after them; or these are all its items.
abbrev pub HasItems : (finished : Bool) → (bytes rest : Option (List ℕ)) → List Exchange → Type 0
HasItems false bytes rest xs = IfBoth bytes rest (λ all left. BeginsWithItems all xs left)
HasItems true bytes rest xs = IfSome bytes (λ all. AreAllItems all xs)

-- The input that is kept has at most 1,057,791 bytes: the longest head, the longest body, and the rest of a
-- chunk.
pub record HasSmallInput {R W : Type 0} (o : OpenConnection R W) : Type 0 where
  pub input : length o.input.items ≤ input_limit
  pub needed : o.needed + 1023 ≤ input_limit

-- It stays so.
abbrev pub KeepsInputSmall : {R W : Type 0} → (old new : OpenConnection R W) → Type 0
KeepsInputSmall old new = HasSmallInput old → HasSmallInput new

module _ {R W : Type 0} (remaining : R → Option (List ℕ)) (contents : W → Option (List ℕ)) where
  -- The input that is still to be served.
  abbrev pub rest_of : OpenConnection R W → Option (List ℕ)
  rest_of o = prepend_known o.input.items (remaining o.reader)

  -- The state of an open connection with these exchanges.
  abbrev pub IsOpenWith : (bytes old : Option (List ℕ)) → List Exchange → OpenConnection R W → Type 0
  IsOpenWith bytes old xs o =
      HasItems o.finished bytes (rest_of o) xs × SendsPrefix old (contents o.writer) xs o.output.items

  -- The same after a turn, or the connection ends.
  abbrev pub IsThen : Progress → (bytes old : Option (List ℕ)) → List Exchange → OpenConnection R W → Type 0
  IsThen Open bytes old xs o = IsOpenWith bytes old xs o
  IsThen Complete bytes old xs o = IsServed true bytes old (contents o.writer) xs
  IsThen Broken bytes old xs o = IsServed false bytes old (contents o.writer) xs

  -- These exchanges are added to those of the connection.
  abbrev pub AddsExchanges : Progress → OpenConnection R W → List Exchange → OpenConnection R W → Type 0
  AddsExchanges progress before added after =
      (bytes old : Option (List ℕ)) (xs : List Exchange) → IsOpenWith bytes old xs before
      → IsThen progress bytes old (xs ++ added) after

module _ {R W : Type 0} (remaining : R → Option (List ℕ)) (contents : W → Option (List ℕ))
    (fresh : Option (List ℕ)) where
  -- The open connections at their keys. Their writers held `fresh` when they were accepted.
  pub record AreOpen (at : ℕ → Option (OpenConnection R W)) (accepted : List Accepted) (log : List Numbered)
      (endings : List Ending) : Type 0 where
    pub held : (i : ℕ) (o : OpenConnection R W) → at i ≡ Some o
        → (c : Accepted) × (slice_get accepted o.number ≡ Some c) × (endings_of o.number endings ≡ [])
        × IsOpenWith remaining contents c.bytes fresh (exchanges_of o.number log) o
    pub apart : (i j : ℕ) (o p : OpenConnection R W) → at i ≡ Some o → at j ≡ Some p → o.number ≡ p.number
        → i ≡ j
    pub others : (k : ℕ) → k < length accepted → endings_of k endings ≡ []
        → (i : ℕ) × (o : OpenConnection R W) × (at i ≡ Some o) × (o.number ≡ k)
    pub each : EachIsServed accepted log endings

  -- The connections accepted until now were served by a run of the machine from this state.
  abbrev pub ServesUntilNow : {C : Type 0} → (reads : C → ℤ → C → Type 0) → State C
      → (stands : State C → Type 0)
      → (ℕ → Option (OpenConnection R W)) → List Accepted → List Ending → Type 0
  ServesUntilNow {C} reads from stands at accepted endings =
      (log : List Numbered) × (now : State C) × IsRunOf reads from log now × stands now
      × AreOpen at accepted log endings

  -- Serving continues with the same connections.
  abbrev pub ServesOn : {C : Type 0} → (reads : C → ℤ → C → Type 0) → (stood stands : State C → Type 0)
      → (at next : ℕ → Option (OpenConnection R W)) → (ended ended_after : Option (List Ending)) → Type 0
  ServesOn {C} reads stood stands at next ended ended_after =
      (from : State C) (accepted : List Accepted) (endings : List Ending)
      → ServesUntilNow reads from stood at accepted endings
      → (more : List Ending) × RecordsAll ended ended_after more
      × ServesUntilNow reads from stands next accepted (endings ++ more)

  -- `more` connections are accepted after the first `before`.
  abbrev pub AcceptsMore : (at next : ℕ → Option (OpenConnection R W))
      → (coming after : Option (List (Option (List ℕ))))
      → (ended ended_after : Option (List Ending)) → (before more : ℕ) → Type 0
  AcceptsMore at next coming after ended ended_after before more =
      (accepted : List Accepted) (log : List Numbered) (endings : List Ending) → length accepted ≡ before
      → AreOpen at accepted log endings
      → (added : List Accepted) × (last : List Ending) × (length added ≡ more)
      × AreFirstPending added coming after
      × RecordsAll ended ended_after last × AreOpen next (accepted ++ added) log (endings ++ last)
