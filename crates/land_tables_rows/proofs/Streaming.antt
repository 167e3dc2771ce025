-- The rows of a table, decoded as they come.
use Rattle.std.proofs.Common.{◌≡◌, ◌≢◌, false, ℕ, List, [], ◌∷◌, ◌++◌, map, Option, Some, None, Ok, Err, Result, IfErr, IsErr, IsTrue, IsPermutation, arith, ◌+◌, ◌-◌, ◌^◌, ◌<◌, inl, inr, refl, sym, ap, ap₂, subst, ◌∙◌, ◌⊎◌}
use Rattle.std.specs.Prelude.{IsErrAnd, SomeIff}
use Rattle.std.specs.Option.{ok_or}
use Rattle.land_tables_rows.proofs.Readings.{told, unreadable}
use Rattle.land_tables_rows.specs.Listing.Reading.{IsRead, IsUnreadableTable, Listing, Says}
use Rattle.land_tables_rows.specs.Listing.Statements.{ListsTable}
use Rattle.land_tables_rows.specs.Reading.Readings.{each_row}
use Rattle.land_tables_rows.specs.declared.listing.fault.ReadFault.{ReadFault}
use Rattle.land_tables_schema.proofs.Asks.{clean_before, listed}
use Rattle.land_tables_schema.proofs.Looking.{look_fails, look_told, unchanged_left, unchanged_then, was_clean}
use Rattle.land_tables_schema.specs.Rows.ReadQueries.{IsLeft, IsStoreRead}
use Rattle.land_wire_json.specs.Bodies.WireFaults.{Returns, ◌>>=◌}
use Rattle.land_wire_json.specs.declared.bodies.wire_fault.WireFault.{WireFault}
use Rattle.land_wire_json.specs.declared.bodies.wire_fault.WireFault.TheVariants.{NoMemory}
use Rattle.sqlite.proofs.Callers.{IsPlain, begun_plain, never_commits}
use Rattle.sqlite.proofs.StateLemmas.{survives_then, survives_weaker}
use Rattle.sqlite.specs.Clock.{timed}
use Rattle.sqlite.specs.Effect.{Database}
use Rattle.sqlite.specs.Given.{Advances, HasBegun, HasGiven}
use Rattle.sqlite.specs.Held.{Held, state}
use Rattle.sqlite.specs.Listing.{understood}
use Rattle.sqlite.specs.State.{CommitsShowing, Fails, FailsToQuery, FailsToShow, HasCleanDisk, IsNotRun, IsUnchanged, State, Survives}
use Rattle.sqlite.specs.declared.error.Error.{Error}
use Rattle.sqlite_schema.specs.declared.schema.Schema.{Schema}
use Rattle.sqlite_trees.specs.declared.store.Store.{Ghosts}
use Rattle.sqlite_value.specs.Order.{Row}

module _ {X : Type 0} (said : Row → Result X WireFault) where
  moved : (a : Result X WireFault) (b : Result (List X) WireFault) (c : Result X WireFault)
      → (a >>= λ first. (b >>= λ all. c >>= λ x. Ok (all ++ x ∷ [])) >>= λ rest. Ok (first ∷ rest)) ≡ ((a >>= λ first. b >>= λ rest. Ok (first ∷ rest)) >>= λ all. c >>= λ x. Ok (all ++ x ∷ []))
  moved (Err e) b c = refl
  moved (Ok x) (Err e) c = refl
  moved (Ok x) (Ok xs) (Err e) = refl
  moved (Ok x) (Ok xs) (Ok y) = refl

  -- one more row
  pub each_then : (rows : List Row) (row : Row) → each_row said (rows ++ row ∷ []) ≡ (each_row said rows >>= λ all. said row >>= λ x. Ok (all ++ x ∷ []))
  each_then [] row = go (said row)
    where
      go : (a : Result X WireFault) → (a >>= λ first. Ok [] >>= λ rest. Ok (first ∷ rest)) ≡ (a >>= λ x. Ok (x ∷ []))
      go (Ok x) = refl
      go (Err e) = refl
  each_then (r ∷ rs) row = ap (λ b. said r >>= λ first. b >>= λ rest. Ok (first ∷ rest)) (each_then rs row) ∙ moved (said r) (each_row said rs) (said row)

  -- a row after one that does not decode
  pub still_fails : (rows : List Row) (row : Row) (fault : WireFault) → each_row said rows ≡ Err fault → each_row said (rows ++ row ∷ []) ≡ Err fault
  still_fails rows row fault h = each_then rows row ∙ ap (λ a. a >>= λ all. said row >>= λ x. Ok (all ++ x ∷ [])) h

  -- the first row that does not decode
  pub fails_now : (rows : List Row) (row : Row) (all : List X) (fault : WireFault) → each_row said rows ≡ Ok all → said row ≡ Err fault → each_row said (rows ++ row ∷ []) ≡ Err fault
  fails_now rows row all fault h k = each_then rows row ∙ ap₂ (λ a b. a >>= λ all. b >>= λ x. Ok (all ++ x ∷ [])) h k

  -- one more row, and its record
  pub each_more : (rows : List Row) (row : Row) (all : List X) (x : X) → each_row said rows ≡ Ok all → said row ≡ Ok x → each_row said (rows ++ row ∷ []) ≡ Ok (all ++ x ∷ [])
  each_more rows row all x h k = each_then rows row ∙ ap₂ (λ a b. a >>= λ all. b >>= λ x. Ok (all ++ x ∷ [])) h k

  -- a row after one that did not decode
  pub after_fault : (rows : List Row) (row : Row) (earlier result : Result (List X) WireFault) (fault : WireFault) → earlier ≡ Err fault → Returns (λ it. it) earlier (each_row said rows)
      → IsErrAnd result (λ it. it ≡ fault) → Returns (λ it. it) result (each_row said (rows ++ row ∷ []))
  after_fault rows row (Err e) (Err it) fault was h is = λ known.
      let same : e ≡ it = (let a = was in let b = is in cc) in
      still_fails rows row it (subst (λ k. k ≢ NoMemory → each_row said rows ≡ Err k) same h known)
  after_fault rows row (Err e) (Ok xs) fault was h is = absurd is
  after_fault rows row (Ok xs) r fault was h is = absurd (let k = was in cc)

  -- a row that does not decode
  pub after_wrong : (rows : List Row) (row : Row) (earlier result : Result (List X) WireFault) (all : List X) (fault : WireFault) → earlier ≡ Ok all → Returns (λ it. it) earlier (each_row said rows)
      → (fault ≢ NoMemory → said row ≡ Err fault) → IsErrAnd result (λ it. it ≡ fault) → Returns (λ it. it) result (each_row said (rows ++ row ∷ []))
  after_wrong rows row (Ok xs) (Err it) all fault was h wrong is = λ known. fails_now rows row xs it h (subst (λ k. k ≢ NoMemory → said row ≡ Err k) (sym is) wrong known)
  after_wrong rows row (Ok xs) (Ok ys) all fault was h wrong is = absurd is
  after_wrong rows row (Err e) r all fault was h wrong is = absurd (let k = was in cc)

  -- a row that decodes
  pub after_row : (rows : List Row) (row : Row) (earlier : Result (List X) WireFault) (all new : List X) (x : X) → earlier ≡ Ok all → Returns (λ it. it) earlier (each_row said rows)
      → said row ≡ Ok x → new ≡ all ++ x ∷ [] → each_row said (rows ++ row ∷ []) ≡ Ok new
  after_row rows row (Ok xs) all new x was h one is = each_more rows row all x (h ∙ was) one ∙ ap (λ l. Ok l) (sym is)
  after_row rows row (Err e) all new x was h one is = absurd (let k = was in cc)

-- a count of the rows
pub counts : (n : ℕ) (o : Option ℕ) (count : ℕ) (fault : ReadFault) → SomeIff o (n + 1 < 2 ^ 64) (n + 1) → ok_or o fault ≡ Ok count → 2 ^ 64 - count < 2 ^ 64 - n
counts n (Some x) count fault h is =
    let e : x ≡ count = (let k = is in cc) in
    let fits = h.0 in
    let next = h.1 in
    omega (arith, e, fits, next)
counts n None count fault h is = absurd (let k = is in cc)

-- the state after a statement that only reads is refused
left_by : (text : List ℕ) (old new : State) → IsPlain (understood old.now.schema text) → (e : Error) → FailsToQuery text [] old new e → IsTrue new.is_open → IsLeft old new
unfolding FailsToQuery IsNotRun
left_by text old new plain e (inl (inl refused)) is_open = unchanged_left old new refused.1
left_by text old new plain e (inl (inr fails)) is_open = record { was_open = fails.3.was_open is_open; now = inr (fails.3.undone is_open).0; committed = (fails.3.undone is_open).1 }
left_by text old new plain e (inr h) is_open =
    let none = (subst IsPlain h.1.is plain).0 in
    unchanged_left old new (subst (FailsToShow old new text h.0 (timed [] h.0.formats h.1.now) e) none h.2).3

module _ {S X : Type 0} (g : Ghosts S) (listing : Listing X) (text : List ℕ) where
  -- the statement runs, the rows so far are decoded, and the store is unchanged
  pub record IsUnderWay (old now : Held S) (read : Result (List X) WireFault) : Type 0 where
    pub rows : HasCleanDisk (state g now) → (rows : List Row) × HasGiven g text [] now rows × Returns (λ it. it) read (each_row listing.said rows)
    pub same : HasCleanDisk (state g now) → IsUnchanged (state g old) (state g now)
    pub survives : Survives (state g old) (state g now) (λ _. ⊥)
    pub autocommit : old.in_transaction ≡ false → now.in_transaction ≡ false

module _ {S X : Type 0} (g : Ghosts S) (Has : Schema → Type 0) (listing : Listing X) (text : List ℕ) (list : ListsTable Has listing.table.tree listing.shown text) where
  abbrev UnderWay : Held S → Held S → Result (List X) WireFault → Type 0
  UnderWay = IsUnderWay g listing text

  module _ (old now : Held S) (has : HasCleanDisk (state g old) → Has old.schema) (safe : Survives (state g old) (state g now) (CommitsShowing text [] (state g old))) where
    was_plain : HasCleanDisk (state g now) → IsPlain (understood old.schema text)
    was_plain clean = (list.1.asks old.schema (has (clean_before safe clean))).plain

    only_reads : Survives (state g old) (state g now) (λ _. ⊥)
    only_reads = record {
      clean = safe.clean;
      shield = safe.shield;
      counts = safe.counts;
      limit = safe.limit;
      closes = safe.closes;
      crash = λ clean. (survives_weaker (state g old) (state g now) _ _ (λ _ db. never_commits text [] (state g old) db (was_plain clean)) safe).crash clean;
    }

    pub begun : (HasCleanDisk (state g now) → HasBegun g text [] old now) → (old.in_transaction ≡ false → now.in_transaction ≡ false) → UnderWay old now (Ok [])
    begun starts mode =
        let both : HasCleanDisk (state g now) → HasGiven g text [] now [] × IsUnchanged (state g old) (state g now) =
        λ clean. begun_plain g text [] old now (was_plain clean) (starts clean) in
        record {
          rows = λ clean. ([], (both clean).0, refl);
          same = λ clean. (both clean).1;
          survives = only_reads;
          autocommit = mode;
        }

    -- the statement is refused
    pub refused : {Y F : Type 0} {Q : Y → Type 0} (e : Error) (r : Result Y F) → IsErr r → (HasCleanDisk (state g now) → FailsToQuery text [] (state g old) (state g now) e) → IsStoreRead r Q (state g old) (state g now)
    refused e (Err fault) failed fails = record {
      given = λ _. tt;
      same = λ _. tt;
      left = λ clean. left_by text (state g old) (state g now) (was_plain clean) e (fails clean);
      survives = only_reads;
    }
    refused e (Ok y) failed fails = absurd (let is = failed in cc)

  module _ (old mid new : Held S) (read : Result (List X) WireFault) (before : UnderWay old mid read) (same : HasCleanDisk (state g new) → IsUnchanged (state g mid) (state g new))
      (safe : Survives (state g mid) (state g new) (λ _. ⊥)) where
    clean_mid : HasCleanDisk (state g new) → HasCleanDisk (state g mid)
    clean_mid = was_clean (state g mid) (state g new) safe

    same_still : HasCleanDisk (state g new) → IsUnchanged (state g old) (state g new)
    same_still clean = unchanged_then (state g old) (state g mid) (state g new) (before.same (clean_mid clean)) (same clean)

    safe_still : Survives (state g old) (state g new) (λ _. ⊥)
    safe_still = survives_then (state g old) (state g mid) (state g new) (λ _. ⊥) (λ _. ⊥) (λ _. ⊥) (λ _ _ n. n) (λ _ _ n. n) before.survives safe

    -- one more row, decoded
    pub goes_on : (row : Row) (next : Result (List X) WireFault) → (mid.in_transaction ≡ false → new.in_transaction ≡ false) → (HasCleanDisk (state g new) → Advances g mid new (Some row))
        → ((rows : List Row) → Returns (λ it. it) read (each_row listing.said rows) → Returns (λ it. it) next (each_row listing.said (rows ++ row ∷ []))) → UnderWay old new next
    goes_on row next mode gives decoded = record {
      rows = λ clean.
          let so_far = before.rows (clean_mid clean) in
          (so_far.0 ++ row ∷ [], gives clean text [] so_far.0 so_far.1, decoded so_far.0 so_far.2);
      same = same_still;
      survives = safe_still;
      autocommit = λ none. mode (before.autocommit none);
    }

    -- a row that is not kept
    pub lost : {Y F : Type 0} {Q : Y → Type 0} (r : Result Y F) → IsErr r → IsStoreRead r Q (state g old) (state g new)
    lost (Err fault) failed = record { given = λ _. tt; same = λ _. tt; left = λ clean _. unchanged_left (state g old) (state g new) (same_still clean); survives = safe_still }
    lost (Ok y) failed = absurd (let is = failed in cc)

    -- the rows are all of them
    module _ (has : HasCleanDisk (state g old) → Has old.schema) (gives : HasCleanDisk (state g new) → Advances g mid new None) (r : Result (List X) ReadFault)
        (concludes : (rows : List Row) → Returns (λ it. it) read (each_row listing.said rows) → IsRead listing.said rows r) where
      all_given : HasCleanDisk (state g new) → (rows : List Row) × IsPermutation (map listing.shown ((state g old).now.trees listing.table.tree)) rows × IsRead listing.said rows r
      all_given clean =
          let so_far = before.rows (clean_mid clean) in
          let is : (state g mid).now ≡ (state g old).now = (before.same (clean_mid clean)).0.now_is in
          let had : Has mid.schema = subst (λ (d : Database). Has d.schema) (sym is) (has (was_clean (state g old) (state g new) safe_still clean)) in (
            so_far.0,
            subst (λ (d : Database). IsPermutation (map listing.shown (d.trees listing.table.tree)) so_far.0) is (listed Has listing.table.tree text list.0 listing.shown list.1 (state g mid) (state g new) had so_far.0 (gives clean text [] so_far.0 so_far.1)),
            concludes so_far.0 so_far.2,
          )

      pub ended : IsStoreRead r (Says listing (state g old).now.trees) (state g old) (state g new)
      ended =
          let first : IsStoreRead {X = Unit {0}} {E = Error} (Ok tt) (λ _. Unit {0}) (state g old) (state g new) = record { given = λ _. tt; same = same_still; left = λ _. tt; survives = safe_still } in
          look_told (state g old) (state g new) r first (λ clean _.
          let all = all_given clean in
          told listing (state g old).now.trees all.0 all.1 r all.2)

      pub ended_unreadable : HasCleanDisk (state g new) → IfErr r (IsUnreadableTable listing (state g old).now.trees)
      ended_unreadable clean =
          let all = all_given clean in
          unreadable listing (state g old).now.trees all.0 all.1 r all.2

  -- the next row is not read
  pub stopped : {Y F : Type 0} {Q : Y → Type 0} (old mid new : Held S) (read : Result (List X) WireFault) (e : Error) (r : Result Y F) → IsErr r → UnderWay old mid read
      → (HasCleanDisk (state g new) → Fails (state g mid) (state g new) ⊥ e ⊎ IsUnchanged (state g mid) (state g new)) → Survives (state g mid) (state g new) (λ _. ⊥)
      → IsStoreRead r Q (state g old) (state g new)
  stopped old mid new read e r failed before kept safe =
      let first : IsStoreRead {X = Unit {0}} {E = Error} (Ok tt) (λ _. Unit {0}) (state g old) (state g mid) = record { given = λ _. tt; same = before.same; left = λ _. tt; survives = before.survives } in
      let next : IsStoreRead {X = Unit {0}} {E = Error} (Err e) (λ _. Unit {0}) (state g mid) (state g new) = record {
        given = λ _. tt;
        same = λ _. tt;
        left = λ clean is_open. elim (kept clean) [
          | inl fails ↦ record { was_open = fails.3.was_open is_open; now = inr (fails.3.undone is_open).0; committed = (fails.3.undone is_open).1 }
          | inr unchanged ↦ unchanged_left (state g mid) (state g new) unchanged
        ];
        survives = safe;
      } in
      look_fails (state g old) (state g mid) (state g new) r failed first next
