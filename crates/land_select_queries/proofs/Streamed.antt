-- The statement of a selection, if its rows are decoded as they come.
use Rattle.std.proofs.Common.{◌≡◌, ◌≢◌, false, ℕ, ℤ, List, [], ◌∷◌, ◌++◌, Some, None, Ok, Err, Result, inl, inr, refl, sym, ap, ap₂, subst, ◌∙◌, ◌⊎◌, IsErr}
use Rattle.std.specs.Prelude.{IfErr, IsErrAnd}
use Rattle.land_select_queries.proofs.Asked.{answer, looks, plain_now}
use Rattle.land_select_queries.proofs.Counted.{counted, numbers_told, one_is_read}
use Rattle.land_select_queries.proofs.Given.{are_rows_of, query_of}
use Rattle.land_select_queries.proofs.Selected.{join_of}
use Rattle.land_select_queries.specs.Joins.Execution.{AreNumbersOf, AreRowsOf, HoldsNoHistory, known_or_zero}
use Rattle.land_select_queries.specs.Joins.Meaning.{query_parameters}
use Rattle.land_select_queries.specs.Joins.Texts.{selection_text}
use Rattle.land_select_queries.specs.Sights.Selections.{selects}
use Rattle.land_select_queries.specs.declared.sights.selection.Selection.{Selection}
use Rattle.land_tables_rows.specs.Listing.Faults.{of_wire}
use Rattle.land_tables_rows.specs.Reading.Readings.{each_row}
use Rattle.land_tables_rows.specs.declared.listing.fault.ReadFault.{ReadFault}
use Rattle.land_tables_rows.specs.declared.listing.fault.ReadFault.TheVariants as fault
use Rattle.land_tables_schema.proofs.Asks.{clean_before}
use Rattle.land_tables_schema.proofs.Looking.{look_failed, look_fails, unchanged_left, unchanged_then, was_clean}
use Rattle.land_tables_schema.proofs.KnownSchemas.{but_for_indexes}
use Rattle.land_tables_schema.specs.Connections.{HasRegisterTables}
use Rattle.land_tables_schema.specs.Rows.ReadQueries.{IsStoreRead}
use Rattle.land_tables_schema.specs.Schemas.{IsSchemaV2}
use Rattle.land_wire_json.specs.Bodies.WireFaults.{◌>>=◌}
use Rattle.land_wire_json.specs.declared.bodies.wire_fault.WireFault.{WireFault}
use Rattle.land_wire_json.specs.declared.bodies.wire_fault.WireFault.TheVariants.{NoMemory}
use Rattle.sqlite.proofs.Callers.{EndsIn, IsPlain, begins_shown, begun_plain, command_of, given_begin, never_commits}
use Rattle.sqlite.proofs.StateLemmas.{survives_then, survives_weaker}
use Rattle.sqlite.specs.Effect.{Database}
use Rattle.sqlite.specs.Given.{Advances, HasBegun, HasGiven}
use Rattle.sqlite.specs.Held.{Held, state}
use Rattle.sqlite.specs.Listing.{understood}
use Rattle.sqlite.specs.State.{CommitsShowing, Fails, FailsToQuery, HasCleanDisk, IsUnchanged, State, Survives}
use Rattle.sqlite.specs.declared.error.Error.{Error}
use Rattle.sqlite_resolve.specs.declared.compiled.Compiled.{Compiled}
use Rattle.sqlite_rules.proofs.ListLemmas.{has_left, has_right}
use Rattle.sqlite_schema.specs.declared.schema.Schema.{Schema}
use Rattle.sqlite_trees.specs.declared.store.Store.{Ghosts}
use Rattle.sqlite_value.specs.Order.{Row}

moved : (a : Result ℕ WireFault) (b : Result (List ℕ) WireFault) (c : Result ℕ WireFault)
    → (a >>= λ first. (b >>= λ all. c >>= λ n. Ok (all ++ n ∷ [])) >>= λ rest. Ok (first ∷ rest)) ≡ ((a >>= λ first. b >>= λ rest. Ok (first ∷ rest)) >>= λ all. c >>= λ n. Ok (all ++ n ∷ []))
moved (Err e) b c = refl
moved (Ok x) (Err e) c = refl
moved (Ok x) (Ok xs) (Err e) = refl
moved (Ok x) (Ok xs) (Ok n) = refl

each_then : (rows : List Row) (row : Row) → each_row counted (rows ++ row ∷ []) ≡ (each_row counted rows >>= λ all. counted row >>= λ n. Ok (all ++ n ∷ []))
each_then [] row = refl
each_then (r ∷ rs) row = ap (λ b. counted r >>= λ first. b >>= λ rest. Ok (first ∷ rest)) (each_then rs row) ∙ moved (counted r) (each_row counted rs) (counted row)

-- one more row, and its number
each_more : (rows : List Row) (row : Row) (found : List ℕ) (n : ℕ) → each_row counted rows ≡ Ok found → counted row ≡ Ok n → each_row counted (rows ++ row ∷ []) ≡ Ok (found ++ n ∷ [])
each_more rows row found n all one = each_then rows row ∙ ap₂ (λ a b. a >>= λ all. b >>= λ n. Ok (all ++ n ∷ [])) all one

-- a fault that is not out of memory
known : (e : WireFault) (it : ReadFault) → it ≡ of_wire e → it ≡ fault.Unreadable → e ≢ NoMemory
known e it is unread none =
    let a : it ≡ fault.NoMemory = is ∙ ap of_wire none in
    let b = unread in
    cc

never_both : (c : Result ℕ WireFault) (n : ℕ) (e : WireFault) → c ≡ Ok n → c ≡ Err e → ⊥
never_both c n e fine wrong = cc

-- a statement of one query has no recursion
no_recursion : (s : Selection) (schema : Schema) → IsSchemaV2 schema → (c : Compiled) (db : Database) (params : Row) → understood schema (selection_text s) ≡ Ok c → EndsIn c.command db params
no_recursion s schema has_tables c db params is =
    let asks = (join_of s).asks schema.indexes in
    let command = ap command_of (sym is) ∙ ap (λ x. command_of (understood x (selection_text s))) (but_for_indexes schema has_tables) ∙ asks.command in
    subst (λ k. EndsIn k db params) (sym command) tt

-- an open store is as it was
itself : (a b : State) → IsUnchanged a b → IsUnchanged b b
itself a b it = (record { was_open = it.0.is_open; is_open = it.0.is_open; now_is = refl; committed_is = refl; mode = refl }, record { changes = refl; last_rowid = refl }, refl)

module _ {S : Type 0} (g : Ghosts S) (s : Selection) (caller : ℕ) (t : ℤ) where
  abbrev params : Row
  params = query_parameters (known_or_zero caller) t

  abbrev Gives : Held S → List Row → Type 0
  Gives = HasGiven g (selection_text s) (query_parameters (known_or_zero caller) t)

  -- the statement runs, the rows so far are these numbers, and the store is unchanged
  pub record IsUnderWay (old now : Held S) (found : List ℕ) : Type 0 where
    pub numbers : HasCleanDisk (state g now) → (rows : List Row) × HasGiven g (selection_text s) (query_parameters (known_or_zero caller) t) now rows × (each_row counted rows ≡ Ok found)
    pub same : HasCleanDisk (state g now) → IsUnchanged (state g old) (state g now)
    pub survives : Survives (state g old) (state g now) (λ _. ⊥)
    pub autocommit : old.in_transaction ≡ false → now.in_transaction ≡ false

  is_plain : (old : Held S) → IsSchemaV2 old.schema → IsPlain (understood old.schema (selection_text s))
  is_plain old has_tables = plain_now (selection_text s) (query_of s) (join_of s).asks params (state g old) (state g old) has_tables

  module _ (old now : Held S) (has_tables : HasRegisterTables g old) (safe : Survives (state g old) (state g now) (CommitsShowing (selection_text s) (query_parameters (known_or_zero caller) t) (state g old))) where
    was_plain : HasCleanDisk (state g now) → IsPlain (understood old.schema (selection_text s))
    was_plain clean = is_plain old (has_tables (clean_before safe clean))

    pub begun : (HasCleanDisk (state g now) → HasBegun g (selection_text s) (query_parameters (known_or_zero caller) t) old now) → (old.in_transaction ≡ false → now.in_transaction ≡ false) → IsUnderWay old now []
    begun starts mode =
        let both : HasCleanDisk (state g now) → Gives now [] × IsUnchanged (state g old) (state g now) =
        λ clean. begun_plain g (selection_text s) params old now (was_plain clean) (starts clean) in
        record {
          numbers = λ clean. ([], (both clean).0, refl);
          same = λ clean. (both clean).1;
          survives = record {
            clean = safe.clean;
            shield = safe.shield;
            counts = safe.counts;
            limit = safe.limit;
            closes = safe.closes;
            crash = λ clean. (survives_weaker (state g old) (state g now) _ _ (λ _ db. never_commits (selection_text s) params (state g old) db (was_plain clean)) safe).crash clean;
          };
          autocommit = mode;
        }

    -- the statement is refused
    pub refused : {X F : Type 0} {Q : X → Type 0} (e : Error) (r : Result X F) → IsErr r → (HasCleanDisk (state g now) → FailsToQuery (selection_text s) (query_parameters (known_or_zero caller) t) (state g old) (state g now) e) → IsStoreRead r Q (state g old) (state g now)
    refused e r failed fails =
        let none : IsStoreRead {X = List Row} {E = Error} (Err e) (λ _. Unit {0}) (state g old) (state g now) =
        looks (selection_text s) (query_of s) (join_of s).asks params (state g old) (state g now) (λ rows. rows) (Err e) (λ _. Unit {0}) (λ _ _. tt) has_tables (λ _. tt) fails safe in
        look_failed (state g old) (state g now) r failed none

  module _ (old mid new : Held S) (has_tables : HasRegisterTables g old) (found : List ℕ) (before : IsUnderWay old mid found) (same : HasCleanDisk (state g new) → IsUnchanged (state g mid) (state g new))
      (safe : Survives (state g mid) (state g new) (λ _. ⊥)) where
    clean_mid : HasCleanDisk (state g new) → HasCleanDisk (state g mid)
    clean_mid = was_clean (state g mid) (state g new) safe

    same_still : HasCleanDisk (state g new) → IsUnchanged (state g old) (state g new)
    same_still clean = unchanged_then (state g old) (state g mid) (state g new) (before.same (clean_mid clean)) (same clean)

    safe_still : Survives (state g old) (state g new) (λ _. ⊥)
    safe_still = survives_then (state g old) (state g mid) (state g new) (λ _. ⊥) (λ _. ⊥) (λ _. ⊥) (λ _ _ n. n) (λ _ _ n. n) before.survives safe

    has_mid : HasCleanDisk (state g new) → IsSchemaV2 mid.schema
    has_mid clean = subst (λ (d : Database). IsSchemaV2 d.schema) (sym (before.same (clean_mid clean)).0.now_is) (has_tables (was_clean (state g old) (state g new) safe_still clean))

    has_new : HasCleanDisk (state g new) → IsSchemaV2 new.schema
    has_new clean = subst (λ (d : Database). IsSchemaV2 d.schema) (sym (same_still clean).0.now_is) (has_tables (was_clean (state g old) (state g new) safe_still clean))

    -- a row, and its number
    pub goes_on : (row : Row) (n : ℕ) → (mid.in_transaction ≡ false → new.in_transaction ≡ false) → (HasCleanDisk (state g new) → Advances g mid new (Some row)) → counted row ≡ Ok n
        → IsUnderWay old new (found ++ n ∷ [])
    goes_on row n mode gives is = record {
      numbers = λ clean.
          let so_far = before.numbers (clean_mid clean) in
          (so_far.0 ++ row ∷ [], gives clean (selection_text s) params so_far.0 so_far.1, each_more so_far.0 row found n so_far.2 is);
      same = same_still;
      survives = safe_still;
      autocommit = λ none. mode (before.autocommit none);
    }

    -- a row that is not kept
    pub lost : {X F : Type 0} {Q : X → Type 0} (r : Result X F) → IsErr r → IsStoreRead r Q (state g old) (state g new)
    lost (Err fault) failed = record { given = λ _. tt; same = λ _. tt; left = λ clean _. unchanged_left (state g old) (state g new) (same_still clean); survives = safe_still }
    lost (Ok x) failed = absurd (let is = failed in cc)

    -- the tables of a history have no row that is not a number
    pub unreadable : {X : Type 0} (row : Row) (e : WireFault) (r : Result X ReadFault) → (HasCleanDisk (state g new) → Advances g mid new (Some row)) → (e ≢ NoMemory → counted row ≡ Err e)
        → IsErrAnd r (λ it. it ≡ of_wire e) → HasCleanDisk (state g new) → IfErr r (HoldsNoHistory (state g old).now.trees)
    unreadable row e (Ok x) gives wrong is clean = absurd is
    unreadable row e (Err it) gives wrong is clean = λ unread moments h held.
        let so_far = before.numbers (clean_mid clean) in
        let rows : List Row = so_far.0 ++ row ∷ [] in
        let n = state g new in
        let begins = given_begin g (selection_text s) params new rows (gives clean (selection_text s) params so_far.0 so_far.1) in
        let all = begins_shown (selection_text s) params n n rows begins (itself (state g old) n (same_still clean)) (λ c db statement source. no_recursion s new.schema (has_new clean) c db _ statement.is) in
        let a = answer (selection_text s) (query_of s) (join_of s).asks params n n (has_new clean) (rows ++ all.0) all.1 in
        let are : AreRowsOf s t caller (state g old).now.trees (rows ++ all.0) =
        subst (λ (d : Database). AreRowsOf s t caller d.trees (rows ++ all.0)) (same_still clean).0.now_is (are_rows_of s t caller n.now.trees (rows ++ all.0) a) in
        let one = (are moments h held).each row (has_left rows all.0 row (has_right so_far.0 (row ∷ []) row (inl refl))) in
        let fine : counted row ≡ Ok one.0 = ap counted one.1 ∙ one_is_read one.0 in
        never_both (counted row) one.0 e fine (wrong (known e it is unread))

    -- the rows are all of them
    pub ended : {E : Type 0} → (HasCleanDisk (state g new) → Advances g mid new None) → IsStoreRead {X = List ℕ} {E = E} (Ok found) (AreNumbersOf s t caller (state g old).now.trees) (state g old) (state g new)
    ended gives = record {
      given = λ clean.
          let so_far = before.numbers (clean_mid clean) in
          let shown = gives clean (selection_text s) params so_far.0 so_far.1 in
          let m = state g mid in
          let a = answer (selection_text s) (query_of s) (join_of s).asks params m (state g new) (has_mid clean) so_far.0 shown in
          subst (λ (d : Database). AreNumbersOf s t caller d.trees found) (before.same (clean_mid clean)).0.now_is
          (numbers_told (λ h. selects s t h caller) m.now.trees so_far.0 (are_rows_of s t caller m.now.trees so_far.0 a) (Ok found) so_far.2);
      same = same_still;
      left = λ _. tt;
      survives = safe_still;
    }

  -- the next row is not read
  pub stopped : {X F : Type 0} {Q : X → Type 0} (old mid new : Held S) (found : List ℕ) (e : Error) (r : Result X F) → IsErr r → IsUnderWay old mid found
      → (HasCleanDisk (state g new) → Fails (state g mid) (state g new) ⊥ e ⊎ IsUnchanged (state g mid) (state g new)) → Survives (state g mid) (state g new) (λ _. ⊥)
      → IsStoreRead r Q (state g old) (state g new)
  stopped old mid new found e r failed before kept safe =
      let first : IsStoreRead {X = Unit {0}} {E = Error} (Ok tt) (λ _. Unit {0}) (state g old) (state g mid) = record { given = λ _. tt; same = before.same; left = λ _. tt; survives = before.survives } in
      let next : IsStoreRead {X = Unit {0}} {E = Error} (Err e) (λ _. Unit {0}) (state g mid) (state g new) = record {
        given = λ _. tt;
        same = λ _. tt;
        left = λ clean is_open. elim (kept clean) [
          | inl fails ↦ record { was_open = fails.3.was_open is_open; now = inr (fails.3.undone is_open).0; committed = (fails.3.undone is_open).1 }
          | inr unchanged ↦ unchanged_left (state g mid) (state g new) unchanged
        ];
        survives = safe;
      } in
      look_fails (state g old) (state g mid) (state g new) r failed first next
