-- The result of a query that lists a whole table.
use Rattle.std.proofs.Common.{◌≡◌, ℕ, false, List, [], ◌∷◌, map, filter, IfErr, IfOk, OnErr, OnOk, Ok, Err, IsTrue, Result, inl, inr, refl, sym, ap, ap₂, subst, ◌∙◌, IsPermutation, arith}
use Rattle.std.proofs.lemmas.Result.{IfOk-weaker}
use Rattle.land_tables_schema.proofs.KnownSchemas.{but_for_indexes, but_for_more}
use Rattle.land_tables_schema.proofs.Updates.{answer_is, passes, plainly}
use Rattle.land_tables_schema.specs.Schemas.{ContainsSchemaV1, IsSchemaV2, schema_v1_with, schema_v2_with}
use Rattle.land_tables_schema.specs.Rows.ReadQueries.{IsLeft, IsStoreRead}
use Rattle.sqlite.proofs.Callers.{IsPlain, command_of, never_commits, reads_as}
use Rattle.sqlite.proofs.StateLemmas.{survives_weaker}
use Rattle.sqlite.specs.Clock.{timed}
use Rattle.sqlite.specs.Command.TheVariants.{Select}
use Rattle.sqlite.specs.Listing.{reads_listing, understood}
use Rattle.sqlite.specs.Program.{overlay}
use Rattle.sqlite.specs.Query.{IsAnswer, Query}
use Rattle.sqlite.specs.State.{CommitsShowing, FailsToQuery, FailsToShow, HasCleanDisk, IsNotRun, IsRolledBack, IsUnchanged, Shown, ShowsRows, State, Survives}
use Rattle.sqlite.specs.Term.{Term, eval_all}
use Rattle.sqlite.specs.declared.error.Error.{Error}
use Rattle.sqlite.specs.declared.types.Value.TheVariants.{Null}
use Rattle.sqlite_schema.specs.declared.schema.Index.{Index}
use Rattle.sqlite_schema.specs.declared.schema.Schema.{Schema}
use Rattle.sqlite_schema.specs.declared.schema.Table.{Table}
use Rattle.sqlite_trees.specs.Tree.{Trees}
use Rattle.sqlite_value.specs.Order.{Row}

-- the statement is this query and nothing else
pub record Asks (schema : Schema) (sql : List ℕ) (q : Query) : Type 0 where
  pub names : List (List ℕ)
  pub command : command_of (understood schema sql) ≡ Select (record { lets = []; body = q }) names
  pub unlisted : reads_listing schema sql ≡ false
  pub plain : IsPlain (understood schema sql)

-- a statement lists these columns of each row of a table, in all schemas of a kind
pub record IsListing (Has : Schema → Type 0) (tree : ℕ) (text : List ℕ) (project : List Term) (shown : Row → Row) : Type 0 where
  pub asks : (s : Schema) → Has s → Asks s text (plainly tree [] project)
  pub read : (db : Trees) → overlay db [] tree ≡ db tree
  pub shows : (r : Row) → eval_all project ([] ∷ r ∷ []) ≡ shown r

-- a statement with the same meaning for all indexes of the register, and for all tables after those of
-- version 1
pub in_first : (sql : List ℕ) (q : Query) → ((more : List Table) (indexes : List Index) → Asks (schema_v1_with more indexes) sql q) → (s : Schema) → ContainsSchemaV1 s → Asks s sql q
in_first sql q asks s has = subst (λ x. Asks x sql q) (sym (but_for_more s has)) (asks has.tables.0 s.indexes)

-- a statement with the same meaning for all indexes of the register
pub in_land : (sql : List ℕ) (q : Query) → ((indexes : List Index) → Asks (schema_v2_with indexes) sql q) → (s : Schema) → IsSchemaV2 s → Asks s sql q
in_land sql q asks s has_tables = subst (λ x. Asks x sql q) (sym (but_for_indexes s has_tables)) (asks s.indexes)

-- a disk that is clean was clean before
pub clean_before : {old new : State} {Commits : Trees → Type 0} → Survives old new Commits → HasCleanDisk new → HasCleanDisk old
clean_before s clean = omega (arith, s.clean)

module _ (Has : Schema → Type 0) (tree : ℕ) (text : List ℕ) (project : List Term) (shown : Row → Row) (is : IsListing Has tree text project shown) (old new : State) where
  all_pass : (rows : List Row) → filter (passes [] []) rows ≡ rows
  all_pass [] = refl
  all_pass (r ∷ rs) = ap (λ l. r ∷ l) (all_pass rs)

  each_shown : (rows : List Row) → map (λ r. eval_all project ([] ∷ r ∷ [])) rows ≡ map shown rows
  each_shown [] = refl
  each_shown (r ∷ rs) = ap₂ (λ a b. a ∷ b) (is.shows r) (each_shown rs)

  module _ (has : Has old.now.schema) where
    asks_now : Asks old.now.schema text (plainly tree [] project)
    asks_now = is.asks old.now.schema has

    plain_now : IsPlain (understood old.now.schema text)
    plain_now = asks_now.plain

    pub listed : (rows : List Row) → Shown text [] old new rows → IsPermutation (map shown (old.now.trees tree)) rows
    listed rows h =
        let answer : IsAnswer (plainly tree [] project) (overlay old.now.trees []) [] rows =
        (reads_as text [] old new old.now.schema refl _ asks_now.command asks_now.plain asks_now.unlisted rows h).answer Null in
        subst (λ l. IsPermutation l rows) (ap (map (λ r. eval_all project ([] ∷ r ∷ []))) (all_pass (old.now.trees tree)) ∙ each_shown (old.now.trees tree))
        (subst (λ l. IsPermutation (map (λ r. eval_all project ([] ∷ r ∷ [])) (filter (passes [] []) l)) rows) (is.read old.now.trees) (answer_is tree [] project (overlay old.now.trees []) [] rows answer))

    pub unchanged : (rows : List Row) → Shown text [] old new rows → IsUnchanged old new
    unfolding Shown
    unchanged rows h =
        let none = (subst IsPlain h.1.is plain_now).0 in
        (subst (ShowsRows old new text h.0 (timed [] h.0.formats h.1.now) rows) none h.2).3

    left_same : IsUnchanged old new → IsLeft old new
    left_same h = record { was_open = h.0.was_open; now = inl h.0.now_is; committed = h.0.committed_is }

    left_undone : IsRolledBack old new → IsTrue new.is_open → IsLeft old new
    left_undone h is_open = record { was_open = h.was_open is_open; now = inr (h.undone is_open).0; committed = (h.undone is_open).1 }

    pub left_by : (e : Error) → FailsToQuery text [] old new e → IsTrue new.is_open → IsLeft old new
    unfolding FailsToQuery IsNotRun
    left_by e (inl (inl refused)) is_open = left_same refused.1
    left_by e (inl (inr fails)) is_open = left_undone fails.3 is_open
    left_by e (inr h) is_open =
        let none = (subst IsPlain h.1.is plain_now).0 in
        left_same (subst (FailsToShow old new text h.0 (timed [] h.0.formats h.1.now) e) none h.2).3

    commits_nothing : Survives old new (CommitsShowing text [] old) → Survives old new (λ _. ⊥)
    commits_nothing = survives_weaker old new _ _ (λ _ db. never_commits text [] old db plain_now)

  same_on_ok : {X : Type 0} (items : X → List Row) (r : Result X Error) → Has old.now.schema → IfOk r (λ x. Shown text [] old new (items x)) → OnOk r (IsUnchanged old new)
  same_on_ok items (Ok x) has h = unchanged has (items x) h
  same_on_ok items (Err e) has h = tt

  left_on_err : {X : Type 0} (r : Result X Error) → Has old.now.schema → IfErr r (FailsToQuery text [] old new) → OnErr r (IsTrue new.is_open → IsLeft old new)
  left_on_err (Ok x) has h = tt
  left_on_err (Err e) has h = left_by has e h

  -- a call of the statement is a read that returns all rows
  pub looks : {X : Type 0} (items : X → List Row) (r : Result X Error) → (HasCleanDisk old → Has old.now.schema) → (HasCleanDisk new → IfOk r (λ x. Shown text [] old new (items x)))
      → (HasCleanDisk new → IfErr r (FailsToQuery text [] old new)) → Survives old new (CommitsShowing text [] old) → IsStoreRead r (λ x. IsPermutation (map shown (old.now.trees tree)) (items x)) old new
  looks items r has answers refuses safe = record {
    given = λ clean. IfOk-weaker r _ _ (λ x. listed (has (clean_before safe clean)) (items x)) (answers clean);
    same = λ clean. same_on_ok items r (has (clean_before safe clean)) (answers clean);
    left = λ clean. left_on_err r (has (clean_before safe clean)) (refuses clean);
    survives = record {
      clean = safe.clean;
      shield = safe.shield;
      counts = safe.counts;
      limit = safe.limit;
      closes = safe.closes;
      crash = λ clean. (commits_nothing (has (clean_before safe clean)) safe).crash clean;
    };
  }
