-- A call that runs a statement of one query is a read-only query; its result is that of sqlite.
use Rattle.std.proofs.Common.{ℕ, List, [], IfErr, IfOk, OnErr, OnOk, Ok, Err, IsTrue, Result, inl, inr, sym, subst}
use Rattle.std.proofs.lemmas.Result.{IfOk-weaker}
use Rattle.land_select_queries.proofs.Joined.{Asks}
use Rattle.land_tables_schema.proofs.Asks.{clean_before}
use Rattle.land_tables_schema.proofs.KnownSchemas.{but_for_indexes}
use Rattle.land_tables_schema.specs.Schemas.{IsSchemaV2, schema_v2_with}
use Rattle.land_tables_schema.specs.Rows.ReadQueries.{IsLeft, IsStoreRead}
use Rattle.sqlite.proofs.Callers.{IsPlain, never_commits, reads_as}
use Rattle.sqlite.proofs.StateLemmas.{survives_weaker}
use Rattle.sqlite.specs.Clock.{timed}
use Rattle.sqlite.specs.Listing.{understood}
use Rattle.sqlite.specs.Program.{overlay}
use Rattle.sqlite.specs.Query.{IsAnswer, Query}
use Rattle.sqlite.specs.State.{CommitsShowing, FailsToQuery, FailsToShow, HasCleanDisk, IsNotRun, IsRolledBack, IsUnchanged, Shown, ShowsRows, State, Survives}
use Rattle.sqlite.specs.declared.error.Error.{Error}
use Rattle.sqlite.specs.declared.types.Value.TheVariants.{Null}
use Rattle.sqlite_schema.specs.declared.schema.Index.{Index}
use Rattle.sqlite_value.specs.Order.{Row}

module _ (text : List ℕ) (q : Query) (asks : (indexes : List Index) → Asks (schema_v2_with indexes) text q) (params : Row) (old new : State) where
  module _ (has_tables : IsSchemaV2 old.now.schema) where
    asks_now : Asks (schema_v2_with old.now.schema.indexes) text q
    asks_now = asks old.now.schema.indexes

    pub plain_now : IsPlain (understood old.now.schema text)
    plain_now = subst (λ s. IsPlain (understood s text)) (sym (but_for_indexes old.now.schema has_tables)) asks_now.plain

    pub answer : (rows : List Row) → Shown text params old new rows → IsAnswer q (overlay old.now.trees []) params rows
    answer rows h =
        (reads_as text params old new (schema_v2_with old.now.schema.indexes) (but_for_indexes old.now.schema has_tables) _ asks_now.command asks_now.plain asks_now.unlisted rows h).answer Null

    unchanged : (rows : List Row) → Shown text params old new rows → IsUnchanged old new
    unfolding Shown
    unchanged rows h =
        let none = (subst IsPlain h.1.is plain_now).0 in
        (subst (ShowsRows old new text h.0 (timed params h.0.formats h.1.now) rows) none h.2).3

    left_same : IsUnchanged old new → IsLeft old new
    left_same h = record { was_open = h.0.was_open; now = inl h.0.now_is; committed = h.0.committed_is }

    left_undone : IsRolledBack old new → IsTrue new.is_open → IsLeft old new
    left_undone h is_open = record { was_open = h.was_open is_open; now = inr (h.undone is_open).0; committed = (h.undone is_open).1 }

    left_by : (e : Error) → FailsToQuery text params old new e → IsTrue new.is_open → IsLeft old new
    unfolding FailsToQuery IsNotRun
    left_by e (inl (inl refused)) is_open = left_same refused.1
    left_by e (inl (inr fails)) is_open = left_undone fails.3 is_open
    left_by e (inr h) is_open =
        let none = (subst IsPlain h.1.is plain_now).0 in
        left_same (subst (FailsToShow old new text h.0 (timed params h.0.formats h.1.now) e) none h.2).3

    commits_nothing : Survives old new (CommitsShowing text params old) → Survives old new (λ _. ⊥)
    commits_nothing = survives_weaker old new _ _ (λ _ db. never_commits text params old db plain_now)

  same_on_ok : {X : Type 0} (items : X → List Row) (r : Result X Error) → IsSchemaV2 old.now.schema → IfOk r (λ x. Shown text params old new (items x)) → OnOk r (IsUnchanged old new)
  same_on_ok items (Ok x) has_tables h = unchanged has_tables (items x) h
  same_on_ok items (Err e) has_tables h = tt

  left_on_err : {X : Type 0} (r : Result X Error) → IsSchemaV2 old.now.schema → IfErr r (FailsToQuery text params old new) → OnErr r (IsTrue new.is_open → IsLeft old new)
  left_on_err (Ok x) has_tables h = tt
  left_on_err (Err e) has_tables h = left_by has_tables e h

  pub looks : {X : Type 0} (items : X → List Row) (r : Result X Error) (Wanted : List Row → Type 0) → ((rows : List Row) → IsAnswer q (overlay old.now.trees []) params rows → Wanted rows)
      → (HasCleanDisk old → IsSchemaV2 old.now.schema) → (HasCleanDisk new → IfOk r (λ x. Shown text params old new (items x))) → (HasCleanDisk new → IfErr r (FailsToQuery text params old new))
      → Survives old new (CommitsShowing text params old) → IsStoreRead r (λ x. Wanted (items x)) old new
  looks items r Wanted gives has_tables shows refuses safe = record {
    given = λ clean. IfOk-weaker r _ _ (λ x shown. gives (items x) (answer (has_tables (clean_before safe clean)) (items x) shown)) (shows clean);
    same = λ clean. same_on_ok items r (has_tables (clean_before safe clean)) (shows clean);
    left = λ clean. left_on_err r (has_tables (clean_before safe clean)) (refuses clean);
    survives = record {
      clean = safe.clean;
      shield = safe.shield;
      counts = safe.counts;
      limit = safe.limit;
      closes = safe.closes;
      crash = λ clean. (commits_nothing (has_tables (clean_before safe clean)) safe).crash clean;
    };
  }
