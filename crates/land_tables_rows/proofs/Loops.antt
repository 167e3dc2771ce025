-- Statements on one table, in sequence.
use Rattle.std.proofs.Common.{◌≡◌, ◌≢◌, ◌<ℤ◌, ◌≤ℤ◌, ℤ, Bool, List, [], ◌∷◌, ◌++◌, map, Ok, Err, Result, refl, sym, ap, subst, ◌∙◌, arith, IsPermutation}
use Rattle.std.specs.Prelude.{fold}
use Rattle.std.specs.List.{AllByRecursion, list_any}
use Rattle.std.proofs.lemmas.Int.{ints}
use Rattle.std.proofs.lemmas.List.{append_assoc, map-append}
use Rattle.std.proofs.lemmas.List.Sorted.{IsPermutation-map, IsPermutation-append_comm, IsPermutation-append_left, IsPermutation-trans}
use Rattle.std.proofs.lemmas.List.Sums.{fold-append}
use Rattle.land_core.specs.Numbers.{IsMoment}
use Rattle.land_tables_history.proofs.OneByOne.{closed_each}
use Rattle.land_tables_history.specs.Changed.{opened_version, closed_version}
use Rattle.land_tables_history.specs.Open.{never}
use Rattle.land_tables_history.specs.declared.version.Version.{Version}
use Rattle.land_tables_rows.specs.Recording.{BeginsAll, Changes}
use Rattle.land_tables_rows.specs.Writing.Holding.{Begins, ClosesVersions, Keeps, Reading}
use Rattle.land_tables_schema.proofs.Steps.{step_fails, step_then, was_clean}
use Rattle.land_tables_schema.specs.Schemas.{IsSchemaV2}
use Rattle.land_tables_schema.specs.Rows.Forms.{KeepsOthers}
use Rattle.land_tables_schema.specs.Steps.{IsTransactionStep}
use Rattle.land_tables_schema.specs.Tables.{land_tables}
use Rattle.sqlite.specs.Effect.{Database}
use Rattle.sqlite.specs.State.{HasCleanDisk, State}
use Rattle.sqlite_schema.specs.declared.schema.Table.{Table}
use Rattle.sqlite_trees.specs.Tree.{Trees}

-- ---- the other tables

same_still : (table : Table) (db : Trees) (ts : List Table) → AllByRecursion (λ (t : Table). t.tree ≢ table.tree → db t.tree ≡ db t.tree) ts
same_still table db [] = tt
same_still table db (t ∷ ts) = (λ other. refl, same_still table db ts)

same_then : (table : Table) (a b c : Trees) (ts : List Table) → AllByRecursion (λ (t : Table). t.tree ≢ table.tree → b t.tree ≡ a t.tree) ts → AllByRecursion (λ (t : Table). t.tree ≢ table.tree → c t.tree ≡ b t.tree) ts
    → AllByRecursion (λ (t : Table). t.tree ≢ table.tree → c t.tree ≡ a t.tree) ts
same_then table a b c [] first next = tt
same_then table a b c (t ∷ ts) first next = (λ other. next.0 other ∙ first.0 other, same_then table a b c ts first.1 next.1)

pub kept_still : (table : Table) (db : Trees) → KeepsOthers table db db
kept_still table db = same_still table db land_tables

pub kept_then : (table : Table) (a b c : Trees) → KeepsOthers table a b → KeepsOthers table b c → KeepsOthers table a c
kept_then table a b c first next = same_then table a b c land_tables first next

-- ---- moments, and the register's schema

-- a moment is before the open end
pub before_never : (stamp : ℤ) → IsMoment stamp → stamp <ℤ never
before_never stamp moment = let most : stamp ≤ℤ _ = moment.1 in omega (arith, ints)

-- steps that leave the schema unchanged leave the register's schema
pub land_stays : {X E : Type 0} {x : X} {Done : Database → Database → Type 0} (a b : State) → IsTransactionStep {X = X} {E = E} (Ok x) Done a b → (Done a.now b.now → b.now.schema ≡ a.now.schema)
    → (HasCleanDisk a → IsSchemaV2 a.now.schema) → HasCleanDisk b → IsSchemaV2 b.now.schema
land_stays a b step same has_tables clean = subst IsSchemaV2 (sym (same (step.done clean))) (has_tables (was_clean a b step.survives clean))

-- a step after others, with any result
pub step_after : {X Z E : Type 0} {x : X} {First Next All : Database → Database → Type 0} (a b c : State) (r : Result Z E) → IsTransactionStep {X = X} {E = E} (Ok x) First a b → IsTransactionStep r Next b c
    → (HasCleanDisk c → First a.now b.now → Next b.now c.now → All a.now c.now) → IsTransactionStep r All a c
step_after a b c (Ok z) first next all = step_then a b c first next all
step_after a b c (Err e) first next all = step_fails a b c (Err e) refl first next

-- ---- the versions of one table

module _ {X : Type 0} (reading : Reading X) where
  -- a table holds its versions in any order
  pub keeps_moved : (db : Trees) (vs ws : List (Version X)) → IsPermutation vs ws → Keeps reading db vs → Keeps reading db ws
  keeps_moved db vs ws moved keeps = record {
    said = IsPermutation-trans _ (map (λ v. Ok v) vs) (map (λ v. Ok v) ws) keeps.said (IsPermutation-map (λ v. Ok v) vs ws moved);
    numbered = keeps.numbered;
  }

  module _ (since : ℤ) where
    abbrev begins : X → Version X
    begins x = opened_version x since

    pub none_begun : (db : Database) → BeginsAll reading [] since db db
    none_begun db = record { schema = refl; held = λ vs keeps. keeps; kept = kept_still reading.table db.trees }

    pub one_begun : (x : X) (a b : Database) → Begins reading x since a b → BeginsAll reading (x ∷ []) since a b
    one_begun x a b one = record { schema = one.schema; held = one.held; kept = one.kept }

    in_turn : (xs ys : List X) (vs : List (Version X)) → IsPermutation (map begins ys ++ (map begins xs ++ vs)) (map begins (xs ++ ys) ++ vs)
    in_turn xs ys vs =
        subst (IsPermutation (map begins ys ++ (map begins xs ++ vs))) (ap (λ l. l ++ vs) (sym (map-append begins xs ys)))
        (subst (λ l. IsPermutation l ((map begins xs ++ map begins ys) ++ vs)) (append_assoc (map begins ys) (map begins xs) vs)
        (IsPermutation-append_left vs (map begins ys ++ map begins xs) (map begins xs ++ map begins ys) (IsPermutation-append_comm (map begins ys) (map begins xs))))

    pub more_begun : (xs ys : List X) (a b c : Database) → BeginsAll reading xs since a b → BeginsAll reading ys since b c → BeginsAll reading (xs ++ ys) since a c
    more_begun xs ys a b c first next = record {
      schema = next.schema ∙ first.schema;
      held = λ vs keeps. keeps_moved c.trees (map begins ys ++ (map begins xs ++ vs)) (map begins (xs ++ ys) ++ vs) (in_turn xs ys vs) (next.held (map begins xs ++ vs) (first.held vs keeps));
      kept = kept_then reading.table a.trees b.trees c.trees first.kept next.kept;
    }

  -- new versions begin after the matching ones have ended
  pub changes : (put : List X) (meant : X → Bool) (stamp : ℤ) (a b c : Database) → ClosesVersions reading meant stamp a b → BeginsAll reading put stamp b c → Changes reading put meant stamp a c
  changes put meant stamp a b c first next = record {
    schema = next.schema ∙ first.schema;
    held = λ vs keeps. next.held (map (closed_version meant stamp) vs) (first.held vs keeps);
    kept = kept_then reading.table a.trees b.trees c.trees first.kept next.kept;
  }

  module _ {K : Type 0} (has : X → K → Bool) (stamp : ℤ) (moment : IsMoment stamp) where
    abbrev ClosesSome : List K → Database → Database → Type 0
    ClosesSome keys = ClosesVersions reading (λ x. list_any (has x) keys) stamp

    abbrev by : List K → List (Version X) → List (Version X)
    by keys vs = map (closed_version (λ x. list_any (has x) keys) stamp) vs

    abbrev each : List (Version X) → K → List (Version X)
    each vs key = map (closed_version (λ x. has x key) stamp) vs

    one_by_one : (keys : List K) (vs : List (Version X)) → fold each vs keys ≡ by keys vs
    one_by_one keys vs = closed_each stamp (before_never stamp moment) has keys vs

    pub none_closed : (db : Database) → ClosesSome [] db db
    none_closed db = record { schema = refl; held = λ vs keeps. subst (Keeps reading db.trees) (one_by_one [] vs) keeps; kept = kept_still reading.table db.trees }

    pub one_closed : (key : K) (a b : Database) → ClosesVersions reading (λ x. has x key) stamp a b → ClosesSome (key ∷ []) a b
    one_closed key a b one = record { schema = one.schema; held = λ vs keeps. subst (Keeps reading b.trees) (one_by_one (key ∷ []) vs) (one.held vs keeps); kept = one.kept }

    in_turns : (keys more : List K) (vs : List (Version X)) → by more (by keys vs) ≡ by (keys ++ more) vs
    in_turns keys more vs =
        sym (one_by_one more (by keys vs)) ∙ ap (λ ws. fold each ws more) (sym (one_by_one keys vs)) ∙ sym (fold-append each vs keys more) ∙ one_by_one (keys ++ more) vs

    pub more_closed : (keys more : List K) (a b c : Database) → ClosesSome keys a b → ClosesSome more b c → ClosesSome (keys ++ more) a c
    more_closed keys more a b c first next = record {
      schema = next.schema ∙ first.schema;
      held = λ vs keeps. subst (Keeps reading c.trees) (in_turns keys more vs) (next.held (by keys vs) (first.held vs keeps));
      kept = kept_then reading.table a.trees b.trees c.trees first.kept next.kept;
    }
