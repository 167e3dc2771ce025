-- A store of schema version 1 that was validated and then migrated.
use Rattle.std.proofs.Common.{◌≡◌, ◌≢◌, ◌⊎◌, inl, inr, Ok, Err, Result, IfErr, IfOk, OnErr, OnOk, IsTrue, sym, ap, ◌∙◌, subst, arith}
use Rattle.land_tables.proofs.Raised.{are_raised, none_at_first, office_raised, tells_raised}
use Rattle.land_tables.specs.Adopting.{IsValidation, IsRefused, IsRegisterTo}
use Rattle.land_tables.specs.Calls.{StaysOpenAndSame}
use Rattle.land_tables.specs.Migrating.{IsMigratedFrom, HasNoMandates, IsMigration, CrashLeavesOldOrMigrated, StaysSameAfterCrash}
use Rattle.land_tables.specs.TablesState.{HoldsRegister, IsHonest, TablesState, CrashKeeps}
use Rattle.land_tables.specs.Registers.{version_1}
use Rattle.land_tables.specs.Timelines.Laws.{OrderDoesNotMatter, HistoriesRepresentOneTimeline}
use Rattle.land_tables.specs.declared.fault.AdoptFault.{AdoptFault}
use Rattle.land_tables.specs.declared.fault.AdoptFault.TheVariants.{NoMemory, Store}
use Rattle.land_tables.proofs.Written.{Settles}
use Rattle.land_tables_history.specs.declared.moment.Moment.{Moment}
use Rattle.land_tables_rows.specs.Writing.Laws.{MigratedRegistersAreHeld}
use Rattle.land_tables_schema.specs.Schemas.{IsMigratable}
use Rattle.land_tables_schema.specs.Rows.SchemaMigration.{MayMigrate, Migrates}
use Rattle.sqlite.proofs.StateLemmas.{survives_then, survives_weaker}
use Rattle.sqlite.specs.Effect.{Database}
use Rattle.sqlite.specs.Held.{state}
use Rattle.sqlite.specs.State.{HasCleanDisk, State, Survives}
use Rattle.sqlite.specs.Store.{Ghosts}
use Rattle.sqlite_trees.specs.Tree.{Trees}

clean_before : {P : Trees → Type 0} (a b : State) → Survives a b P → HasCleanDisk b → HasCleanDisk a
clean_before a b s clean = omega (arith, s.clean)

ok_is_none : (latest : Moment) → ◌≢◌ {A = Result Moment AdoptFault} (Ok latest) (Err Store)
ok_is_none latest e = absurd (let k = e in cc)

-- a validated store is committed
pub judged_settled : (s a : State) (latest : Moment) → IsValidation version_1 (Ok latest) s a → HasCleanDisk a → a.now ≡ a.committed
judged_settled s a latest judged clean = sym (judged.same clean (ok_is_none latest)).committed

-- a validated store, migrated or not
module _ (s a b : State) (latest : Moment) (judged : IsValidation version_1 (Ok latest) s a) (crash : Survives a b (MayMigrate a.now)) (law : MigratedRegistersAreHeld) where
  was_same : HasCleanDisk b → StaysOpenAndSame s a
  was_same clean = judged.same (clean_before a b crash clean) (ok_is_none latest)

  was_first : HasCleanDisk b → IsRegisterTo version_1 s.now latest
  was_first clean = judged.register (clean_before a b crash clean)

  safely : Survives s b (IsMigratedFrom s.now)
  safely = survives_then s a b (λ _. ⊥) (MayMigrate a.now) (IsMigratedFrom s.now) (λ _ db none. absurd none)
      (λ clean db may.
      let raised : Migrates s.now may.0 = subst (λ (d : Database). Migrates d may.0) (was_same clean).now may.1 in
      subst (IsMigratedFrom s.now) (sym may.2) (are_raised law s.now may.0 (was_first clean).register raised))
      judged.survives crash

  pub migrated_ok : HistoriesRepresentOneTimeline → OrderDoesNotMatter → IsMigratable a.now.schema → (HasCleanDisk b → Migrates a.now b.now) → (HasCleanDisk b → b.committed ≡ b.now) → (HasCleanDisk b → IsTrue b.is_open)
      → IsMigration (Ok latest) s b
  migrated_ok one order raisable done committed is_open = record {
    migrated = λ clean. (
        let same = was_same clean in
        let to = was_first clean in
        let raised : Migrates s.now b.now = subst (λ (d : Database). Migrates d b.now) same.now (done clean) in
        let timeline = tells_raised law s.now b.now to.register raised one order in
        record {
          register = to;
          raisable = subst (λ (d : Database). IsMigratable d.schema) same.now raisable;
          raised = raised;
          office = office_raised law one order s b latest to raised (is_open clean) (committed clean);
          timeline = timeline;
          mandates = subst HasNoMandates (sym timeline) (none_at_first s.now.trees);
        });
    refused = λ _. tt;
    same = λ _. tt;
    kept = λ _. tt;
    survives = safely;
  }

  pub migrated_err : (fault : AdoptFault) → (fault ≡ NoMemory) ⊎ (fault ≡ Store) → (HasCleanDisk b → fault ≢ Store → IsTrue b.is_open)
      → (HasCleanDisk b → IsTrue b.is_open → (b.now ≡ a.committed) × (b.committed ≡ a.committed)) → IsMigration (Err fault) s b
  migrated_err fault is open_still undone = record {
    migrated = λ _. tt;
    refused = λ clean. elim is [
      | inl it ↦ subst (λ f. IsRefused version_1 f s.now) (sym it) tt
      | inr it ↦ subst (λ f. IsRefused version_1 f s.now) (sym it) tt
    ];
    same = λ clean other. still clean (open_still clean other);
    kept = still;
    survives = safely;
  }
    where
      still : HasCleanDisk b → IsTrue b.is_open → StaysOpenAndSame s b
      still clean is_open =
          let u = undone clean is_open in
          let before = was_same clean in
          record { is_open = is_open; now = u.0 ∙ before.committed ∙ before.now; committed = u.1 ∙ sym u.0 }

  -- for any result
  pub migrated_then : HistoriesRepresentOneTimeline → OrderDoesNotMatter → (r : Result Moment AdoptFault) → IfOk r (λ it. it ≡ latest) → OnOk r (IsMigratable a.now.schema)
      → (HasCleanDisk b → OnOk r (Migrates a.now b.now)) → (HasCleanDisk b → OnOk r (b.committed ≡ b.now)) → (HasCleanDisk b → OnOk r (IsTrue b.is_open))
      → IfErr r (λ fault. (fault ≡ NoMemory) ⊎ (fault ≡ Store)) → (HasCleanDisk b → IfErr r (λ fault. fault ≢ Store → IsTrue b.is_open))
      → (HasCleanDisk b → IsTrue b.is_open → OnErr r ((b.now ≡ a.committed) × (b.committed ≡ a.committed))) → IsMigration r s b
  migrated_then one order (Ok it) same raisable done committed is_open is open_still undone =
      subst (λ (m : Moment). IsMigration (Ok m) s b) (sym same) (migrated_ok one order raisable done committed is_open)
  migrated_then one order (Err fault) same raisable done committed is_open is open_still undone = migrated_err fault is open_still undone

-- a refused store
pub migrated_not : (s a : State) (fault : AdoptFault) → IsValidation version_1 (Err fault) s a → IsMigration (Err fault) s a
migrated_not s a fault judged = record {
  migrated = λ _. tt;
  refused = judged.refused;
  same = λ clean other. judged.same clean (λ e. other (told e));
  kept = judged.kept;
  survives = survives_weaker s a (λ _. ⊥) (IsMigratedFrom s.now) (λ _ db none. absurd none) judged.survives;
}
  where
    told : ◌≡◌ {A = Result Moment AdoptFault} (Err fault) (Err Store) → fault ≡ Store
    told e = cc

-- ---- the states that a crash leaves

-- while a store is open, a crash leaves the last commit
abbrev IsSettled : State → Type 0
IsSettled s = (db : Trees) → IsTrue s.is_open → s.may_leave db → db ≡ s.committed.trees

-- a store that was not changed
pub same_leaves : (s : State) → IsSettled s → CrashLeavesOldOrMigrated s s
same_leaves s settled clean was_open db may = inl (settled db was_open may)

pub err_leaves : (s b : State) → IsSettled s → Survives s b (IsMigratedFrom s.now) → CrashLeavesOldOrMigrated s b
err_leaves s b settled survives clean was_open db may = go (survives.crash clean db may)
  where
    go : s.may_leave db ⊎ IsMigratedFrom s.now db → (db ≡ s.committed.trees) ⊎ IsMigratedFrom s.now db
    go (inl before) = inl (settled db was_open before)
    go (inr raised) = inr raised

-- an unchanged store
pub stays_same : (s b : State) → IsSettled b → StaysOpenAndSame s b → StaysSameAfterCrash s b
stays_same s b settled same = record {
  same = same;
  crash = λ db may. settled db same.is_open may ∙ ap (λ (d : Database). d.trees) same.committed ∙ ap (λ (d : Database). d.trees) same.now;
}

-- tables that hold a register, all of it committed
pub held_rests : {S : Type 0} (g : Ghosts S) (o : TablesState S) → Settles g o.conn → (IsHonest g o → HoldsRegister (state g o.conn)) → CrashKeeps g o
held_rests g o settles held open_still clean db may =
    let it = held clean in
    let left : db ≡ (state g o.conn).now.trees = settles db it.is_open may ∙ ap (λ (d : Database). d.trees) it.committed in
    rw left it.holds
