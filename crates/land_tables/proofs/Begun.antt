-- The states that a crash leaves while a register is created.
use Rattle.std.proofs.Common.{◌≡◌, ◌≢◌, ◌⊎◌, inl, inr, ap, ◌∙◌, arith, IsTrue}
use Rattle.land_keep.specs.Timeline.{new_timeline}
use Rattle.land_keep.specs.declared.store_fault.StoreFault.{StoreFault}
use Rattle.land_keep.specs.declared.store_fault.StoreFault.TheVariants.{Store}
use Rattle.land_tables.proofs.Written.{Settles}
use Rattle.land_tables.specs.TablesState.{IsRolledBack, IsHonest, IsNewRegister, CrashLeavesOldOrNew, TablesState, CrashKeeps, StaysUntouchedByCrash}
use Rattle.land_tables.specs.Standing.{HoldsTimeline}
use Rattle.land_tables_schema.specs.Rows.ReadQueries.{IsLeft}
use Rattle.sqlite.specs.Effect.{Database}
use Rattle.sqlite.specs.Held.{state}
use Rattle.sqlite.specs.State.{HasCleanDisk, IsUnchanged, State, Survives}
use Rattle.sqlite.specs.Store.{Ghosts}
use Rattle.sqlite_trees.specs.Tree.{Trees}

was_clean : {P : Trees → Type 0} (a b : State) → Survives a b P → HasCleanDisk b → HasCleanDisk a
was_clean a b s clean = omega (arith, s.clean)

-- a failed creation, and the check whether the store is still open
module _ (a b c : State) (next : Survives b c (λ _. ⊥)) where
  pub undone : (HasCleanDisk c → IsTrue c.is_open → IsLeft b c) → (HasCleanDisk b → IsTrue b.is_open → (b.now ≡ a.committed) × (b.committed ≡ a.committed))
      → HasCleanDisk c → IsTrue c.is_open → (c.now ≡ a.committed) × (c.committed ≡ a.committed)
  undone left neither clean is_open =
      let it = left clean is_open in
      let before = neither (was_clean b c next clean) it.was_open in
      (elim it.now [ inl same ↦ same ∙ before.0 | inr last ↦ last ∙ before.1 ], it.committed ∙ before.1)

  pub untouched : (fault : StoreFault) → (HasCleanDisk c → fault ≢ Store → IsUnchanged b c) → (HasCleanDisk b → IsTrue b.is_open → (b.now ≡ a.committed) × (b.committed ≡ a.committed))
      → HasCleanDisk c → fault ≢ Store → IsRolledBack a c
  untouched fault same neither clean other =
      let shows = (same clean other).0 in
      let before = neither (was_clean b c next clean) shows.was_open in
      record { is_open = shows.is_open; now = shows.now_is ∙ before.0; committed = shows.committed_is ∙ before.1 }

-- while a store is open, a crash leaves the last commit
abbrev IsSettled : State → Type 0
IsSettled s = (db : Trees) → IsTrue s.is_open → s.may_leave db → db ≡ s.committed.trees

-- a store that was not changed
pub same_either : (s : State) → IsSettled s → CrashLeavesOldOrNew s s
same_either s settled clean was_open db may = inl (settled db was_open may)

pub err_either : (old new : State) → IsSettled old → Survives old new (λ db. HoldsTimeline db new_timeline) → CrashLeavesOldOrNew old new
err_either old new settled survives clean was_open db may = go (survives.crash clean db may)
  where
    go : old.may_leave db ⊎ HoldsTimeline db new_timeline → (db ≡ old.committed.trees) ⊎ HoldsTimeline db new_timeline
    go (inl before) = inl (settled db was_open before)
    go (inr begun) = inr begun

pub err_untouched : (old new : State) (fault : StoreFault) → IsSettled new → (HasCleanDisk new → fault ≢ Store → IsRolledBack old new) → HasCleanDisk new → fault ≢ Store → StaysUntouchedByCrash old new
err_untouched old new fault settled untouched clean other =
    let it = untouched clean other in
    record { untouched = it; crash = λ db may. settled db it.is_open may ∙ ap (λ (d : Database). d.trees) it.committed }

-- a new register that was created
pub begun_rests : {S : Type 0} (g : Ghosts S) (o : TablesState S) → Settles g o.conn → (IsHonest g o → IsNewRegister (state g o.conn)) → CrashKeeps g o
begun_rests g o settles made open_still clean db may =
    let it = (made clean).office.register in
    let left : db ≡ (state g o.conn).now.trees = settles db it.is_open may ∙ ap (λ (d : Database). d.trees) it.committed in
    rw left it.holds
