-- The effect of several statements on the versions of one table.
pub mod Whole
use Rattle.std.specs.Prelude.{◌≡◌, ℤ, Bool, List, ◌++◌, map}
use Rattle.land_tables_history.specs.Changed.{opened_version, changed_versions}
use Rattle.land_tables_history.specs.declared.version.Version.{Version}
use Rattle.land_tables_rows.specs.Writing.Holding.{Keeps, Reading}
use Rattle.land_tables_schema.specs.Rows.Forms.{KeepsOthers}
use Rattle.sqlite.specs.Effect.{Database}

-- more versions are held, which begin at a moment and are current
pub record BeginsAll {X : Type 0} (reading : Reading X) (xs : List X) (since : ℤ) (old new : Database)
    : Type 0 where
  pub schema : new.schema ≡ old.schema
  pub held : (versions : List (Version X)) → Keeps reading old.trees versions
      → Keeps reading new.trees (map (λ x. opened_version x since) xs ++ versions)
  pub kept : KeepsOthers reading.table old.trees new.trees

-- the inserted versions begin at a moment, and the matching current versions end at it
pub record Changes {X : Type 0} (reading : Reading X) (put : List X) (meant : X → Bool) (stamp : ℤ)
    (old new : Database) : Type 0 where
  pub schema : new.schema ≡ old.schema
  pub held : (versions : List (Version X)) → Keeps reading old.trees versions
      → Keeps reading new.trees (changed_versions put meant stamp versions)
  pub kept : KeepsOthers reading.table old.trees new.trees
