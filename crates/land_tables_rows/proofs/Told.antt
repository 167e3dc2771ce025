-- Records that their cells determine: a version begins, a version is closed.
use Rattle.std.proofs.Common.{◌≡◌, ◌&&◌, ◌++◌, ◌∷◌, [], ℕ, suc, ℤ, Bool, nat_eq, if◌then◌else◌, Ok, Result, refl, sym, ap, ◌∙◌}
use Rattle.std.specs.Ordering.{int_eq}
use Rattle.land_core.specs.Numbers.{IsMoment}
use Rattle.land_tables_history.specs.Changed.{opened_version}
use Rattle.land_tables_history.specs.Open.{never}
use Rattle.land_tables_history.specs.declared.version.Version.{Version}
use Rattle.land_tables_rows.proofs.Writes as write
use Rattle.land_tables_rows.proofs.WrittenCells.{same_test}
use Rattle.land_tables_rows.specs.Cells.Closable.{DecodesCells, is_numbered}
use Rattle.land_tables_rows.specs.Writing.Holding.{Begins, ClosesVersions}
use Rattle.land_tables_schema.specs.Rows.Forms.{InsertsVersion, UpdatesRows}
use Rattle.land_tables_schema.specs.Rows.Versions as rows
use Rattle.land_wire_json.specs.declared.bodies.wire_fault.WireFault.{WireFault}
use Rattle.sqlite.specs.Effect.{Database}
use Rattle.sqlite_schema.specs.declared.schema.Table.{Table}
use Rattle.sqlite_value.specs.Order.{Row}
use Rattle.sqlite_value.specs.declared.value.Value.TheVariants.{Int}

module _ {A C : Type 0} (table : Table) (count : ℕ) (cells : C → Row) (read : Row → Result (Version (ℕ × A)) WireFault) (meant : ℕ → C → Bool)
    (told : DecodesCells read (suc (suc count)) (rows.versions_in table count cells) meant is_numbered) where
  pub begins : (c : C) (x : ℕ × A) (since : ℤ) → read (cells c ++ Int since ∷ Int never ∷ []) ≡ Ok (opened_version x since) → (old new : Database) → InsertsVersion (rows.versions_in table count cells) (rows.opened_version c since) old new
      → Begins (record { table = table; width = suc (suc count); said = read }) x since old new
  begins = write.begins table count cells read told.found

  pub closes : (n : ℕ) (stamp : ℤ) → IsMoment stamp → (old new : Database) → UpdatesRows (rows.versions_in table count cells) (rows.closed_version (meant n) stamp) old new
      → ClosesVersions (record { table = table; width = suc (suc count); said = read }) (λ e. nat_eq e.0 n) stamp old new
  closes n stamp moment = write.closes table count cells read told.found (meant n) (λ e. nat_eq e.0 n) stamp
      (λ p v is_v. told.closes n stamp p v moment is_v
      ∙ ap (λ b. Ok (if b && int_eq v.until never then record v { until = stamp } else v)) (sym (same_test v.what.0 v.what.0 n refl)))
