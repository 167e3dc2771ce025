-- Closing a version changes the decoded value as it changes the row.
use Rattle.std.proofs.Common.{◌≡◌, ◌&&◌, ℤ, Bool, true, false, Result, Ok, if◌then◌else◌, sym, ap₂}
use Rattle.std.specs.Ordering.{int_eq}
use Rattle.land_tables_history.specs.declared.version.Version.{Version}
use Rattle.land_tables_rows.specs.Cells.Closable.{ended_version}
use Rattle.land_tables_rows.specs.Reading.Cells.{end_in}
use Rattle.land_tables_schema.specs.Rows.Versions as laid
use Rattle.land_tables_schema.specs.Rows.Versions.{closed_version, never}
use Rattle.land_wire_json.specs.declared.bodies.wire_fault.WireFault.{WireFault}
use Rattle.sqlite_value.specs.Order.{Row}
use Rattle.sqlite_value.specs.declared.value.Value.TheVariants.{Int}

-- The decoded value of a record's cells: it matches the key if the record does, ends when the record does,
-- and takes the new end if the row does.
pub record IsReadAs {A C : Type 0} (read : Row → Result (Version A) WireFault) (cells : laid.Version C → Row) (meant_row : C → Bool) (meant : A → Bool) (p : laid.Version C) (v : Version A) : Type 0 where
  pub same : meant_row p.what ≡ meant v.what
  pub until : p.until ≡ v.until
  pub again : (stamp : ℤ) → end_in (Int stamp) ≡ Ok stamp → read (cells (record p { until = stamp })) ≡ Ok (record v { until = stamp })

module _ {A C : Type 0} (read : Row → Result (Version A) WireFault) (cells : laid.Version C → Row) (meant_row : C → Bool) (meant : A → Bool) (p : laid.Version C) (v : Version A) (stamp : ℤ) where
  by : (b : Bool) → read (cells p) ≡ Ok v → read (cells (record p { until = stamp })) ≡ Ok (record v { until = stamp })
      → read (cells (if b then record p { until = stamp } else p)) ≡ Ok (if b then record v { until = stamp } else v)
  by true e again = again
  by false e again = e

  pub closing : IsReadAs read cells meant_row meant p v → end_in (Int stamp) ≡ Ok stamp → read (cells p) ≡ Ok v → read (cells (closed_version meant_row stamp p)) ≡ Ok (ended_version meant stamp v)
  closing h is_end e =
      let test : (meant v.what && int_eq v.until never) ≡ (meant_row p.what && int_eq p.until never) = ap₂ (λ a z. a && int_eq z never) (sym h.same) (sym h.until) in
      rw test (by (meant_row p.what && int_eq p.until never) e (h.again stamp is_end))
