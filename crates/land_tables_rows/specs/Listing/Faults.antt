-- The fault of a failed read, and of a value that cannot be decoded.
use Rattle.std.specs.Prelude.{Bool, true, false, if◌then◌else◌}
use Rattle.land_tables_rows.specs.declared.listing.fault.ReadFault.{ReadFault}
use Rattle.land_tables_rows.specs.declared.listing.fault.ReadFault.TheVariants.{Unreadable, NoMemory, Store}
use Rattle.land_wire_json.specs.declared.bodies.wire_fault.WireFault.{WireFault}
use Rattle.land_wire_json.specs.declared.bodies.wire_fault.WireFault.TheVariants as wire
use Rattle.sqlite.specs.declared.error.Error.{Error}
use Rattle.sqlite.specs.declared.error.Error.TheVariants.{SqliteFailure}
use Rattle.sqlite.specs.declared.error.ErrorCode.TheVariants as code

-- the error is out of memory
abbrev pub is_out_of_memory : Error → Bool
is_out_of_memory (SqliteFailure code.OutOfMemory) = true
is_out_of_memory _ = false

abbrev pub of_error : Error → ReadFault
of_error error = if is_out_of_memory error then NoMemory else Store

-- the fault of a value that cannot be decoded: out of memory, or not a valid value of its field
abbrev pub of_wire : WireFault → ReadFault
of_wire wire.NoMemory = NoMemory
of_wire _ = Unreadable
