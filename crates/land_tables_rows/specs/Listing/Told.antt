-- The decoded value of tables whose rows all decode.
use Rattle.std.specs.Prelude.{List, [], map, Result, Ok, Err}
use Rattle.land_tables_history.specs.declared.history.History.{History}
use Rattle.land_tables_rows.specs.Listing.Reading.{Listing, mandates, members, mutations, namings, parcels}
use Rattle.land_tables_rows.specs.Listing.Reading.{parties, roles, rrrs, sources, units}
use Rattle.land_tables_rows.specs.Reading.Readings.{each_row}
use Rattle.land_wire_json.specs.declared.bodies.wire_fault.WireFault.{WireFault}
use Rattle.sqlite_trees.specs.Tree.{Trees}

-- the values of all rows of the table if each decodes, else none
abbrev pub ok_or_empty : {X : Type 0} → Result (List X) WireFault → List X
ok_or_empty (Ok xs) = xs
ok_or_empty (Err fault) = []

abbrev pub decode_rows : {X : Type 0} → Listing X → Trees → List X
decode_rows listing db = ok_or_empty (each_row listing.said (map listing.shown (db listing.table.tree)))

-- the history in tables of schema version 1
abbrev pub decoded_history_v1 : Trees → History
decoded_history_v1 db = record {
  parties = decode_rows parties db;
  roles = decode_rows roles db;
  members = decode_rows members db;
  units = decode_rows units db;
  parcels = decode_rows parcels db;
  rrrs = decode_rows rrrs db;
  sources = decode_rows sources db;
  mutations = decode_rows mutations db;
  namings = decode_rows namings db;
  mandates = [];
}

-- the history in all tables
abbrev pub decoded_history : Trees → History
decoded_history db = record (decoded_history_v1 db) { mandates = decode_rows mandates db }
