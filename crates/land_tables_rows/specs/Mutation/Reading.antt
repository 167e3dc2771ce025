-- Decodes a row of `mutation`: number, lodger, reference, source, lodged, act, content, state, since, until.
-- The content is read as the request body of the act.
use Rattle.std.specs.Prelude.{ℕ, Result, Ok}
use Rattle.land_core.specs.declared.mutation.MutationRecord.{MutationRecord}
use Rattle.land_tables_history.specs.declared.version.Version.{Version}
use Rattle.land_tables_rows.specs.Reading.Cells.{end_in, moment_in, number_in, reference_in, text_in}
use Rattle.land_tables_rows.specs.Reading.Words.{state_in}
use Rattle.land_wire_json.specs.Bodies.Mutations.{content_in}
use Rattle.land_wire_json.specs.Bodies.WireFaults.{◌>>=◌}
use Rattle.land_wire_json.specs.declared.bodies.wire_fault.WireFault.{WireFault}
use Rattle.sqlite_value.specs.Order.{Row, column}

unfoldable pub mutation_in : Row → Result (Version (ℕ × MutationRecord)) WireFault
mutation_in row = do
  number ← number_in (column row 0)
  lodger ← number_in (column row 1)
  reference ← reference_in (column row 2)
  source ← number_in (column row 3)
  lodged ← moment_in (column row 4)
  act ← text_in (column row 5)
  text ← text_in (column row 6)
  content ← content_in act text
  state ← state_in (column row 7)
  since ← moment_in (column row 8)
  until ← end_in (column row 9)
  Ok (record {
    what = (
      number,
      record {
        lodger = lodger;
        reference = reference;
        source = source;
        lodged = lodged;
        state = state;
        content = content;
      },
    );
    since = since;
    until = until;
  })
