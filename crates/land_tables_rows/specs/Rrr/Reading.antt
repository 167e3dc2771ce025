-- Decodes a row of `rrr` (LA_RRR): number, unit, party, class, the share of a right in two columns, amount,
-- currency and rank of a mortgage, words of a restriction or a responsibility, source, since, until. Columns
-- that the class does not use are NULL.
use Rattle.std.specs.Prelude.{ℕ, List, Result, Ok, ⊤}
use Rattle.land_core.specs.declared.rrr.Class.{Class}
use Rattle.land_core.specs.declared.rrr.Class.TheVariants as class
use Rattle.land_core.specs.declared.rrr.RightType.{RightType}
use Rattle.land_core.specs.declared.rrr.RrrRecord.{RrrRecord}
use Rattle.land_tables_history.specs.declared.version.Version.{Version}
use Rattle.land_tables_rows.specs.Reading.Cells.{amount_in, currency_in, end_in, moment_in, natural_in}
use Rattle.land_tables_rows.specs.Reading.Cells.{null_in, number_in, share_in, words_in}
use Rattle.land_tables_rows.specs.Reading.Words.{class_word_in}
use Rattle.land_tables_rows.specs.declared.reading.words.ClassWord.{ClassWord}
use Rattle.land_tables_rows.specs.declared.reading.words.ClassWord.TheVariants as word
use Rattle.land_wire_json.specs.Bodies.WireFaults.{◌>>=◌}
use Rattle.land_wire_json.specs.declared.bodies.wire_fault.WireFault.{WireFault}
use Rattle.sqlite_value.specs.Order.{Row, column}

-- the columns of a right, of a burden and of a mortgage are NULL
unfoldable pub no_right_in : Row → Result ⊤ WireFault
no_right_in row = null_in (column row 4) >>= λ num. null_in (column row 5)

unfoldable pub no_mortgage_in : Row → Result ⊤ WireFault
no_mortgage_in row =
    null_in (column row 6) >>= λ amount. null_in (column row 7) >>= λ currency. null_in (column row 8)

unfoldable pub right_in : RightType → Row → Result Class WireFault
right_in type row = do
  share ← share_in (column row 4) (column row 5)
  mortgage ← no_mortgage_in row
  words ← null_in (column row 9)
  Ok (class.Right type share)

unfoldable pub burden_in : Row → Result (List ℕ) WireFault
burden_in row = do
  right ← no_right_in row
  mortgage ← no_mortgage_in row
  words_in (column row 9)

unfoldable pub mortgage_in : Row → Result Class WireFault
mortgage_in row = do
  right ← no_right_in row
  amount ← amount_in (column row 6)
  currency ← currency_in (column row 7)
  rank ← natural_in (column row 8)
  words ← null_in (column row 9)
  Ok (class.Mortgage amount currency rank)

-- decodes the columns of a class
abbrev pub class_by : ClassWord → Row → Result Class WireFault
class_by (word.Right type) row = right_in type row
class_by word.Restriction row = burden_in row >>= λ words. Ok (class.Restriction words)
class_by word.Responsibility row = burden_in row >>= λ words. Ok (class.Responsibility words)
class_by word.Mortgage row = mortgage_in row

unfoldable pub rrr_in : Row → Result (Version (ℕ × RrrRecord)) WireFault
rrr_in row = do
  number ← number_in (column row 0)
  unit ← number_in (column row 1)
  party ← number_in (column row 2)
  which ← class_word_in (column row 3)
  said ← class_by which row
  source ← number_in (column row 10)
  since ← moment_in (column row 11)
  until ← end_in (column row 12)
  Ok (record {
    what = (number, record { unit = unit; party = party; class = said; source = source });
    since = since;
    until = until;
  })
