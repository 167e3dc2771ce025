-- The rows of `rrr`.
use Rattle.std.specs.Prelude.{ℕ, Bool, ◌==◌, ◌<◌, ◌^◌, List, [], ◌∷◌, Option, IfSome}
use Rattle.std.specs.Option.{option_map}
use Rattle.land_tables_schema.specs.Rows.Forms.{Form}
use Rattle.land_tables_schema.specs.Rows.Versions.{Version, versions_in, whole}
use Rattle.land_tables_schema.specs.Tables.{rrr}
use Rattle.land_tables_schema.specs.declared.rows.tables.rrr.RrrCells.{RrrCells}
use Rattle.sqlite_typed.specs.Columns.{or_null}
use Rattle.sqlite_value.specs.Order.{Row}
use Rattle.sqlite_value.specs.declared.value.Value.TheVariants.{Text}

-- an entry of a unit: its number, its unit and its party, the word of its class, the share of a right, the
-- amount, currency and rank of a mortgage, the words of a restriction or a responsibility, and the number of
-- its source
pub record RrrRow : Type 0 where
  pub number : ℕ
  pub unit : ℕ
  pub party : ℕ
  pub class : List ℕ
  pub num : Option ℕ
  pub den : Option ℕ
  pub amount : Option ℕ
  pub currency : Option (List ℕ)
  pub place : Option ℕ
  pub words : Option (List ℕ)
  pub source : ℕ

abbrev pub rrr_cells : RrrRow → Row
rrr_cells r =
    whole r.number ∷ whole r.unit ∷ whole r.party ∷ Text r.class ∷ or_null whole r.num ∷ or_null whole r.den
    ∷ or_null whole r.amount ∷ or_null Text r.currency
    ∷ or_null whole r.place ∷ or_null Text r.words ∷ whole r.source ∷ []

abbrev pub rrr_form : Form (Version RrrRow)
rrr_form = versions_in rrr 11 rrr_cells

-- whether it has this number
abbrev pub is_rrr : ℕ → RrrRow → Bool
is_rrr number r = r.number == number

-- the entry of the cells of a row
abbrev pub rrr_of : RrrCells → RrrRow
rrr_of c = record {
  number = c.number;
  unit = c.unit;
  party = c.party;
  class = c.class.now;
  num = c.num;
  den = c.den;
  amount = c.amount;
  currency = option_map (λ t. t.now) c.currency;
  place = c.place;
  words = option_map (λ t. t.now) c.words;
  source = c.source;
}

-- each number fits into a column
pub record FitsRrr (c : RrrCells) : Type 0 where
  pub number : c.number < 2 ^ 63
  pub unit : c.unit < 2 ^ 63
  pub party : c.party < 2 ^ 63
  pub num : IfSome c.num (λ n. n < 2 ^ 63)
  pub den : IfSome c.den (λ n. n < 2 ^ 63)
  pub amount : IfSome c.amount (λ n. n < 2 ^ 63)
  pub place : IfSome c.place (λ n. n < 2 ^ 63)
  pub source : c.source < 2 ^ 63
