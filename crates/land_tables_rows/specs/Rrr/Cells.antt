-- The cells in which entries of units are written.
use Rattle.std.specs.Prelude.{ℕ, ◌&&◌, ◌^◌, Bool, true, nat_lt, List, codes, Some, None, ⊤}
use Rattle.land_core.specs.Contents.{is_amount, is_currency}
use Rattle.land_core.specs.Numbers.{is_number}
use Rattle.land_core.specs.Texts.{are_words}
use Rattle.land_core.specs.Words.{right_word}
use Rattle.land_core.specs.declared.rrr.Class.{Class}
use Rattle.land_core.specs.declared.rrr.Class.TheVariants.{Right, Restriction, Responsibility, Mortgage}
use Rattle.land_core.specs.declared.rrr.RrrRecord.{RrrRecord}
use Rattle.land_fraction.specs.Ratio.{IsFraction}
use Rattle.land_tables_rows.specs.Cells.Texts.{is_storable}
use Rattle.land_tables_rows.specs.declared.reading.words.ClassWord.{ClassWord}
use Rattle.land_tables_rows.specs.declared.reading.words.ClassWord.TheVariants as word
use Rattle.land_tables_schema.specs.Rows.Rrr.{RrrRow}

-- the word of a class; a right has that of its type
abbrev pub class_column_word : ClassWord → List ℕ
class_column_word (word.Right type) = right_word type
class_column_word word.Restriction = codes "restriction"
class_column_word word.Responsibility = codes "responsibility"
class_column_word word.Mortgage = codes "mortgage"

-- the cells that every entry has, with the word of its class; the columns of the classes are NULL
abbrev pub blank_row : ℕ × RrrRecord → ClassWord → RrrRow
blank_row e which = record {
  number = e.0;
  unit = e.1.unit;
  party = e.1.party;
  class = class_column_word which;
  num = None;
  den = None;
  amount = None;
  currency = None;
  place = None;
  words = None;
  source = e.1.source;
}

-- the cells of an entry of each class
abbrev pub class_row : ℕ × RrrRecord → Class → RrrRow
class_row e (Right type share) =
    record (blank_row e (word.Right type)) { num = Some share.numerator; den = Some share.denominator }
class_row e (Restriction words) = record (blank_row e word.Restriction) { words = Some words }
class_row e (Responsibility words) = record (blank_row e word.Responsibility) { words = Some words }
class_row e (Mortgage amount currency rank) =
    record (blank_row e word.Mortgage) { amount = Some amount; currency = Some currency; place = Some rank }

abbrev pub rrr_row_of : ℕ × RrrRecord → RrrRow
rrr_row_of e = class_row e e.1.class

-- the fields of the class are within their limits; a column can hold the rank
abbrev pub fits_class : Class → Bool
fits_class (Right type share) = true
fits_class (Restriction words) = is_storable are_words words
fits_class (Responsibility words) = is_storable are_words words
fits_class (Mortgage amount currency rank) =
    is_amount amount && (is_storable is_currency currency && nat_lt rank (2 ^ 63))

-- its numbers and the fields of its class are within their limits
abbrev pub fits_rrr : ℕ × RrrRecord → Bool
fits_rrr e = is_number e.0
    && (is_number e.1.unit && (is_number e.1.party && (fits_class e.1.class && is_number e.1.source)))

-- the share of a right is a fraction
abbrev pub IsExactClass : Class → Type 0
IsExactClass (Right type share) = IsFraction share
IsExactClass (Restriction words) = ⊤
IsExactClass (Responsibility words) = ⊤
IsExactClass (Mortgage amount currency rank) = ⊤

abbrev pub IsExactRrr : RrrRecord → Type 0
IsExactRrr entry = IsExactClass entry.class
