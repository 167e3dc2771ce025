-- The cells in which parcels are written.
use Rattle.std.specs.Prelude.{ℕ, ◌&&◌, ◌<◌, ◌^◌, Bool, string_bytes}
use Rattle.land_core.specs.Numbers.{is_number}
use Rattle.land_core.specs.Texts.{is_label}
use Rattle.land_core.specs.declared.parcel.ParcelRecord.{ParcelRecord}
use Rattle.land_shape.specs.Outline.{IsOutline}
use Rattle.land_shape.specs.Printed.{polygon_text}
use Rattle.land_tables_rows.specs.Cells.Texts.{is_storable}
use Rattle.land_tables_rows.specs.declared.parcel.cells.ParcelCells.{ParcelCells}
use Rattle.land_tables_schema.specs.Rows.Parcel.{ParcelRow}

-- its outline in canonical form
abbrev pub parcel_row_of : ℕ × ParcelRecord → ParcelRow
parcel_row_of e =
    record {
      number = e.0;
      unit = e.1.unit;
      label = e.1.label;
      outline = polygon_text e.1.outline;
      source = e.1.source;
    }

-- the parcel that the cells of a row represent
abbrev pub parcel_row_of_cells : ParcelCells → ParcelRow
parcel_row_of_cells c =
    record {
      number = c.number;
      unit = c.unit;
      label = c.label.now;
      outline = string_bytes c.outline;
      source = c.source;
    }

-- a column can hold each of its numbers
pub record FitsParcel (c : ParcelCells) : Type 0 where
  pub number : c.number < 2 ^ 63
  pub unit : c.unit < 2 ^ 63
  pub source : c.source < 2 ^ 63

-- its numbers and its label are within their limits
abbrev pub fits_parcel : ℕ × ParcelRecord → Bool
fits_parcel e = is_number e.0
    && (is_number e.1.unit && (is_storable is_label e.1.label && is_number e.1.source))

-- its outline is a valid ring
abbrev pub IsExactParcel : ParcelRecord → Type 0
IsExactParcel parcel = IsOutline parcel.outline
