-- Contents of mutations.
use Rattle.std.specs.Prelude.{ℕ, Bool, false, ◌&&◌, ◌||◌, nat_eq, nat_le, List, length}
use Rattle.std.specs.List.{list_all, list_any}
use Rattle.std.specs.Str.{bytes_eq}
use Rattle.land_core.specs.Mergers.{is_merger, is_same_merger}
use Rattle.land_core.specs.Numbers.{is_number}
use Rattle.land_core.specs.Subdivisions.{is_subdivision, is_same_subdivision}
use Rattle.land_core.specs.declared.content.Content.{Content}
use Rattle.land_core.specs.declared.content.Content.TheVariants as content
use Rattle.land_core.specs.declared.content.Discharge.{Discharge}
use Rattle.land_core.specs.declared.content.Mortgage.{Mortgage}
use Rattle.land_core.specs.declared.content.Transfer.{Transfer}
use Rattle.land_fraction.specs.Ratio.{Ratio}

-- ---- limits

-- a transfer has valid numbers of a unit, a right and a receiver
abbrev pub is_transfer : Transfer → Bool
is_transfer it = is_number it.unit && is_number it.right && is_number it.receiver

-- an amount is 1 to 1_000_000_000_000_000 minor units
abbrev pub is_amount : ℕ → Bool
is_amount amount = nat_le 1 amount && nat_le amount 1000000000000000

-- a currency is three letters from A to Z (ISO 4217)
abbrev pub is_capital : ℕ → Bool
is_capital byte = nat_le 65 byte && nat_le byte 90

abbrev pub are_letters : List ℕ → Bool
are_letters bytes = list_all is_capital bytes

abbrev pub is_currency : List ℕ → Bool
is_currency bytes = nat_eq (length bytes) 3 && are_letters bytes

-- a mortgage has valid numbers of a unit and a creditor, a valid amount and a valid currency
abbrev pub is_mortgage : Mortgage → Bool
is_mortgage it = is_number it.unit && is_number it.creditor && is_amount it.amount && is_currency it.currency

-- a discharge has valid numbers of a unit and a mortgage
abbrev pub is_discharge : Discharge → Bool
is_discharge it = is_number it.unit && is_number it.mortgage

abbrev pub is_well_formed_content : Content → Bool
is_well_formed_content (content.Transfer it) = is_transfer it
is_well_formed_content (content.Subdivision it) = is_subdivision it
is_well_formed_content (content.Merger it) = is_merger it
is_well_formed_content (content.Mortgage it) = is_mortgage it
is_well_formed_content (content.Discharge it) = is_discharge it

-- ---- which contents are the same

-- fractions are in lowest terms, so the same share has the same numbers
abbrev pub is_same_share : Ratio → Ratio → Bool
is_same_share share other = nat_eq share.numerator other.numerator
    && nat_eq share.denominator other.denominator

abbrev pub is_same_transfer : Transfer → Transfer → Bool
is_same_transfer it other =
    nat_eq it.unit other.unit && nat_eq it.right other.right && nat_eq it.receiver other.receiver
    && is_same_share it.share other.share

abbrev pub is_same_mortgage : Mortgage → Mortgage → Bool
is_same_mortgage it other =
    nat_eq it.unit other.unit && nat_eq it.creditor other.creditor && nat_eq it.amount other.amount
    && bytes_eq it.currency other.currency

abbrev pub is_same_discharge : Discharge → Discharge → Bool
is_same_discharge it other = nat_eq it.unit other.unit && nat_eq it.mortgage other.mortgage

abbrev pub is_same_content : Content → Content → Bool
is_same_content (content.Transfer it) (content.Transfer other) = is_same_transfer it other
is_same_content (content.Transfer it) (content.Subdivision other) = false
is_same_content (content.Transfer it) (content.Merger other) = false
is_same_content (content.Transfer it) (content.Mortgage other) = false
is_same_content (content.Transfer it) (content.Discharge other) = false
is_same_content (content.Subdivision it) (content.Transfer other) = false
is_same_content (content.Subdivision it) (content.Subdivision other) = is_same_subdivision it other
is_same_content (content.Subdivision it) (content.Merger other) = false
is_same_content (content.Subdivision it) (content.Mortgage other) = false
is_same_content (content.Subdivision it) (content.Discharge other) = false
is_same_content (content.Merger it) (content.Transfer other) = false
is_same_content (content.Merger it) (content.Subdivision other) = false
is_same_content (content.Merger it) (content.Merger other) = is_same_merger it other
is_same_content (content.Merger it) (content.Mortgage other) = false
is_same_content (content.Merger it) (content.Discharge other) = false
is_same_content (content.Mortgage it) (content.Transfer other) = false
is_same_content (content.Mortgage it) (content.Subdivision other) = false
is_same_content (content.Mortgage it) (content.Merger other) = false
is_same_content (content.Mortgage it) (content.Mortgage other) = is_same_mortgage it other
is_same_content (content.Mortgage it) (content.Discharge other) = false
is_same_content (content.Discharge it) (content.Transfer other) = false
is_same_content (content.Discharge it) (content.Subdivision other) = false
is_same_content (content.Discharge it) (content.Merger other) = false
is_same_content (content.Discharge it) (content.Mortgage other) = false
is_same_content (content.Discharge it) (content.Discharge other) = is_same_discharge it other

-- ---- the units of a content

-- whether any unit to which a content refers passes a test
abbrev pub refers_to_unit_where : (ℕ → Bool) → Content → Bool
refers_to_unit_where passes (content.Transfer it) = passes it.unit
refers_to_unit_where passes (content.Subdivision it) = passes it.unit
refers_to_unit_where passes (content.Merger it) = passes it.unit || list_any passes it.others
refers_to_unit_where passes (content.Mortgage it) = passes it.unit
refers_to_unit_where passes (content.Discharge it) = passes it.unit

-- whether a content refers to a unit
abbrev pub content_names_unit : (unit : ℕ) → Content → Bool
content_names_unit unit it = refers_to_unit_where (λ n. nat_eq n unit) it
