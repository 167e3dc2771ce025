-- The records in a range of numbers.
use Rattle.std.specs.Prelude.{ℕ, ℤ, Bool, ◌&&◌, nat_le, List}
use Rattle.land_core.specs.declared.kind.Kind.{Kind}
use Rattle.land_core.specs.declared.kind.Kind.TheVariants as kind
use Rattle.land_core.specs.declared.mutation.MutationRecord.{MutationRecord}
use Rattle.land_core.specs.declared.parcel.ParcelRecord.{ParcelRecord}
use Rattle.land_core.specs.declared.party.PartyRecord.{PartyRecord}
use Rattle.land_core.specs.declared.rrr.RrrRecord.{RrrRecord}
use Rattle.land_core.specs.declared.source.SourceRecord.{SourceRecord}
use Rattle.land_core.specs.declared.unit.UnitRecord.{UnitRecord}
use Rattle.land_select_queries.specs.Lookups.RecordRows.{AreMatchingRows}
use Rattle.land_select_queries.specs.declared.lookups.texts.TheConstants as texts
use Rattle.land_tables_history.specs.declared.version.Version.{Version}
use Rattle.land_tables_rows.specs.Listing.Reading.{Listing, mutations, parcels, parties, rrrs, sources, units}
use Rattle.sqlite_trees.specs.Tree.{Trees}
use Rattle.sqlite_value.specs.Order.{Row}

-- the number is in the range, which includes both ends
abbrev pub is_within : (first last number : ℕ) → Bool
is_within first last number = nat_le first number && nat_le number last

-- the record type of a kind
abbrev pub Recorded : Kind → Type 0
Recorded kind.Party = PartyRecord
Recorded kind.Unit = UnitRecord
Recorded kind.Parcel = ParcelRecord
Recorded kind.Rrr = RrrRecord
Recorded kind.Source = SourceRecord
Recorded kind.Mutation = MutationRecord

-- the table of a kind, with the decoder of its rows
abbrev pub listing_of : (k : Kind) → Listing (Version (ℕ × Recorded k))
listing_of kind.Party = parties
listing_of kind.Unit = units
listing_of kind.Parcel = parcels
listing_of kind.Rrr = rrrs
listing_of kind.Source = sources
listing_of kind.Mutation = mutations

-- the statement that selects a range of a kind
abbrev pub text_within : Kind → List ℕ
text_within kind.Party = texts.PARTIES_WITHIN.now
text_within kind.Unit = texts.UNITS_WITHIN.now
text_within kind.Parcel = texts.PARCELS_WITHIN.now
text_within kind.Rrr = texts.ENTRIES_WITHIN.now
text_within kind.Source = texts.SOURCES_WITHIN.now
text_within kind.Mutation = texts.MUTATIONS_WITHIN.now

-- the rows of the records in a range of numbers at a time
abbrev pub AreRowsWithin : Kind → (first last : ℕ) → (t : ℤ) → Trees → List Row → Type 0
AreRowsWithin k first last t db rows =
    AreMatchingRows (listing_of k) (λ it. is_within first last it.0) t db rows
