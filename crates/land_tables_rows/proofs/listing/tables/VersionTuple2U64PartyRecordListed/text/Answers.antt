use Rattle.land_tables_schema.proofs.Parties.{listing}
use Rattle.land_tables_schema.proofs.Versions.{columns_of}
use Rattle.land_tables_rows.proofs.listing.tables.VersionTuple2U64PartyRecordListed.text.Goals as goal

pub returns : goal.returns
returns c = (columns_of 1 1 5, listing)
