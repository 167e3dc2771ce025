use Rattle.std.proofs.Common.{◌∷◌, []}
use Rattle.land_tables_schema.proofs.MomentRows.{listing}
use Rattle.sqlite.specs.Term.{col}
use Rattle.land_tables_rows.proofs.listing.tables.MomentListed.text.Goals as goal

pub returns : goal.returns
returns c = (col 1 0 ∷ col 1 2 ∷ [], listing)
