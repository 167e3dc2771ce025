-- The rows of three tables at a time, decoded.
use Rattle.land_tables_rows.specs.Listing.Reading.{Says, members, mutations, namings, parcels, parties, roles}
use Rattle.land_tables_rows.specs.Listing.Reading.{rrrs, sources, units}
use Rattle.land_tables_rows.specs.declared.listing.history.UnitVersions.{UnitVersions}
use Rattle.land_tables_rows.specs.declared.listing.history.SourceVersions.{SourceVersions}
use Rattle.land_tables_rows.specs.declared.listing.history.PartyVersions.{PartyVersions}
use Rattle.sqlite_trees.specs.Tree.{Trees}

-- the tables of parties, roles and members decode to these versions
pub record DecodesParties (db : Trees) (it : PartyVersions) : Type 0 where
  pub parties : Says parties db it.parties
  pub roles : Says roles db it.roles
  pub members : Says members db it.members

-- the tables of units, parcels and entries decode to these versions
pub record DecodesUnits (db : Trees) (it : UnitVersions) : Type 0 where
  pub units : Says units db it.units
  pub parcels : Says parcels db it.parcels
  pub rrrs : Says rrrs db it.rrrs

-- the tables of sources, mutations and their units decode to these versions
pub record DecodesSources (db : Trees) (it : SourceVersions) : Type 0 where
  pub sources : Says sources db it.sources
  pub mutations : Says mutations db it.mutations
  pub namings : Says namings db it.namings
