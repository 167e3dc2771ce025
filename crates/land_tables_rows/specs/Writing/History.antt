-- The content of all tables, by the decoded rows.
use Rattle.std.specs.Prelude.{◌≡◌, List, []}
use Rattle.land_tables_history.specs.declared.history.History.{History}
use Rattle.land_tables_history.specs.declared.moment.Moment.{Moment}
use Rattle.land_tables_rows.specs.Mandate.Writing.{mandate_reading}
use Rattle.land_tables_rows.specs.Member.Writing.{member_reading}
use Rattle.land_tables_rows.specs.Moment.Writing.{HoldsMoments}
use Rattle.land_tables_rows.specs.Mutation.Writing.{mutation_reading}
use Rattle.land_tables_rows.specs.Naming.Writing.{naming_reading}
use Rattle.land_tables_rows.specs.Parcel.Writing.{parcel_reading}
use Rattle.land_tables_rows.specs.Party.Writing.{party_reading}
use Rattle.land_tables_rows.specs.Role.Writing.{role_reading}
use Rattle.land_tables_rows.specs.Rrr.Writing.{rrr_reading}
use Rattle.land_tables_rows.specs.Source.Writing.{source_reading}
use Rattle.land_tables_rows.specs.Unit.Writing.{unit_reading}
use Rattle.land_tables_rows.specs.Writing.Holding.{Keeps}
use Rattle.sqlite_trees.specs.Tree.{Trees}

-- the tables hold exactly these moments and the versions of this history
pub record HoldsHistory (db : Trees) (moments : List Moment) (history : History) : Type 0 where
  pub the_moments : HoldsMoments db moments
  pub the_parties : Keeps party_reading db history.parties
  pub the_roles : Keeps role_reading db history.roles
  pub the_members : Keeps member_reading db history.members
  pub the_units : Keeps unit_reading db history.units
  pub the_parcels : Keeps parcel_reading db history.parcels
  pub the_rrrs : Keeps rrr_reading db history.rrrs
  pub the_sources : Keeps source_reading db history.sources
  pub the_mutations : Keeps mutation_reading db history.mutations
  pub the_namings : Keeps naming_reading db history.namings
  pub the_mandates : Keeps mandate_reading db history.mandates

-- the tables of schema version 1 hold exactly these moments and the versions of this history, which has no
-- mandates
pub record HoldsHistoryV1 (db : Trees) (moments : List Moment) (history : History) : Type 0 where
  pub the_moments : HoldsMoments db moments
  pub the_parties : Keeps party_reading db history.parties
  pub the_roles : Keeps role_reading db history.roles
  pub the_members : Keeps member_reading db history.members
  pub the_units : Keeps unit_reading db history.units
  pub the_parcels : Keeps parcel_reading db history.parcels
  pub the_rrrs : Keeps rrr_reading db history.rrrs
  pub the_sources : Keeps source_reading db history.sources
  pub the_mutations : Keeps mutation_reading db history.mutations
  pub the_namings : Keeps naming_reading db history.namings
  pub none : history.mandates ≡ []
