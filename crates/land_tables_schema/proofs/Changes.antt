-- The content of all tables after a change of the rows of one.
use Rattle.std.proofs.Common.{List, arith}
use Rattle.land_tables_schema.proofs.Kept.{are_kept, still_holds, still_lists}
use Rattle.land_tables_schema.specs.Rows.Held.{HoldsRows, Rows}
use Rattle.land_tables_schema.specs.Rows.Edition.{Edition, edition_row}
use Rattle.land_tables_schema.specs.Rows.Forms.{Holds, Lists, KeepsOthers}
use Rattle.land_tables_schema.specs.Rows.Mandate.{MandateRow, mandate_form}
use Rattle.land_tables_schema.specs.Rows.Member.{MemberRow, member_form}
use Rattle.land_tables_schema.specs.Rows.Moments.{Moment, moment_row}
use Rattle.land_tables_schema.specs.Rows.Mutation.{MutationRow, mutation_form}
use Rattle.land_tables_schema.specs.Rows.Names.{NamesRow, names_form}
use Rattle.land_tables_schema.specs.Rows.Parcel.{ParcelRow, parcel_form}
use Rattle.land_tables_schema.specs.Rows.Party.{PartyRow, party_form}
use Rattle.land_tables_schema.specs.Rows.Role.{RoleRow, role_form}
use Rattle.land_tables_schema.specs.Rows.Rrr.{RrrRow, rrr_form}
use Rattle.land_tables_schema.specs.Rows.Source.{SourceRow, source_form}
use Rattle.land_tables_schema.specs.Rows.Unit.{UnitRow, unit_form}
use Rattle.land_tables_schema.specs.Rows.Versions.{Version}
use Rattle.land_tables_schema.specs.Tables as table
use Rattle.sqlite_trees.specs.Tree.{Trees}

module _ (old new : Trees) (rows : Rows) (held : HoldsRows old rows) where
  pub with_editions : (xs : List Edition) → KeepsOthers table.edition old new → Lists table.edition edition_row new xs → HoldsRows new (record rows { editions = xs })
  with_editions xs kept here =
      let k = are_kept table.edition old new kept in
      record {
        the_editions = here;
        the_moments = still_lists table.moments moment_row old new rows.moments (k.moments (λ e. absurd (omega arith))) held.the_moments;
        the_parties = still_holds party_form old new rows.parties (k.party (λ e. absurd (omega arith))) held.the_parties;
        the_roles = still_holds role_form old new rows.roles (k.role (λ e. absurd (omega arith))) held.the_roles;
        the_members = still_holds member_form old new rows.members (k.member (λ e. absurd (omega arith))) held.the_members;
        the_units = still_holds unit_form old new rows.units (k.unit (λ e. absurd (omega arith))) held.the_units;
        the_parcels = still_holds parcel_form old new rows.parcels (k.parcel (λ e. absurd (omega arith))) held.the_parcels;
        the_rrrs = still_holds rrr_form old new rows.rrrs (k.rrr (λ e. absurd (omega arith))) held.the_rrrs;
        the_sources = still_holds source_form old new rows.sources (k.source (λ e. absurd (omega arith))) held.the_sources;
        the_mutations = still_holds mutation_form old new rows.mutations (k.mutation (λ e. absurd (omega arith))) held.the_mutations;
        the_namings = still_holds names_form old new rows.namings (k.names (λ e. absurd (omega arith))) held.the_namings;
        the_mandates = still_holds mandate_form old new rows.mandates (k.mandate (λ e. absurd (omega arith))) held.the_mandates;
      }

  pub with_moments : (xs : List Moment) → KeepsOthers table.moments old new → Lists table.moments moment_row new xs → HoldsRows new (record rows { moments = xs })
  with_moments xs kept here =
      let k = are_kept table.moments old new kept in
      record {
        the_editions = still_lists table.edition edition_row old new rows.editions (k.edition (λ e. absurd (omega arith))) held.the_editions;
        the_moments = here;
        the_parties = still_holds party_form old new rows.parties (k.party (λ e. absurd (omega arith))) held.the_parties;
        the_roles = still_holds role_form old new rows.roles (k.role (λ e. absurd (omega arith))) held.the_roles;
        the_members = still_holds member_form old new rows.members (k.member (λ e. absurd (omega arith))) held.the_members;
        the_units = still_holds unit_form old new rows.units (k.unit (λ e. absurd (omega arith))) held.the_units;
        the_parcels = still_holds parcel_form old new rows.parcels (k.parcel (λ e. absurd (omega arith))) held.the_parcels;
        the_rrrs = still_holds rrr_form old new rows.rrrs (k.rrr (λ e. absurd (omega arith))) held.the_rrrs;
        the_sources = still_holds source_form old new rows.sources (k.source (λ e. absurd (omega arith))) held.the_sources;
        the_mutations = still_holds mutation_form old new rows.mutations (k.mutation (λ e. absurd (omega arith))) held.the_mutations;
        the_namings = still_holds names_form old new rows.namings (k.names (λ e. absurd (omega arith))) held.the_namings;
        the_mandates = still_holds mandate_form old new rows.mandates (k.mandate (λ e. absurd (omega arith))) held.the_mandates;
      }

  pub with_parties : (xs : List (Version PartyRow)) → KeepsOthers table.party old new → Holds party_form new xs → HoldsRows new (record rows { parties = xs })
  with_parties xs kept here =
      let k = are_kept table.party old new kept in
      record {
        the_editions = still_lists table.edition edition_row old new rows.editions (k.edition (λ e. absurd (omega arith))) held.the_editions;
        the_moments = still_lists table.moments moment_row old new rows.moments (k.moments (λ e. absurd (omega arith))) held.the_moments;
        the_parties = here;
        the_roles = still_holds role_form old new rows.roles (k.role (λ e. absurd (omega arith))) held.the_roles;
        the_members = still_holds member_form old new rows.members (k.member (λ e. absurd (omega arith))) held.the_members;
        the_units = still_holds unit_form old new rows.units (k.unit (λ e. absurd (omega arith))) held.the_units;
        the_parcels = still_holds parcel_form old new rows.parcels (k.parcel (λ e. absurd (omega arith))) held.the_parcels;
        the_rrrs = still_holds rrr_form old new rows.rrrs (k.rrr (λ e. absurd (omega arith))) held.the_rrrs;
        the_sources = still_holds source_form old new rows.sources (k.source (λ e. absurd (omega arith))) held.the_sources;
        the_mutations = still_holds mutation_form old new rows.mutations (k.mutation (λ e. absurd (omega arith))) held.the_mutations;
        the_namings = still_holds names_form old new rows.namings (k.names (λ e. absurd (omega arith))) held.the_namings;
        the_mandates = still_holds mandate_form old new rows.mandates (k.mandate (λ e. absurd (omega arith))) held.the_mandates;
      }

  pub with_roles : (xs : List (Version RoleRow)) → KeepsOthers table.role old new → Holds role_form new xs → HoldsRows new (record rows { roles = xs })
  with_roles xs kept here =
      let k = are_kept table.role old new kept in
      record {
        the_editions = still_lists table.edition edition_row old new rows.editions (k.edition (λ e. absurd (omega arith))) held.the_editions;
        the_moments = still_lists table.moments moment_row old new rows.moments (k.moments (λ e. absurd (omega arith))) held.the_moments;
        the_parties = still_holds party_form old new rows.parties (k.party (λ e. absurd (omega arith))) held.the_parties;
        the_roles = here;
        the_members = still_holds member_form old new rows.members (k.member (λ e. absurd (omega arith))) held.the_members;
        the_units = still_holds unit_form old new rows.units (k.unit (λ e. absurd (omega arith))) held.the_units;
        the_parcels = still_holds parcel_form old new rows.parcels (k.parcel (λ e. absurd (omega arith))) held.the_parcels;
        the_rrrs = still_holds rrr_form old new rows.rrrs (k.rrr (λ e. absurd (omega arith))) held.the_rrrs;
        the_sources = still_holds source_form old new rows.sources (k.source (λ e. absurd (omega arith))) held.the_sources;
        the_mutations = still_holds mutation_form old new rows.mutations (k.mutation (λ e. absurd (omega arith))) held.the_mutations;
        the_namings = still_holds names_form old new rows.namings (k.names (λ e. absurd (omega arith))) held.the_namings;
        the_mandates = still_holds mandate_form old new rows.mandates (k.mandate (λ e. absurd (omega arith))) held.the_mandates;
      }

  pub with_members : (xs : List (Version MemberRow)) → KeepsOthers table.member old new → Holds member_form new xs → HoldsRows new (record rows { members = xs })
  with_members xs kept here =
      let k = are_kept table.member old new kept in
      record {
        the_editions = still_lists table.edition edition_row old new rows.editions (k.edition (λ e. absurd (omega arith))) held.the_editions;
        the_moments = still_lists table.moments moment_row old new rows.moments (k.moments (λ e. absurd (omega arith))) held.the_moments;
        the_parties = still_holds party_form old new rows.parties (k.party (λ e. absurd (omega arith))) held.the_parties;
        the_roles = still_holds role_form old new rows.roles (k.role (λ e. absurd (omega arith))) held.the_roles;
        the_members = here;
        the_units = still_holds unit_form old new rows.units (k.unit (λ e. absurd (omega arith))) held.the_units;
        the_parcels = still_holds parcel_form old new rows.parcels (k.parcel (λ e. absurd (omega arith))) held.the_parcels;
        the_rrrs = still_holds rrr_form old new rows.rrrs (k.rrr (λ e. absurd (omega arith))) held.the_rrrs;
        the_sources = still_holds source_form old new rows.sources (k.source (λ e. absurd (omega arith))) held.the_sources;
        the_mutations = still_holds mutation_form old new rows.mutations (k.mutation (λ e. absurd (omega arith))) held.the_mutations;
        the_namings = still_holds names_form old new rows.namings (k.names (λ e. absurd (omega arith))) held.the_namings;
        the_mandates = still_holds mandate_form old new rows.mandates (k.mandate (λ e. absurd (omega arith))) held.the_mandates;
      }

  pub with_units : (xs : List (Version UnitRow)) → KeepsOthers table.unit old new → Holds unit_form new xs → HoldsRows new (record rows { units = xs })
  with_units xs kept here =
      let k = are_kept table.unit old new kept in
      record {
        the_editions = still_lists table.edition edition_row old new rows.editions (k.edition (λ e. absurd (omega arith))) held.the_editions;
        the_moments = still_lists table.moments moment_row old new rows.moments (k.moments (λ e. absurd (omega arith))) held.the_moments;
        the_parties = still_holds party_form old new rows.parties (k.party (λ e. absurd (omega arith))) held.the_parties;
        the_roles = still_holds role_form old new rows.roles (k.role (λ e. absurd (omega arith))) held.the_roles;
        the_members = still_holds member_form old new rows.members (k.member (λ e. absurd (omega arith))) held.the_members;
        the_units = here;
        the_parcels = still_holds parcel_form old new rows.parcels (k.parcel (λ e. absurd (omega arith))) held.the_parcels;
        the_rrrs = still_holds rrr_form old new rows.rrrs (k.rrr (λ e. absurd (omega arith))) held.the_rrrs;
        the_sources = still_holds source_form old new rows.sources (k.source (λ e. absurd (omega arith))) held.the_sources;
        the_mutations = still_holds mutation_form old new rows.mutations (k.mutation (λ e. absurd (omega arith))) held.the_mutations;
        the_namings = still_holds names_form old new rows.namings (k.names (λ e. absurd (omega arith))) held.the_namings;
        the_mandates = still_holds mandate_form old new rows.mandates (k.mandate (λ e. absurd (omega arith))) held.the_mandates;
      }

  pub with_parcels : (xs : List (Version ParcelRow)) → KeepsOthers table.parcel old new → Holds parcel_form new xs → HoldsRows new (record rows { parcels = xs })
  with_parcels xs kept here =
      let k = are_kept table.parcel old new kept in
      record {
        the_editions = still_lists table.edition edition_row old new rows.editions (k.edition (λ e. absurd (omega arith))) held.the_editions;
        the_moments = still_lists table.moments moment_row old new rows.moments (k.moments (λ e. absurd (omega arith))) held.the_moments;
        the_parties = still_holds party_form old new rows.parties (k.party (λ e. absurd (omega arith))) held.the_parties;
        the_roles = still_holds role_form old new rows.roles (k.role (λ e. absurd (omega arith))) held.the_roles;
        the_members = still_holds member_form old new rows.members (k.member (λ e. absurd (omega arith))) held.the_members;
        the_units = still_holds unit_form old new rows.units (k.unit (λ e. absurd (omega arith))) held.the_units;
        the_parcels = here;
        the_rrrs = still_holds rrr_form old new rows.rrrs (k.rrr (λ e. absurd (omega arith))) held.the_rrrs;
        the_sources = still_holds source_form old new rows.sources (k.source (λ e. absurd (omega arith))) held.the_sources;
        the_mutations = still_holds mutation_form old new rows.mutations (k.mutation (λ e. absurd (omega arith))) held.the_mutations;
        the_namings = still_holds names_form old new rows.namings (k.names (λ e. absurd (omega arith))) held.the_namings;
        the_mandates = still_holds mandate_form old new rows.mandates (k.mandate (λ e. absurd (omega arith))) held.the_mandates;
      }

  pub with_rrrs : (xs : List (Version RrrRow)) → KeepsOthers table.rrr old new → Holds rrr_form new xs → HoldsRows new (record rows { rrrs = xs })
  with_rrrs xs kept here =
      let k = are_kept table.rrr old new kept in
      record {
        the_editions = still_lists table.edition edition_row old new rows.editions (k.edition (λ e. absurd (omega arith))) held.the_editions;
        the_moments = still_lists table.moments moment_row old new rows.moments (k.moments (λ e. absurd (omega arith))) held.the_moments;
        the_parties = still_holds party_form old new rows.parties (k.party (λ e. absurd (omega arith))) held.the_parties;
        the_roles = still_holds role_form old new rows.roles (k.role (λ e. absurd (omega arith))) held.the_roles;
        the_members = still_holds member_form old new rows.members (k.member (λ e. absurd (omega arith))) held.the_members;
        the_units = still_holds unit_form old new rows.units (k.unit (λ e. absurd (omega arith))) held.the_units;
        the_parcels = still_holds parcel_form old new rows.parcels (k.parcel (λ e. absurd (omega arith))) held.the_parcels;
        the_rrrs = here;
        the_sources = still_holds source_form old new rows.sources (k.source (λ e. absurd (omega arith))) held.the_sources;
        the_mutations = still_holds mutation_form old new rows.mutations (k.mutation (λ e. absurd (omega arith))) held.the_mutations;
        the_namings = still_holds names_form old new rows.namings (k.names (λ e. absurd (omega arith))) held.the_namings;
        the_mandates = still_holds mandate_form old new rows.mandates (k.mandate (λ e. absurd (omega arith))) held.the_mandates;
      }

  pub with_sources : (xs : List (Version SourceRow)) → KeepsOthers table.source old new → Holds source_form new xs → HoldsRows new (record rows { sources = xs })
  with_sources xs kept here =
      let k = are_kept table.source old new kept in
      record {
        the_editions = still_lists table.edition edition_row old new rows.editions (k.edition (λ e. absurd (omega arith))) held.the_editions;
        the_moments = still_lists table.moments moment_row old new rows.moments (k.moments (λ e. absurd (omega arith))) held.the_moments;
        the_parties = still_holds party_form old new rows.parties (k.party (λ e. absurd (omega arith))) held.the_parties;
        the_roles = still_holds role_form old new rows.roles (k.role (λ e. absurd (omega arith))) held.the_roles;
        the_members = still_holds member_form old new rows.members (k.member (λ e. absurd (omega arith))) held.the_members;
        the_units = still_holds unit_form old new rows.units (k.unit (λ e. absurd (omega arith))) held.the_units;
        the_parcels = still_holds parcel_form old new rows.parcels (k.parcel (λ e. absurd (omega arith))) held.the_parcels;
        the_rrrs = still_holds rrr_form old new rows.rrrs (k.rrr (λ e. absurd (omega arith))) held.the_rrrs;
        the_sources = here;
        the_mutations = still_holds mutation_form old new rows.mutations (k.mutation (λ e. absurd (omega arith))) held.the_mutations;
        the_namings = still_holds names_form old new rows.namings (k.names (λ e. absurd (omega arith))) held.the_namings;
        the_mandates = still_holds mandate_form old new rows.mandates (k.mandate (λ e. absurd (omega arith))) held.the_mandates;
      }

  pub with_mutations : (xs : List (Version MutationRow)) → KeepsOthers table.mutation old new → Holds mutation_form new xs → HoldsRows new (record rows { mutations = xs })
  with_mutations xs kept here =
      let k = are_kept table.mutation old new kept in
      record {
        the_editions = still_lists table.edition edition_row old new rows.editions (k.edition (λ e. absurd (omega arith))) held.the_editions;
        the_moments = still_lists table.moments moment_row old new rows.moments (k.moments (λ e. absurd (omega arith))) held.the_moments;
        the_parties = still_holds party_form old new rows.parties (k.party (λ e. absurd (omega arith))) held.the_parties;
        the_roles = still_holds role_form old new rows.roles (k.role (λ e. absurd (omega arith))) held.the_roles;
        the_members = still_holds member_form old new rows.members (k.member (λ e. absurd (omega arith))) held.the_members;
        the_units = still_holds unit_form old new rows.units (k.unit (λ e. absurd (omega arith))) held.the_units;
        the_parcels = still_holds parcel_form old new rows.parcels (k.parcel (λ e. absurd (omega arith))) held.the_parcels;
        the_rrrs = still_holds rrr_form old new rows.rrrs (k.rrr (λ e. absurd (omega arith))) held.the_rrrs;
        the_sources = still_holds source_form old new rows.sources (k.source (λ e. absurd (omega arith))) held.the_sources;
        the_mutations = here;
        the_namings = still_holds names_form old new rows.namings (k.names (λ e. absurd (omega arith))) held.the_namings;
        the_mandates = still_holds mandate_form old new rows.mandates (k.mandate (λ e. absurd (omega arith))) held.the_mandates;
      }

  pub with_namings : (xs : List (Version NamesRow)) → KeepsOthers table.names old new → Holds names_form new xs → HoldsRows new (record rows { namings = xs })
  with_namings xs kept here =
      let k = are_kept table.names old new kept in
      record {
        the_editions = still_lists table.edition edition_row old new rows.editions (k.edition (λ e. absurd (omega arith))) held.the_editions;
        the_moments = still_lists table.moments moment_row old new rows.moments (k.moments (λ e. absurd (omega arith))) held.the_moments;
        the_parties = still_holds party_form old new rows.parties (k.party (λ e. absurd (omega arith))) held.the_parties;
        the_roles = still_holds role_form old new rows.roles (k.role (λ e. absurd (omega arith))) held.the_roles;
        the_members = still_holds member_form old new rows.members (k.member (λ e. absurd (omega arith))) held.the_members;
        the_units = still_holds unit_form old new rows.units (k.unit (λ e. absurd (omega arith))) held.the_units;
        the_parcels = still_holds parcel_form old new rows.parcels (k.parcel (λ e. absurd (omega arith))) held.the_parcels;
        the_rrrs = still_holds rrr_form old new rows.rrrs (k.rrr (λ e. absurd (omega arith))) held.the_rrrs;
        the_sources = still_holds source_form old new rows.sources (k.source (λ e. absurd (omega arith))) held.the_sources;
        the_mutations = still_holds mutation_form old new rows.mutations (k.mutation (λ e. absurd (omega arith))) held.the_mutations;
        the_namings = here;
        the_mandates = still_holds mandate_form old new rows.mandates (k.mandate (λ e. absurd (omega arith))) held.the_mandates;
      }

  pub with_mandates : (xs : List (Version MandateRow)) → KeepsOthers table.mandate old new → Holds mandate_form new xs → HoldsRows new (record rows { mandates = xs })
  with_mandates xs kept here =
      let k = are_kept table.mandate old new kept in
      record {
        the_editions = still_lists table.edition edition_row old new rows.editions (k.edition (λ e. absurd (omega arith))) held.the_editions;
        the_moments = still_lists table.moments moment_row old new rows.moments (k.moments (λ e. absurd (omega arith))) held.the_moments;
        the_parties = still_holds party_form old new rows.parties (k.party (λ e. absurd (omega arith))) held.the_parties;
        the_roles = still_holds role_form old new rows.roles (k.role (λ e. absurd (omega arith))) held.the_roles;
        the_members = still_holds member_form old new rows.members (k.member (λ e. absurd (omega arith))) held.the_members;
        the_units = still_holds unit_form old new rows.units (k.unit (λ e. absurd (omega arith))) held.the_units;
        the_parcels = still_holds parcel_form old new rows.parcels (k.parcel (λ e. absurd (omega arith))) held.the_parcels;
        the_rrrs = still_holds rrr_form old new rows.rrrs (k.rrr (λ e. absurd (omega arith))) held.the_rrrs;
        the_sources = still_holds source_form old new rows.sources (k.source (λ e. absurd (omega arith))) held.the_sources;
        the_mutations = still_holds mutation_form old new rows.mutations (k.mutation (λ e. absurd (omega arith))) held.the_mutations;
        the_namings = still_holds names_form old new rows.namings (k.names (λ e. absurd (omega arith))) held.the_namings;
        the_mandates = here;
      }
