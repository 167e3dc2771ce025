-- The history that all tables hold after one of them is rewritten.
use Rattle.std.proofs.Common.{◌≡◌, ◌≢◌, ℕ, List, arith}
use Rattle.land_tables_history.specs.declared.history.History.{History}
use Rattle.land_tables_history.specs.declared.moment.Moment.{Moment}
use Rattle.land_tables_history.specs.declared.version.Version.{Version}
use Rattle.land_tables_rows.specs.Mandate.Writing.{mandate_reading}
use Rattle.land_tables_rows.specs.Member.Writing.{member_reading}
use Rattle.land_tables_rows.specs.Moment.Writing.{HoldsMoments}
use Rattle.land_tables_rows.specs.Mutation.Writing.{mutation_reading}
use Rattle.land_tables_rows.specs.Naming.Writing.{naming_reading}
use Rattle.land_tables_rows.specs.Parcel.Writing.{parcel_reading}
use Rattle.land_tables_rows.specs.Party.Writing.{party_reading}
use Rattle.land_tables_rows.specs.Role.Writing.{role_reading}
use Rattle.land_tables_rows.specs.Rrr.Writing.{rrr_reading}
use Rattle.land_tables_rows.specs.Source.Writing.{source_reading}
use Rattle.land_tables_rows.specs.Unit.Writing.{unit_reading}
use Rattle.land_tables_rows.specs.Writing.History.{HoldsHistory}
use Rattle.land_tables_rows.specs.Writing.Holding.{Keeps, Reading}
use Rattle.land_tables_rows.specs.Writing.Laws.{TableChangesKeepHistory, HoldsWith}
use Rattle.land_tables_schema.proofs.Kept.{are_kept}
use Rattle.land_tables_schema.specs.Rows.Forms.{KeepsOthers}
use Rattle.land_tables_schema.specs.Tables as table
use Rattle.sqlite_schema.specs.declared.schema.Table.{Table}
use Rattle.sqlite_trees.specs.Tree.{Trees}

-- the parts of the history in the tables
data Part : Type 0 where
  Moments : Part
  Parties : Part
  Roles : Part
  Members : Part
  Units : Part
  Parcels : Part
  Rrrs : Part
  Sources : Part
  Mutations : Part
  Namings : Part
  Mandates : Part

-- the tree of a table
abbrev tree_of : Part → ℕ
tree_of Moments = 1
tree_of Parties = 2
tree_of Roles = 4
tree_of Members = 6
tree_of Units = 8
tree_of Parcels = 10
tree_of Rrrs = 12
tree_of Sources = 14
tree_of Mutations = 16
tree_of Namings = 18
tree_of Mandates = 20

-- the versions of a table
abbrev Holds : Part → Trees → List Moment → History → Type 0
Holds Moments db moments h = HoldsMoments db moments
Holds Parties db moments h = Keeps party_reading db h.parties
Holds Roles db moments h = Keeps role_reading db h.roles
Holds Members db moments h = Keeps member_reading db h.members
Holds Units db moments h = Keeps unit_reading db h.units
Holds Parcels db moments h = Keeps parcel_reading db h.parcels
Holds Rrrs db moments h = Keeps rrr_reading db h.rrrs
Holds Sources db moments h = Keeps source_reading db h.sources
Holds Mutations db moments h = Keeps mutation_reading db h.mutations
Holds Namings db moments h = Keeps naming_reading db h.namings
Holds Mandates db moments h = Keeps mandate_reading db h.mandates

each_held : {db : Trees} {moments : List Moment} {h : History} → HoldsHistory db moments h → (part : Part) → Holds part db moments h
each_held held Moments = held.the_moments
each_held held Parties = held.the_parties
each_held held Roles = held.the_roles
each_held held Members = held.the_members
each_held held Units = held.the_units
each_held held Parcels = held.the_parcels
each_held held Rrrs = held.the_rrrs
each_held held Sources = held.the_sources
each_held held Mutations = held.the_mutations
each_held held Namings = held.the_namings
each_held held Mandates = held.the_mandates

all_held : {db : Trees} {moments : List Moment} {h : History} → ((part : Part) → Holds part db moments h) → HoldsHistory db moments h
all_held each = record {
  the_moments = each Moments;
  the_parties = each Parties;
  the_roles = each Roles;
  the_members = each Members;
  the_units = each Units;
  the_parcels = each Parcels;
  the_rrrs = each Rrrs;
  the_sources = each Sources;
  the_mutations = each Mutations;
  the_namings = each Namings;
  the_mandates = each Mandates;
}

-- a table whose rows are unchanged holds the same versions
pub still_keeps : {X : Type 0} (reading : Reading X) (old new : Trees) (versions : List (Version X)) → new reading.table.tree ≡ old reading.table.tree → Keeps reading old versions → Keeps reading new versions
still_keeps reading old new versions same keeps = record { said = rw same keeps.said; numbered = rw same keeps.numbered }

still_holds : (old new : Trees) (moments : List Moment) (h : History) (part : Part) → new (tree_of part) ≡ old (tree_of part) → Holds part old moments h → Holds part new moments h
still_holds old new moments h Moments same held = rw same held
still_holds old new moments h Parties same held = still_keeps party_reading old new h.parties same held
still_holds old new moments h Roles same held = still_keeps role_reading old new h.roles same held
still_holds old new moments h Members same held = still_keeps member_reading old new h.members same held
still_holds old new moments h Units same held = still_keeps unit_reading old new h.units same held
still_holds old new moments h Parcels same held = still_keeps parcel_reading old new h.parcels same held
still_holds old new moments h Rrrs same held = still_keeps rrr_reading old new h.rrrs same held
still_holds old new moments h Sources same held = still_keeps source_reading old new h.sources same held
still_holds old new moments h Mutations same held = still_keeps mutation_reading old new h.mutations same held
still_holds old new moments h Namings same held = still_keeps naming_reading old new h.namings same held
still_holds old new moments h Mandates same held = still_keeps mandate_reading old new h.mandates same held

others_kept : (one : Table) (old new : Trees) → KeepsOthers one old new → (part : Part) → one.tree ≢ tree_of part → new (tree_of part) ≡ old (tree_of part)
others_kept one old new kept Moments = (are_kept one old new kept).moments
others_kept one old new kept Parties = (are_kept one old new kept).party
others_kept one old new kept Roles = (are_kept one old new kept).role
others_kept one old new kept Members = (are_kept one old new kept).member
others_kept one old new kept Units = (are_kept one old new kept).unit
others_kept one old new kept Parcels = (are_kept one old new kept).parcel
others_kept one old new kept Rrrs = (are_kept one old new kept).rrr
others_kept one old new kept Sources = (are_kept one old new kept).source
others_kept one old new kept Mutations = (are_kept one old new kept).mutation
others_kept one old new kept Namings = (are_kept one old new kept).names
others_kept one old new kept Mandates = (are_kept one old new kept).mandate

-- the versions of a table that a statement left unchanged
left : (one : Table) (old new : Trees) (moments : List Moment) (h : History) → HoldsHistory old moments h → KeepsOthers one old new → (part : Part) → one.tree ≢ tree_of part → Holds part new moments h
left one old new moments h held kept part other = still_holds old new moments h part (others_kept one old new kept part other) (each_held held part)

with_moments : (old new : Trees) (moments others : List Moment) (h : History) → HoldsHistory old moments h → KeepsOthers table.moments old new → HoldsMoments new others → HoldsHistory new others h
with_moments old new moments others h held kept here = all_held each
  where
    each : (part : Part) → Holds part new others h
    each Moments = here
    each part = left table.moments old new moments h held kept part (λ e. absurd (omega arith))

with_parties : HoldsWith party_reading (λ vs h. record h { parties = vs })
with_parties old new moments h vs held kept here = all_held each
  where
    each : (part : Part) → Holds part new moments (record h { parties = vs })
    each Parties = here
    each part = left table.party old new moments h held kept part (λ e. absurd (omega arith))

with_roles : HoldsWith role_reading (λ vs h. record h { roles = vs })
with_roles old new moments h vs held kept here = all_held each
  where
    each : (part : Part) → Holds part new moments (record h { roles = vs })
    each Roles = here
    each part = left table.role old new moments h held kept part (λ e. absurd (omega arith))

with_members : HoldsWith member_reading (λ vs h. record h { members = vs })
with_members old new moments h vs held kept here = all_held each
  where
    each : (part : Part) → Holds part new moments (record h { members = vs })
    each Members = here
    each part = left table.member old new moments h held kept part (λ e. absurd (omega arith))

with_units : HoldsWith unit_reading (λ vs h. record h { units = vs })
with_units old new moments h vs held kept here = all_held each
  where
    each : (part : Part) → Holds part new moments (record h { units = vs })
    each Units = here
    each part = left table.unit old new moments h held kept part (λ e. absurd (omega arith))

with_parcels : HoldsWith parcel_reading (λ vs h. record h { parcels = vs })
with_parcels old new moments h vs held kept here = all_held each
  where
    each : (part : Part) → Holds part new moments (record h { parcels = vs })
    each Parcels = here
    each part = left table.parcel old new moments h held kept part (λ e. absurd (omega arith))

with_rrrs : HoldsWith rrr_reading (λ vs h. record h { rrrs = vs })
with_rrrs old new moments h vs held kept here = all_held each
  where
    each : (part : Part) → Holds part new moments (record h { rrrs = vs })
    each Rrrs = here
    each part = left table.rrr old new moments h held kept part (λ e. absurd (omega arith))

with_sources : HoldsWith source_reading (λ vs h. record h { sources = vs })
with_sources old new moments h vs held kept here = all_held each
  where
    each : (part : Part) → Holds part new moments (record h { sources = vs })
    each Sources = here
    each part = left table.source old new moments h held kept part (λ e. absurd (omega arith))

with_mutations : HoldsWith mutation_reading (λ vs h. record h { mutations = vs })
with_mutations old new moments h vs held kept here = all_held each
  where
    each : (part : Part) → Holds part new moments (record h { mutations = vs })
    each Mutations = here
    each part = left table.mutation old new moments h held kept part (λ e. absurd (omega arith))

with_namings : HoldsWith naming_reading (λ vs h. record h { namings = vs })
with_namings old new moments h vs held kept here = all_held each
  where
    each : (part : Part) → Holds part new moments (record h { namings = vs })
    each Namings = here
    each part = left table.names old new moments h held kept part (λ e. absurd (omega arith))

with_mandates : HoldsWith mandate_reading (λ vs h. record h { mandates = vs })
with_mandates old new moments h vs held kept here = all_held each
  where
    each : (part : Part) → Holds part new moments (record h { mandates = vs })
    each Mandates = here
    each part = left table.mandate old new moments h held kept part (λ e. absurd (omega arith))

pub table_changes_keep_history : TableChangesKeepHistory
table_changes_keep_history = record {
  moments = with_moments;
  parties = with_parties;
  roles = with_roles;
  members = with_members;
  units = with_units;
  parcels = with_parcels;
  rrrs = with_rrrs;
  sources = with_sources;
  mutations = with_mutations;
  namings = with_namings;
  mandates = with_mandates;
}
