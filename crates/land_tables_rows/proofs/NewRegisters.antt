-- The rows of a new register decode to its history.
use Rattle.std.proofs.Common.{◌≡◌, ℕ, pos, List, [], ◌∷◌, ◌++◌, true, codes, Ok, refl, ap, arith}
use Rattle.std.proofs.lemmas.Int.{ints}
use Rattle.std.proofs.lemmas.Str.{IsUtf8-from_is_utf8}
use Rattle.std.specs.Str.{IsUtf8, chars, is_utf8}
use Rattle.land_core.specs.Grants.{grant_to}
use Rattle.land_core.specs.Numbers.{IsMoment}
use Rattle.land_core.specs.declared.kind.PartyKind.TheVariants.{NonNaturalPerson}
use Rattle.land_core.specs.declared.party.PartyRecord.{PartyRecord}
use Rattle.land_core.specs.declared.role.Role.TheVariants.{StateAdministrator}
use Rattle.land_tables_history.specs.Changed.{opened_version}
use Rattle.land_tables_history.specs.Open.{never}
use Rattle.land_tables_rows.proofs.Editions as edition
use Rattle.land_tables_rows.proofs.Lives.{begun_said}
use Rattle.land_tables_rows.proofs.Moments as moment
use Rattle.land_tables_rows.proofs.Parties as party
use Rattle.land_tables_rows.proofs.Roles as role
use Rattle.land_tables_rows.proofs.Tellings.{tells_from}
use Rattle.land_tables_rows.proofs.Writes.{keeps_from}
use Rattle.land_tables_rows.specs.Edition.Reading.{edition_in}
use Rattle.land_tables_rows.specs.Edition.Writing.{v2_edition}
use Rattle.land_tables_rows.specs.Mandate.Reading.{mandate_in}
use Rattle.land_tables_rows.specs.Member.Reading.{member_in}
use Rattle.land_tables_rows.specs.Moment.Reading.{moment_row_in}
use Rattle.land_tables_rows.specs.Mutation.Reading.{mutation_in}
use Rattle.land_tables_rows.specs.Naming.Reading.{naming_in}
use Rattle.land_tables_rows.specs.Parcel.Reading.{parcel_in}
use Rattle.land_tables_rows.specs.Party.Reading.{party_in}
use Rattle.land_tables_rows.specs.Role.Reading.{role_grant_in}
use Rattle.land_tables_rows.specs.Rrr.Reading.{rrr_in}
use Rattle.land_tables_rows.specs.Source.Reading.{source_in}
use Rattle.land_tables_rows.specs.Unit.Reading.{unit_in}
use Rattle.land_tables_rows.specs.Writing.History.{HoldsHistory}
use Rattle.land_tables_rows.specs.Writing.Laws.{NewRowsHoldNewRegister}
use Rattle.land_tables_rows.specs.Writing.NewHistory.{new_history, new_moments}
use Rattle.land_tables_schema.specs.Rows.Held.{HoldsRows, new_rows}
use Rattle.land_tables_schema.specs.Rows.Edition as edition_rows
use Rattle.land_tables_schema.specs.Rows.Mandate.{mandate_cells}
use Rattle.land_tables_schema.specs.Rows.Member.{member_cells}
use Rattle.land_tables_schema.specs.Rows.Moments.{moment_row}
use Rattle.land_tables_schema.specs.Rows.Mutation.{mutation_cells}
use Rattle.land_tables_schema.specs.Rows.Names.{names_cells}
use Rattle.land_tables_schema.specs.Rows.Parcel.{parcel_cells}
use Rattle.land_tables_schema.specs.Rows.Party.{party_cells}
use Rattle.land_tables_schema.specs.Rows.Role.{role_cells}
use Rattle.land_tables_schema.specs.Rows.Rrr.{rrr_cells}
use Rattle.land_tables_schema.specs.Rows.Source.{source_cells}
use Rattle.land_tables_schema.specs.Rows.Unit.{unit_cells}
use Rattle.land_tables_schema.specs.Tables as table
use Rattle.sqlite_trees.specs.Tree.{Trees}
use Rattle.sqlite_value.specs.declared.value.Value.TheVariants.{Int}

text_is : (t : List ℕ) → is_utf8 t ≡ true → IsUtf8 t
text_is t is = IsUtf8-from_is_utf8 t is

first_moment : IsMoment (pos 0)
first_moment = (omega (arith, ints), omega (arith, ints))

abbrev office : PartyRecord
office = record { kind = NonNaturalPerson; name = codes "Land Office" }

office_said : party_in (party_cells (party.row_of 1 office) ++ Int (pos 0) ∷ Int never ∷ []) ≡ Ok (opened_version (1, office) (pos 0))
unfolding is_utf8 chars lib.Utf8.encode
office_said = begun_said table.party 3 party_cells party_in party.what party.is_reading (party.row_of 1 office) (1, office) (pos 0)
    (party.what_is 1 office refl (text_is (codes "Land Office") refl) (text_is (codes "nonNaturalPerson") refl)) first_moment

role_said : role_grant_in (role_cells (role.row_of (grant_to 1 StateAdministrator)) ++ Int (pos 0) ∷ Int never ∷ []) ≡ Ok (opened_version (grant_to 1 StateAdministrator) (pos 0))
unfolding is_utf8 chars lib.Utf8.encode
role_said = begun_said table.role 2 role_cells role_grant_in role.what role.is_reading (role.row_of (grant_to 1 StateAdministrator)) (grant_to 1 StateAdministrator) (pos 0)
    (role.what_is (grant_to 1 StateAdministrator) refl (text_is (codes "stateAdministrator") refl)) first_moment

history_held : (db : Trees) → HoldsRows db new_rows → HoldsHistory db new_moments new_history
history_held db held = record {
  the_moments = tells_from table.moments moment_row moment_row_in db new_rows.moments new_moments (ap (λ r. r ∷ []) (moment.reads (record { stamp = pos 0; next = 2 }) first_moment refl)) held.the_moments;
  the_parties = keeps_from table.party 3 party_cells party_in db new_rows.parties new_history.parties (ap (λ r. r ∷ []) office_said) held.the_parties;
  the_roles = keeps_from table.role 2 role_cells role_grant_in db new_rows.roles new_history.roles (ap (λ r. r ∷ []) role_said) held.the_roles;
  the_members = keeps_from table.member 4 member_cells member_in db [] [] refl held.the_members;
  the_units = keeps_from table.unit 3 unit_cells unit_in db [] [] refl held.the_units;
  the_parcels = keeps_from table.parcel 5 parcel_cells parcel_in db [] [] refl held.the_parcels;
  the_rrrs = keeps_from table.rrr 11 rrr_cells rrr_in db [] [] refl held.the_rrrs;
  the_sources = keeps_from table.source 3 source_cells source_in db [] [] refl held.the_sources;
  the_mutations = keeps_from table.mutation 8 mutation_cells mutation_in db [] [] refl held.the_mutations;
  the_namings = keeps_from table.names 2 names_cells naming_in db [] [] refl held.the_namings;
  the_mandates = keeps_from table.mandate 2 mandate_cells mandate_in db [] [] refl held.the_mandates;
}

pub new_rows_hold_new_register : NewRowsHoldNewRegister
new_rows_hold_new_register db held = record {
  history = history_held db held;
  editions = tells_from table.edition edition_rows.edition_row edition_in db new_rows.editions (v2_edition ∷ []) (ap (λ r. r ∷ []) edition.reads) held.the_editions;
}
