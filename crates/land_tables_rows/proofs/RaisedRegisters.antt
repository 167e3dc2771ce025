-- A register that is migrated from schema version 1 to 2 holds the same history.
use Rattle.std.proofs.Common.{◌≡◌, ◌≢◌, ◌∙◌, ℕ, List, [], ◌∷◌, map, Ok, Result, IsPermutation, refl, sym, ap, ap₂, subst, arith}
use Rattle.std.proofs.lemmas.List.Sorted.{IsPermutation-refl}
use Rattle.land_tables_history.specs.declared.history.History.{History}
use Rattle.land_tables_history.specs.declared.moment.Moment.{Moment}
use Rattle.land_tables_rows.proofs.Bounds.{same_ok}
use Rattle.land_tables_rows.proofs.Editions as edition
use Rattle.land_tables_rows.proofs.Histories.{still_keeps}
use Rattle.land_tables_rows.proofs.Tellings.{lists_one, tells_from}
use Rattle.land_tables_rows.proofs.Writes.{keeps_from}
use Rattle.land_tables_rows.specs.Edition.Reading.{edition_in}
use Rattle.land_tables_rows.specs.Edition.Writing.{HoldsEditions, v2_edition, v1_edition}
use Rattle.land_tables_rows.specs.Mandate.Reading.{mandate_in}
use Rattle.land_tables_rows.specs.Mandate.Writing.{mandate_reading}
use Rattle.land_tables_rows.specs.Member.Writing.{member_reading}
use Rattle.land_tables_rows.specs.Mutation.Writing.{mutation_reading}
use Rattle.land_tables_rows.specs.Naming.Writing.{naming_reading}
use Rattle.land_tables_rows.specs.Parcel.Writing.{parcel_reading}
use Rattle.land_tables_rows.specs.Party.Writing.{party_reading}
use Rattle.land_tables_rows.specs.Role.Writing.{role_reading}
use Rattle.land_tables_rows.specs.Rrr.Writing.{rrr_reading}
use Rattle.land_tables_rows.specs.Source.Writing.{source_reading}
use Rattle.land_tables_rows.specs.Unit.Writing.{unit_reading}
use Rattle.land_tables_rows.specs.Writing.History.{HoldsHistoryV1, HoldsHistory}
use Rattle.land_tables_rows.specs.Writing.Holding.{Keeps}
use Rattle.land_tables_rows.specs.Writing.Laws.{MigratedRegistersAreHeld}
use Rattle.land_tables_rows.specs.declared.edition.reading.Edition as told
use Rattle.land_tables_rows.specs.Reading.Cells.{natural_in}
use Rattle.land_tables_schema.proofs.First.{none_held}
use Rattle.land_tables_schema.specs.Rows.Edition as rows
use Rattle.land_tables_schema.specs.Rows.Mandate.{mandate_cells, mandate_form}
use Rattle.land_tables_schema.specs.Rows.SchemaMigration.{Migrates}
use Rattle.land_tables_schema.specs.Tables as table
use Rattle.sqlite.specs.Effect.{Database}
use Rattle.sqlite_trees.specs.Tree.{Trees}

-- a table without rows holds no mandates
none_kept : (db : Trees) (history : History) → db 20 ≡ [] → history.mandates ≡ [] → Keeps mandate_reading db history.mandates
none_kept db history empty none = subst (Keeps mandate_reading db) (sym none) (keeps_from table.mandate 2 mandate_cells mandate_in db [] [] refl (none_held mandate_form db empty))

raised_history : (old new : Database) (moments : List Moment) (history : History) → Migrates old new → HoldsHistoryV1 old.trees moments history → HoldsHistory new.trees moments history
raised_history old new moments history raises held =
    let k = raises.kept in
    record {
      the_moments = rw (k.1.0 (λ e. absurd (omega arith))) held.the_moments;
      the_parties = still_keeps party_reading old.trees new.trees history.parties (k.1.1.0 (λ e. absurd (omega arith))) held.the_parties;
      the_roles = still_keeps role_reading old.trees new.trees history.roles (k.1.1.1.0 (λ e. absurd (omega arith))) held.the_roles;
      the_members = still_keeps member_reading old.trees new.trees history.members (k.1.1.1.1.0 (λ e. absurd (omega arith))) held.the_members;
      the_units = still_keeps unit_reading old.trees new.trees history.units (k.1.1.1.1.1.0 (λ e. absurd (omega arith))) held.the_units;
      the_parcels = still_keeps parcel_reading old.trees new.trees history.parcels (k.1.1.1.1.1.1.0 (λ e. absurd (omega arith))) held.the_parcels;
      the_rrrs = still_keeps rrr_reading old.trees new.trees history.rrrs (k.1.1.1.1.1.1.1.0 (λ e. absurd (omega arith))) held.the_rrrs;
      the_sources = still_keeps source_reading old.trees new.trees history.sources (k.1.1.1.1.1.1.1.1.0 (λ e. absurd (omega arith))) held.the_sources;
      the_mutations = still_keeps mutation_reading old.trees new.trees history.mutations (k.1.1.1.1.1.1.1.1.1.0 (λ e. absurd (omega arith))) held.the_mutations;
      the_namings = still_keeps naming_reading old.trees new.trees history.namings (k.1.1.1.1.1.1.1.1.1.1.0 (λ e. absurd (omega arith))) held.the_namings;
      the_mandates = none_kept new.trees history raises.mandates held.none;
    }

abbrev edition_of : (id version : ℕ) → rows.Edition
edition_of id version = record { id = id; version = version }

-- the cells of edition 1 decode to edition 1 only
first_is : (p : rows.Edition) → edition_in (rows.edition_row p) ≡ Ok v1_edition → p ≡ rows.v1_edition
unfolding edition_in natural_in
first_is p h =
    let is = same_ok h in
    ap₂ edition_of (ap (λ (e : told.Edition). e.id) is) (ap (λ (e : told.Edition). e.version) is)

raised_editions : (old new : Database) → Migrates old new → HoldsEditions old.trees (v1_edition ∷ []) → HoldsEditions new.trees (v2_edition ∷ [])
raised_editions old new raises tells =
    tells_from table.edition rows.edition_row edition_in new.trees (rows.v2_edition ∷ []) (v2_edition ∷ []) (ap (λ r. r ∷ []) edition.reads)
    (raises.edition (lists_one table.edition rows.edition_row edition_in edition.found rows.v1_edition v1_edition first_is old.trees tells))

pub migrated_registers_are_held : MigratedRegistersAreHeld
migrated_registers_are_held old new moments history raises held tells = record { history = raised_history old new moments history raises held; editions = raised_editions old new raises tells }
