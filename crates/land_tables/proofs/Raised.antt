-- Tables of schema version 1 hold the same timeline after migration to version 2.
use Rattle.std.proofs.Common.{◌≡◌, ℤ, Bool, true, false, cond, List, [], ◌∷◌, map, Option, Some, None, Ok, Result, IsTrue, refl, sym, ap, ◌∙◌, IsPermutation}
use Rattle.std.specs.Prelude.{int_le}
use Rattle.std.specs.FinMap as finite
use Rattle.std.proofs.lemmas.List.Sorted.{length_permutation}
use Rattle.land_core.specs.declared.mandates.Mandate.{Mandate}
use Rattle.land_keep.specs.declared.timeline.Version.{Version}
use Rattle.land_tables.proofs.Editions.{keeps_edition}
use Rattle.land_tables.proofs.One.{found_at, registered}
use Rattle.land_tables.proofs.Tellings.{tells}
use Rattle.land_tables.proofs.ToldIntervals.{told_intervals}
use Rattle.land_tables.specs.Adopting.{IsRegisterTo}
use Rattle.land_tables.specs.Migrating.{IsMigratedFrom, HasNoMandates}
use Rattle.land_tables.specs.TablesState.{IsConsistentState}
use Rattle.land_tables.specs.Registers.{IsRegister, version_1}
use Rattle.land_tables.specs.Standing.{HoldsTimeline, decoded_timeline_v1, decoded_timeline, without_mandate_rows}
use Rattle.land_tables.specs.Timelines.{sorted_moments, version_of}
use Rattle.land_tables.specs.Timelines.Laws.{OrderDoesNotMatter, HistoriesRepresentOneTimeline}
use Rattle.land_tables_history.proofs.Orders.{no_more}
use Rattle.land_tables_history.specs.Intervals.{has_intervals}
use Rattle.land_tables_history.specs.Standing.{mandates_at}
use Rattle.land_tables_history.specs.declared.history.History.{History}
use Rattle.land_tables_history.specs.declared.moment.Moment.{Moment}
use Rattle.land_tables_history.specs.declared.version.Version.{Version as LiveSpan}
use Rattle.land_tables_rows.proofs.ToldTables.{same_values}
use Rattle.land_tables_rows.specs.Listing.Reading.{moments}
use Rattle.land_tables_rows.specs.Listing.Told.{decoded_history, decode_rows}
use Rattle.land_tables_rows.specs.Writing.History.{HoldsHistoryV1, HoldsHistory}
use Rattle.land_tables_rows.specs.Writing.Laws.{MigratedRowsAreRead, MigratedRegistersAreHeld}
use Rattle.land_tables_schema.specs.Rows.SchemaMigration.{Migrates}
use Rattle.land_wire_json.specs.declared.bodies.wire_fault.WireFault.{WireFault}
use Rattle.sqlite.specs.Effect.{Database}
use Rattle.sqlite.specs.State.{State}
use Rattle.sqlite_trees.specs.Tree.{Trees}

-- ---- the same rows

-- a table of mandates without rows decodes to no mandates
none_said : (listed : List (LiveSpan Mandate)) → IsPermutation {X = Result (LiveSpan Mandate) WireFault} [] (map (λ v. Ok v) listed) → listed ≡ []
none_said listed said = no_more listed (length_permutation [] listed (same_values [] listed said))

-- tables that hold a history without mandates hold it in schema version 1
first_held : (db : Trees) (listed : List Moment) (h : History) → HoldsHistory (without_mandate_rows db) listed h → HoldsHistoryV1 db listed h
first_held db listed h held = record {
  the_moments = held.the_moments;
  the_parties = record { said = held.the_parties.said; numbered = held.the_parties.numbered };
  the_roles = record { said = held.the_roles.said; numbered = held.the_roles.numbered };
  the_members = record { said = held.the_members.said; numbered = held.the_members.numbered };
  the_units = record { said = held.the_units.said; numbered = held.the_units.numbered };
  the_parcels = record { said = held.the_parcels.said; numbered = held.the_parcels.numbered };
  the_rrrs = record { said = held.the_rrrs.said; numbered = held.the_rrrs.numbered };
  the_sources = record { said = held.the_sources.said; numbered = held.the_sources.numbered };
  the_mutations = record { said = held.the_mutations.said; numbered = held.the_mutations.numbered };
  the_namings = record { said = held.the_namings.said; numbered = held.the_namings.numbered };
  none = none_said h.mandates held.the_mandates.said;
}

-- ---- the same timeline

module _ (law : MigratedRegistersAreHeld) (old new : Database) (first : IsRegister version_1 old) (raised : Migrates old new) where
  read : MigratedRowsAreRead new.trees first.holds.listed first.holds.history
  read =
      law old new first.holds.listed first.holds.history raised (first_held old.trees first.holds.listed first.holds.history first.holds.holds)
      (keeps_edition version_1 old first.intervals.made)

  timeline_raised : HoldsTimeline new.trees (decoded_timeline_v1 old.trees)
  timeline_raised = record { listed = first.holds.listed; history = first.holds.history; holds = read.history; stands = first.holds.stands }

  -- the states that a crash may leave instead of schema version 1
  pub are_raised : IsMigratedFrom old new.trees
  are_raised = record { edition = read.editions; holds = timeline_raised }

  pub tells_raised : HistoriesRepresentOneTimeline → OrderDoesNotMatter → decoded_timeline new.trees ≡ decoded_timeline_v1 old.trees
  tells_raised one order = tells one order new.trees (decoded_timeline_v1 old.trees) timeline_raised first.sound

  pub intervals_raised : has_intervals (decode_rows moments new.trees) (decoded_history new.trees) ≡ true
  unfolding timeline_raised
  intervals_raised =
      told_intervals new.trees (decoded_timeline_v1 old.trees) timeline_raised
      ∙ sym (told_intervals (without_mandate_rows old.trees) (decoded_timeline_v1 old.trees) first.holds)
      ∙ first.intervals.intervals

-- a migrated store is consistent
pub office_raised : MigratedRegistersAreHeld → HistoriesRepresentOneTimeline → OrderDoesNotMatter → (old new : State) (latest : Moment) → IsRegisterTo version_1 old.now latest → Migrates old.now new.now → IsTrue new.is_open → new.committed ≡ new.now
    → IsConsistentState new latest.stamp latest.next
office_raised law one order old new latest to raised is_open committed =
    let first = to.register in
    let is = tells_raised law old.now new.now first raised one order in
    let them = are_raised law old.now new.now first raised in
    record {
      register = record {
        is_open = is_open;
        committed = committed;
        has_tables = raised.has_tables;
        edition = them.edition;
        intervals = intervals_raised law old.now new.now first raised;
        holds = rw is them.holds;
        sound = rw is first.sound;
      };
      last = rw is to.last;
      next = rw is to.next;
    }

-- ---- there are no mandates

-- no selected register has mandates, if the default has none and the versions are of a history without
-- mandates
none_found : (h : History) → h.mandates ≡ [] → (t : ℤ) (ms : List Moment) (found : Option Version) → (registered found).mandates ≡ finite.empty
    → (registered (found_at t found (map (version_of h) ms))).mandates ≡ finite.empty
none_found h none t [] found so = so
none_found h none t (m ∷ ms) found so = none_found h none t ms (cond (int_le m.stamp t) (Some (version_of h m)) found) (here (int_le m.stamp t))
  where
    here : (b : Bool) → (registered (cond b (Some (version_of h m)) found)).mandates ≡ finite.empty
    here true = ap (mandates_at m.stamp) none
    here false = so

-- tables of schema version 1 represent a timeline without mandates
pub none_at_first : (db : Trees) → HasNoMandates (decoded_timeline_v1 db)
none_at_first db t = none_found (decoded_history (without_mandate_rows db)) refl t (sorted_moments (decode_rows moments (without_mandate_rows db))) None refl
