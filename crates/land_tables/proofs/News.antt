-- The rows of a new register represent its timeline.
use Rattle.std.proofs.Common.{◌≡◌, ℕ, true, IsTrue, List, [], flat_map, map as map_list, pos, refl, sym, ap, ◌∙◌, arith}
use Rattle.std.specs.FinMap as map
use Rattle.std.specs.Ordering.{nat_cmp}
use Rattle.std.proofs.lemmas.List.Elements.{All-cons, All-nil}
use Rattle.land_core.proofs.NewRegister.{new_is_sound}
use Rattle.land_core.specs.Numbers.{IsMoment}
use Rattle.land_core.specs.Register.{new_register}
use Rattle.land_core.specs.declared.mutation.MutationRecord.{MutationRecord}
use Rattle.land_keep.specs.Timeline.{IsSoundTimeline, new_timeline}
use Rattle.land_tables.proofs.Tellings.{tells}
use Rattle.land_tables.proofs.ToldIntervals.{told_intervals}
use Rattle.land_tables.specs.TablesState.{IsNewRegister}
use Rattle.land_tables.specs.Standing.{HoldsTimeline, decoded_timeline}
use Rattle.land_tables.specs.Timelines.{RepresentsTimeline}
use Rattle.land_tables.specs.Timelines.Laws.{ValidHistoriesRepresentTimelines, OrderDoesNotMatter, HistoriesRepresentOneTimeline}
use Rattle.land_tables_history.proofs.Orders.{no_more}
use Rattle.land_tables_history.specs.History.{named_units, namings_of}
use Rattle.land_tables_history.specs.History.{register_of_history}
use Rattle.land_tables_history.specs.Intervals.{has_intervals}
use Rattle.land_tables_history.specs.ValidHistory.{IsValidHistory, IsValidAt, are_same_namings}
use Rattle.land_tables_history.specs.Standing.{current_values}
use Rattle.land_tables_history.specs.declared.moment.Moment.{Moment}
use Rattle.land_tables_rows.specs.Listing.Reading.{moments}
use Rattle.land_tables_rows.specs.Listing.Told.{decoded_history, decode_rows}
use Rattle.land_tables_rows.specs.Writing.Laws.{NewRowsHoldNewRegister}
use Rattle.land_tables_rows.specs.Writing.NewHistory.{new_history, new_moments}
use Rattle.land_tables_schema.proofs.First.{made_is_land}
use Rattle.land_tables_schema.specs.Rows.Held.{HoldsRows, IsNew, new_rows}
use Rattle.sqlite.specs.State.{State}
use Rattle.sqlite_trees.specs.Tree.{Trees}

abbrev first : Moment
first = record { stamp = pos 0; next = 2 }

register_is : register_of_history (pos 0) new_history 2 ≡ new_register
register_is = refl

no_mutations : map.entries (map.empty {X = MutationRecord} {R = nat_cmp}) ≡ []
no_mutations = no_more _ (sym (map.len-entries map.empty) ∙ map.len-empty nat_cmp MutationRecord)

none_named : are_same_namings (current_values (pos 0) new_history.namings) (namings_of (register_of_history (pos 0) new_history 2).mutations) ≡ true
none_named = ap (λ (entries : List (ℕ × MutationRecord)). are_same_namings [] (flat_map (λ m. map_list (λ unit. record { mutation = m.0; unit = unit }) (named_units m.1.content)) entries)) no_mutations

valid_history : IsValidHistory new_moments new_history
valid_history = record {
  moments = refl;
  each = All-cons (IsValidAt new_history) first [] (record { sound = new_is_sound; named = none_named }) (All-nil (IsValidAt new_history));
}

stands : ValidHistoriesRepresentTimelines → RepresentsTimeline new_moments new_history new_timeline × IsSoundTimeline new_timeline
stands law = law new_moments new_history (All-cons (λ m. IsMoment m.stamp) first [] (omega arith, omega arith) (All-nil (λ m. IsMoment m.stamp))) refl valid_history

pub new_is_sound_too : ValidHistoriesRepresentTimelines → IsSoundTimeline new_timeline
new_is_sound_too law = (stands law).1

pub new_holds : ValidHistoriesRepresentTimelines → NewRowsHoldNewRegister → (db : Trees) → HoldsRows db new_rows → HoldsTimeline db new_timeline
new_holds law held db rows = record { listed = new_moments; history = new_history; holds = (held db rows).history; stands = (stands law).0 }

new_intervals : ValidHistoriesRepresentTimelines → NewRowsHoldNewRegister → (db : Trees) → HoldsRows db new_rows → has_intervals (decode_rows moments db) (decoded_history db) ≡ true
new_intervals law held db rows = told_intervals db new_timeline (record { listed = new_moments; history = new_history; holds = (held db rows).history; stands = (stands law).0 })

-- tables that were just created hold the new timeline
module _ (law : ValidHistoriesRepresentTimelines) (held : NewRowsHoldNewRegister) (one : HistoriesRepresentOneTimeline) (order : OrderDoesNotMatter) (s : State) (new : IsNew s.now) where
  tells_new : decoded_timeline s.now.trees ≡ new_timeline
  tells_new = tells one order s.now.trees new_timeline (new_holds law held s.now.trees new.rows) (new_is_sound_too law)

  pub new_office : s.committed ≡ s.now → IsTrue s.is_open → IsNewRegister s
  new_office committed is_open = record {
    office = record {
      register = record {
        is_open = is_open;
        committed = committed;
        has_tables = made_is_land s.now.schema new.schema;
        edition = (held s.now.trees new.rows).editions;
        intervals = new_intervals law held s.now.trees new.rows;
        holds = rw tells_new (new_holds law held s.now.trees new.rows);
        sound = rw tells_new (new_is_sound_too law);
      };
      last = rw tells_new refl;
      next = rw tells_new refl;
    };
    timeline = tells_new;
  }
