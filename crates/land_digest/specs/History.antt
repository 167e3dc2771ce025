-- The text of a history, and its digest.
use Rattle.std.specs.Prelude.{ℕ, ℤ, List, [], ◌∷◌, ◌++◌, flat_map}
use Rattle.land_digest.specs.Events.{Event, events_text, events_upto, in_order}
use Rattle.land_digest.specs.Rows.{mandate_row, member_row, mutation_row, naming_row, parcel_row, party_row}
use Rattle.land_digest.specs.Rows.{role_row, rrr_row, source_row, unit_row}
use Rattle.land_digest.specs.Versions.{moment_events, table_events}
use Rattle.land_tables_history.specs.declared.history.History.{History}
use Rattle.land_tables_history.specs.declared.moment.Moment.{Moment}
use Rattle.sha2.specs.Sha256.{sha256}

-- the events of the versions of each table, in the order of the tables' numbers, from 1
abbrev pub events_by_table : History → List (List Event)
events_by_table h =
    table_events party_row h.parties ∷ table_events role_row h.roles ∷ table_events member_row h.members
    ∷ table_events unit_row h.units ∷ table_events parcel_row h.parcels ∷ table_events rrr_row h.rrrs
    ∷ table_events source_row h.sources ∷ table_events mutation_row h.mutations
    ∷ table_events naming_row h.namings ∷ table_events mandate_row h.mandates ∷ []

abbrev pub all_version_events : History → List Event
all_version_events h = flat_map (λ events. events) (events_by_table h)

-- all events; the moments are table 0
abbrev pub history_events : List Moment → History → List Event
history_events moments h = moment_events moments ++ all_version_events h

-- all that starts or ends up to a stamp, in order, one line each
abbrev pub history_text : List Moment → History → (upto : ℤ) → List ℕ
history_text moments h upto = events_text (in_order (events_upto upto (history_events moments h)))

-- the digest of a history up to a stamp
abbrev pub history_digest : List Moment → History → (upto : ℤ) → List ℕ
history_digest moments h upto = sha256 (history_text moments h upto)
