-- The events of a history, table by table.
use Rattle.std.proofs.Common.{◌≡◌, ℕ, List, ◌∷◌, inl, inr, refl, sym, ap, ◌∙◌}
use Rattle.land_digest.proofs.AllTables.{AreNumbered, OfTable, also}
use Rattle.land_digest.proofs.Membership.{In, from_flat_map, from_map}
use Rattle.land_digest.specs.Events.{Event}
use Rattle.land_digest.specs.History.{events_by_table}
use Rattle.land_digest.specs.Rows.{mandate_row, member_row, mutation_row, naming_row, parcel_row, party_row}
use Rattle.land_digest.specs.Rows.{role_row, rrr_row, source_row, unit_row}
use Rattle.land_digest.specs.Versions.{Row, moment_event, moment_events, table_events, version_events}
use Rattle.land_tables_history.specs.declared.history.History.{History}
use Rattle.land_tables_history.specs.declared.moment.Moment.{Moment}
use Rattle.land_tables_history.specs.declared.version.Version.{Version}

of_table : {X : Type 0} (row : X → Row) (n : ℕ) → ((x : X) → (row x).table ≡ n) → (vs : List (Version X))
    → OfTable n (table_events row vs)
of_table {X} row n is vs e i = go (from_flat_map (version_events row) e vs i)
  where
    at : (v : Version X) → In e (version_events row v) → e.table ≡ n
    at v (inl f) = ap (λ (e : Event). e.table) (sym f) ∙ is v.what
    at v (inr (inl f)) = ap (λ (e : Event). e.table) (sym f) ∙ is v.what
    at v (inr (inr f)) = elim f [ ]

    go : (v : Version X) × In v vs × In e (version_events row v) → e.table ≡ n
    go r = at r.0 r.2

of_moments : (ms : List Moment) → OfTable 0 (moment_events ms)
of_moments ms e i = let a = from_map moment_event e ms i in ap (λ (e : Event). e.table) (sym a.2)

-- the events of each table, from table 0
abbrev pub event_lists : List Moment → History → List (List Event)
event_lists moments h = moment_events moments ∷ events_by_table h

pub are_numbered : (moments : List Moment) (h : History) → AreNumbered 0 (event_lists moments h)
are_numbered moments h =
    also (of_moments moments)
    (also (of_table party_row 1 (λ x. refl) h.parties)
    (also (of_table role_row 2 (λ x. refl) h.roles)
    (also (of_table member_row 3 (λ x. refl) h.members)
    (also (of_table unit_row 4 (λ x. refl) h.units)
    (also (of_table parcel_row 5 (λ x. refl) h.parcels)
    (also (of_table rrr_row 6 (λ x. refl) h.rrrs)
    (also (of_table source_row 7 (λ x. refl) h.sources)
    (also (of_table mutation_row 8 (λ x. refl) h.mutations)
    (also (of_table naming_row 9 (λ x. refl) h.namings)
    (also (of_table mandate_row 10 (λ x. refl) h.mandates) tt))))))))))
