-- A change leaves the text up to each earlier stamp unchanged.
use Rattle.std.proofs.Common.{◌≡◌, ℕ, ℤ, ◌<ℤ◌, int_le, int_eq, Bool, true, false, cond, ◌&&◌, List, [], ◌∷◌}
use Rattle.std.proofs.Common.{◌++◌, map as map_list, refl, sym, ap, ap₂, ◌∙◌, arith}
use Rattle.std.proofs.lemmas.Bool.Decides.{Decides-int_eq}
use Rattle.std.proofs.lemmas.Int.{ints}
use Rattle.std.proofs.lemmas.List.Elements.{filter-append}
use Rattle.std.specs.Ordering.{eq_by_cmp}
use Rattle.std.specs.Prelude.{⊤}
use Rattle.land_core.specs.Grants.{grant_cmp}
use Rattle.land_core.specs.Mandates.{mandate_cmp}
use Rattle.land_digest.proofs.AllTables.{also, joined}
use Rattle.land_digest.proofs.HistoryTables.{event_lists}
use Rattle.land_digest.specs.Events.{Event, events_text, events_upto, in_order}
use Rattle.land_digest.specs.Laws.{AppendingKeepsText}
use Rattle.land_digest.specs.Rows.{mandate_row, member_row, mutation_row, naming_row, parcel_row, party_row}
use Rattle.land_digest.specs.Rows.{role_row, rrr_row, source_row, unit_row}
use Rattle.land_digest.specs.Versions.{Row, end_of, moment_event, moment_events, start_of, table_events}
use Rattle.land_digest.specs.Versions.{version_events}
use Rattle.land_tables_history.specs.Changed.{changed_history, changed_part, changed_versions, closed_version}
use Rattle.land_tables_history.specs.Changed.{is_key_among, is_changed, listed_members, named_by, new_mutations}
use Rattle.land_tables_history.specs.Changed.{opened_version}
use Rattle.land_tables_history.specs.Open.{never}
use Rattle.land_tables_history.specs.declared.moment.Moment.{Moment}
use Rattle.land_tables_history.specs.declared.version.Version.{Version}

later : (a b : ℤ) → b <ℤ a → int_le a b ≡ false
later a b h = grind (arith, ints)

module _ (t stamp : ℤ) (less : t <ℤ stamp) (early : t <ℤ never) where
  drop_one : (e : Event) (es : List Event) → int_le e.stamp t ≡ false
      → events_upto t (e ∷ es) ≡ events_upto t es
  drop_one e es h = ap (λ b. cond b (e ∷ events_upto t es) (events_upto t es)) h

  -- ---- one table

  module _ {X : Type 0} (row : X → Row) where
    -- versions that start at the stamp have no event before it
    none_opened : (put : List X) (vs : List (Version X))
        → events_upto t (table_events row (map_list (λ x. opened_version x stamp) put ++ vs))
        ≡ events_upto t (table_events row vs)
    none_opened [] vs = refl
    none_opened (x ∷ put) vs =
        let rest = table_events row (map_list (λ x. opened_version x stamp) put ++ vs) in
        drop_one (start_of (row x) stamp) (end_of (row x) never ∷ rest) (later stamp t less)
        ∙ drop_one (end_of (row x) never) rest (later never t early)
        ∙ none_opened put vs

    -- a version that ends at the stamp did not end before it
    same_one : (meant : X → Bool) (v : Version X)
        → events_upto t (version_events row (closed_version meant stamp v))
        ≡ events_upto t (version_events row v)
    same_one meant v = go (meant v.what) (int_eq v.until never) refl
      where
        with_end : (until : ℤ) → int_le until t ≡ false
            → events_upto t (version_events row (record v { until = until }))
            ≡ events_upto t (start_of (row v.what) v.since ∷ [])
        with_end until h =
            ap (λ l. cond (int_le v.since t) (start_of (row v.what) v.since ∷ l) l)
            (drop_one (end_of (row v.what) until) [] h)

        go : (a b : Bool) → int_eq v.until never ≡ b
            → events_upto t (version_events row (cond (a && b) (record v { until = stamp }) v))
            ≡ events_upto t (version_events row v)
        go true true is =
            let e : v.until ≡ never = (Decides-int_eq v.until never).0 is in
            with_end stamp (later stamp t less)
            ∙ sym (with_end v.until (ap (λ u. int_le u t) e ∙ later never t early))
        go true false is = refl
        go false b is = refl

    none_closed : (meant : X → Bool) (vs : List (Version X))
        → events_upto t (table_events row (map_list (closed_version meant stamp) vs))
        ≡ events_upto t (table_events row vs)
    none_closed meant [] = refl
    none_closed meant (v ∷ vs) =
        filter-append (λ e. int_le e.stamp t) (version_events row (closed_version meant stamp v))
        (table_events row (map_list (closed_version meant stamp) vs))
        ∙ ap₂ (λ a b. a ++ b) (same_one meant v) (none_closed meant vs)
        ∙ sym (filter-append (λ e. int_le e.stamp t) (version_events row v) (table_events row vs))

    kept : (put : List X) (meant : X → Bool) (vs : List (Version X))
        → events_upto t (table_events row (changed_versions put meant stamp vs))
        ≡ events_upto t (table_events row vs)
    kept put meant vs =
        none_opened put (map_list (closed_version meant stamp) vs) ∙ none_closed meant vs

  kept_moments : (m : Moment) (ms : List Moment) → m.stamp ≡ stamp
      → events_upto t (moment_events (m ∷ ms)) ≡ events_upto t (moment_events ms)
  kept_moments m ms e =
      drop_one (moment_event m) (moment_events ms) (ap (λ s. int_le s t) e ∙ later stamp t less)

  -- ---- all tables

  abbrev AreKept : (ls ms : List (List Event)) → Type 0
  AreKept [] [] = ⊤
  AreKept [] (m ∷ ms) = ⊥
  AreKept (l ∷ ls) [] = ⊥
  AreKept (l ∷ ls) (m ∷ ms) = (events_upto t l ≡ events_upto t m) × AreKept ls ms

  joined_kept : (ls ms : List (List Event)) → AreKept ls ms
      → events_upto t (joined ls) ≡ events_upto t (joined ms)
  joined_kept [] [] all = refl
  joined_kept [] (m ∷ ms) all = absurd all
  joined_kept (l ∷ ls) [] all = absurd all
  joined_kept (l ∷ ls) (m ∷ ms) all =
      filter-append (λ e. int_le e.stamp t) l (joined ls)
      ∙ ap₂ (λ a b. a ++ b) all.0 (joined_kept ls ms all.1)
      ∙ sym (filter-append (λ e. int_le e.stamp t) m (joined ms))

pub appending_keeps_text : AppendingKeepsText
appending_keeps_text moments h next change stamp t less early =
    ap (λ es. events_text (in_order es))
    (joined_kept t stamp less early (event_lists (moment ∷ moments) (changed_history next change stamp h))
    (event_lists moments h) all)
  where
    moment : Moment
    moment = record { stamp = stamp; next = change.next }

    part_kept : {V : Type 0} (row : ℕ × V → Row) (put : List (ℕ × V)) (ended : List ℕ)
        (vs : List (Version (ℕ × V)))
        → events_upto t (table_events row (changed_part put ended stamp vs))
        ≡ events_upto t (table_events row vs)
    part_kept row put ended vs = kept t stamp less early row put (λ e. is_changed put ended e.0) vs

    all : AreKept t stamp less early
        (event_lists (moment ∷ moments) (changed_history next change stamp h)) (event_lists moments h)
    all =
        also (kept_moments t stamp less early moment moments refl)
        (also (part_kept party_row change.put.parties change.ended.parties h.parties)
        (also (kept t stamp less early role_row change.put.roles
        (λ grant. is_key_among (eq_by_cmp grant_cmp) (change.put.roles ++ change.ended.roles) grant) h.roles)
        (also (kept t stamp less early member_row (listed_members change.put.members)
        (λ e. is_changed change.put.members change.ended.members e.group) h.members)
        (also (part_kept unit_row change.put.units change.ended.units h.units)
        (also (part_kept parcel_row change.put.parcels change.ended.parcels h.parcels)
        (also (part_kept rrr_row change.put.rrrs change.ended.rrrs h.rrrs)
        (also (part_kept source_row change.put.sources change.ended.sources h.sources)
        (also (part_kept mutation_row change.put.mutations change.ended.mutations h.mutations)
        (also (kept t stamp less early naming_row (named_by (new_mutations next change.put.mutations))
        (λ naming. false) h.namings)
        (also (kept t stamp less early mandate_row change.put.mandates
        (λ mandate. is_key_among (eq_by_cmp mandate_cmp) (change.put.mandates ++ change.ended.mandates) mandate)
        h.mandates) tt))))))))))
