-- Entries that are added table by table are the selected events of a history.
use Rattle.std.proofs.Common.{◌≡◌, Bool, true, List, [], ◌∷◌, ◌++◌, filter, sym, ap, ap₂, ◌∙◌, append_assoc}
use Rattle.std.proofs.Common.{append-nil}
use Rattle.std.proofs.lemmas.List.Elements.{filter-append}
use Rattle.land_digest.proofs.AllTables.{joined}
use Rattle.land_digest.proofs.Places.{selected_distinct}
use Rattle.land_digest.specs.Events.{Event, have_distinct_places}
use Rattle.land_digest.specs.History.{all_version_events, history_events}
use Rattle.land_digest.specs.Laws.{HasIntervals}
use Rattle.land_digest.specs.Versions.{Row, end_of, moment_events, start_of, table_events, version_events}
use Rattle.land_tables_history.specs.declared.history.History.{History}
use Rattle.land_tables_history.specs.declared.moment.Moment.{Moment}
use Rattle.land_tables_history.specs.declared.version.Version.{Version}

-- the selected events of these tables are added
pub record Adds (p : Event → Bool) (ls : List (List Event)) (old new : List Event) : Type 0 where
  pub is : new ≡ old ++ filter p (joined ls)

pub adds_none : (p : Event → Bool) (old : List Event) → Adds p [] old old
adds_none p old = record { is = sym (append-nil old) }

pub adds_versions : {X : Type 0} (row : X → Row) (p : Event → Bool) (slice vs : List (Version X))
    (ls : List (List Event))
    (old middle new : List Event) → slice ≡ vs → middle ≡ old ++ filter p (table_events row slice)
    → Adds p ls middle new → Adds p (table_events row vs ∷ ls) old new
adds_versions row p slice vs ls old middle new same first rest =
    let l = table_events row vs in
    record {
      is =
          rest.is
          ∙ ap (λ m. m ++ filter p (joined ls))
          (first ∙ ap (λ vs. old ++ filter p (table_events row vs)) same)
          ∙ append_assoc old (filter p l) (filter p (joined ls))
          ∙ ap (λ x. old ++ x) (sym (filter-append p l (joined ls)));
    }

-- the start and the end of a version are added
pub version_added : {X : Type 0} (row : X → Row) (v : Version X) (p : Event → Bool) (start end : Event)
    (old middle new : List Event) → start ≡ start_of (row v.what) v.since → end ≡ end_of (row v.what) v.until
    → middle ≡ old ++ filter p (start ∷ []) → new ≡ middle ++ filter p (end ∷ [])
    → new ≡ old ++ filter p (version_events row v)
version_added row v p start end old middle new is_start is_end first second =
    let s = start_of (row v.what) v.since in
    let e = end_of (row v.what) v.until in
    second
    ∙ ap₂ (λ m x. m ++ filter p (x ∷ [])) (first
    ∙ ap (λ x. old ++ filter p (x ∷ [])) is_start) is_end
    ∙ append_assoc old (filter p (s ∷ [])) (filter p (e ∷ []))
    ∙ ap (λ x. old ++ x) (sym (filter-append p (s ∷ []) (e ∷ [])))

pub collected : (p : Event → Bool) (moments : List Moment) (h : History) (start middle all : List Event) → start ≡ []
    → middle ≡ start ++ filter p (moment_events moments)
    → all ≡ middle ++ filter p (all_version_events h) → all ≡ filter p (history_events moments h)
collected p moments h start middle all none first rest =
    rest
    ∙ ap (λ l. l ++ filter p (all_version_events h))
    (first ∙ ap (λ l. l ++ filter p (moment_events moments)) none)
    ∙ sym (filter-append p (moment_events moments) (all_version_events h))

pub collected_distinct : (p : Event → Bool) (moments : List Moment) (h : History) (all : List Event)
    → HasIntervals moments h → all ≡ filter p (history_events moments h) → have_distinct_places all ≡ true
collected_distinct p moments h all valid e = ap have_distinct_places e ∙ selected_distinct p moments h valid
