-- The lines of one more entry.
use Rattle.std.proofs.Common.{◌≡◌, ℕ, ◌+◌, ◌<◌, List, [], ◌∷◌, ◌++◌, map as map_list, length, get_or, take}
use Rattle.std.proofs.Common.{sym, ap, ◌∙◌, append-nil}
use Rattle.std.proofs.lemmas.List.{map-append, take_more}
use Rattle.std.proofs.lemmas.List.Concat.{flat_map-append}
use Rattle.land_digest.specs.Entries.{event_of}
use Rattle.land_digest.specs.Events.{event_line, events_text}
use Rattle.land_digest.specs.declared.entry.Entry.{Entry}

pub lines_of_more : (entries : List Entry) (i : ℕ) (e : Entry) → i < length entries → e ≡ get_or entries i e
    → events_text (map_list event_of (take i entries)) ++ event_line (event_of e)
    ≡ events_text (map_list event_of (take (i + 1) entries))
lines_of_more entries i e below is =
    let last : take (i + 1) entries ≡ take i entries ++ e ∷ [] =
    take_more entries i e below ∙ ap (λ (x : Entry). take i entries ++ x ∷ []) (sym is) in
    let front = map_list event_of (take i entries) in
    sym (ap (λ l. events_text (map_list event_of l)) last
    ∙ ap events_text (map-append event_of (take i entries) (e ∷ []))
    ∙ flat_map-append event_line front (event_of e ∷ [])
    ∙ ap (λ l. events_text front ++ l) (append-nil (event_line (event_of e))))
