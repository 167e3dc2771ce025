use Rattle.std.proofs.Common.{◌≡◌, ℕ, drop}
use Rattle.std.specs.FinMap as map
use Rattle.std.specs.Prelude.{map as map_list}
use Rattle.land_core.specs.Entries.{with_entries}
use Rattle.land_core.specs.declared.party.PartyRecord.{PartyRecord}
use Rattle.land_tables_history.specs.declared.version.Version.{Version}
use Rattle.land_select.proofs.objects.records_of.Given as goal

-- inserting the remaining parties yields the same map
abbrev pub invariant-loop-party : goal.invariant-loop-party
invariant-loop-party l =
    with_entries l.records (map_list (λ (v : Version (ℕ × PartyRecord)). v.what) (drop l.party-index l.parties)) ≡ with_entries map.empty (map_list (λ (v : Version (ℕ × PartyRecord)). v.what) l.parties)
