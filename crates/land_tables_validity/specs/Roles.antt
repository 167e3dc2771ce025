-- Single parties, over time.
use Rattle.std.specs.Prelude.{ℕ, Bool, List, filter}
use Rattle.land_core.specs.Register.{is_single}
use Rattle.land_core.specs.declared.party.PartyRecord.{PartyRecord}
use Rattle.land_tables_history.specs.declared.version.Version.{Version}

-- a party is single in each version of that kind; its kind may change from version to version
abbrev pub is_of_single : Version (ℕ × PartyRecord) → Bool
is_of_single v = is_single v.what.1.kind

abbrev pub single_parties : List (Version (ℕ × PartyRecord)) → List (Version (ℕ × PartyRecord))
single_parties parties = filter is_of_single parties
