-- The parties of some entries.
use Rattle.std.specs.FinMap as map
use Rattle.std.specs.List.{Contains}
use Rattle.std.specs.Prelude.{◌≡◌, ◌↔◌, ◌&&◌, ℕ, ℤ, Bool, true, nat_eq, List, map as map_list, Ok, Some}
use Rattle.land_core.specs.Entries.{some}
use Rattle.land_core.specs.declared.party.PartyRecord.{PartyRecord}
use Rattle.land_core.specs.declared.register.Register.{Register}
use Rattle.land_core.specs.declared.rrr.RrrRecord.{RrrRecord}
use Rattle.land_select_queries.specs.Joins.Execution.{HoldsOfHistory}
use Rattle.land_select_queries.specs.Lookups.Ranges.{is_within}
use Rattle.land_select_queries.specs.Sights.Selections.{Entry, IsCurrent}
use Rattle.land_tables_history.specs.History.{IsRegisterAt}
use Rattle.land_tables_history.specs.declared.history.History.{History}
use Rattle.land_tables_history.specs.declared.version.Version.{Version}
use Rattle.land_tables_rows.specs.Listing.Reading.{parties}
use Rattle.sqlite_rules.specs.Lists.{Has}
use Rattle.sqlite_trees.specs.Tree.{Trees}
use Rattle.sqlite_value.specs.Order.{Row}

-- whether an entry is of a unit, or in a range of numbers
abbrev pub of_unit : (unit : ℕ) → (number : ℕ) → RrrRecord → Bool
of_unit unit number entry = nat_eq entry.unit unit

abbrev pub of_range : (first last : ℕ) → (number : ℕ) → RrrRecord → Bool
of_range first last number entry = is_within first last number

-- whether a party has a matching entry
abbrev pub has_entry_among : Register → (ℕ → RrrRecord → Bool) → (party : ℕ) → Bool
has_entry_among r meant party = some (λ n e. meant n e && nat_eq e.party party) r.rrrs

-- whether a party has an entry in a unit
abbrev pub has_entry_in : Register → (unit party : ℕ) → Bool
has_entry_in r unit party = has_entry_among r (of_unit unit) party

-- a party is current at time t and has a current entry that matches
pub record HasEntry (t : ℤ) (h : History) (meant : ℕ → RrrRecord → Bool) (party : ℕ × PartyRecord) : Type 0
  where
    pub party_exists : IsCurrent t h.parties party
    pub entry : Entry
    pub entry_stands : IsCurrent t h.rrrs entry
    pub is_meant : meant entry.0 entry.1 ≡ true
    pub of_party : entry.1.party ≡ party.0

-- Each row decodes to a version of a wanted party, and each wanted party has a row.
pub record YieldParties (rows : List Row) (Wanted : ℕ × PartyRecord → Type 0) : Type 0 where
  pub each : (row : Row) → Has rows row → (v : Version (ℕ × PartyRecord)) × (parties.said row ≡ Ok v)
      × Wanted v.what
  pub all : (party : ℕ × PartyRecord) → Wanted party → (row : Row) × Has rows row
      × ((v : Version (ℕ × PartyRecord)) × (parties.said row ≡ Ok v) × (v.what ≡ party))

-- the rows of the parties that have a matching entry at a time
abbrev pub ArePartyRows : (ℕ → RrrRecord → Bool) → (t : ℤ) → Trees → List Row → Type 0
ArePartyRows meant t db rows = HoldsOfHistory db (λ h. YieldParties rows (HasEntry t h meant))

-- If the tables hold a history that at time t represents a register, these are versions of the parties that
-- have a matching entry in it.
abbrev pub ArePartiesAmong : (ℕ → RrrRecord → Bool) → (t : ℤ) → Trees → List (Version (ℕ × PartyRecord))
    → Type 0
ArePartiesAmong meant t db versions =
    HoldsOfHistory db (λ h. (r : Register) → IsRegisterAt t h r → (party : ℕ × PartyRecord)
    → Contains (map_list (λ (v : Version (ℕ × PartyRecord)). v.what) versions) party
    ↔ ((has_entry_among r meant party.0 ≡ true) × (map.get r.parties party.0 ≡ Some party.1)))

-- the parties that have an entry in a unit
abbrev pub ArePartiesIn : (unit : ℕ) → (t : ℤ) → Trees → List (Version (ℕ × PartyRecord)) → Type 0
ArePartiesIn unit t db versions = ArePartiesAmong (of_unit unit) t db versions

-- the parties that have an entry in a range of numbers
abbrev pub ArePartiesWithin : (first last : ℕ) → (t : ℤ) → Trees → List (Version (ℕ × PartyRecord)) → Type 0
ArePartiesWithin first last t db versions = ArePartiesAmong (of_range first last) t db versions
