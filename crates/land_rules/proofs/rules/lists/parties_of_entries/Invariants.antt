use Rattle.std.proofs.Common.{◌≡◌, ℕ, ◌||◌, ◌&&◌}
use Rattle.std.specs.Prelude.{nat_eq}
use Rattle.std.specs.List.{list_any}
use Rattle.land_rules.specs.Holdings.{has_number}
use Rattle.land_rules.specs.Rules.{is_party_in_sight, is_rrr_in_sight}
use Rattle.land_rules.proofs.rules.lists.parties_of_entries.Given as goal

-- the party of a visible entry is in the set, or the entry has not been read yet
abbrev pub invariant-loop-number : goal.invariant-loop-number
invariant-loop-number l = (party : ℕ) → (has_number l.met party || list_any (λ e. nat_eq e.1.party party && is_rrr_in_sight l.at l.caller e.0) l.number-iterator) ≡ is_party_in_sight l.at l.caller party
