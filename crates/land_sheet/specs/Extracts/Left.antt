-- The remaining rows of a caller's list.
use Rattle.std.specs.Prelude.{ℕ, List, drop}
use Rattle.land_sheet.specs.declared.extracts.seen.Seen.{Seen}

-- the numbers whose rows were not returned yet, increasing
abbrev pub remaining_numbers : {K : Type 0} → Seen K → List ℕ
remaining_numbers it = drop it.given it.numbers.now
