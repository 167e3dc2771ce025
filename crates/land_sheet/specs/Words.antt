-- Words of sheets and extracts.
use Rattle.std.specs.Prelude.{Bool, true, false, List, ℕ, codes}

-- `yes` if the shares of a unit are checked
abbrev pub checked_word : Bool → List ℕ
checked_word true = codes "yes"
checked_word false = codes "no"
