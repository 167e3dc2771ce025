-- Strings that a cell can hold.
use Rattle.std.specs.Prelude.{ℕ, ◌&&◌, Bool, List}
use Rattle.std.specs.Str.{is_utf8}

-- the string is in UTF-8, and within the limits of its field
abbrev pub is_storable : (List ℕ → Bool) → List ℕ → Bool
is_storable is_allowed text = is_utf8 text && is_allowed text
