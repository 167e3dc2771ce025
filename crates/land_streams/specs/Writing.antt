-- The written part of a text, and the count of its bytes.
use Rattle.std.specs.Prelude.{◌≡◌, ◌≤◌, ◌+◌, ℕ, List, length, take, Option}
use Rattle.std.specs.Io.KnownBytes.{Appends}

-- a whole text is appended, and `after` counts the bytes written
abbrev pub WritesAll : (text : List ℕ) → (before after : ℕ) → (old new : Option (List ℕ)) → Type 0
WritesAll text before after old new = (after ≡ before + length text) × Appends old new text

-- a prefix of a text is appended, and `after` counts the bytes written
abbrev pub WritesPrefix : (text : List ℕ) → (before after : ℕ) → (old new : Option (List ℕ)) → Type 0
WritesPrefix text before after old new = (n : ℕ) × (n ≤ length text) × (after ≡ before + n)
    × Appends old new (take n text)
