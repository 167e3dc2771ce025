-- Text and fields that a call appends. If the call runs out of memory, a part of them may be missing.
use Rattle.std.specs.Prelude.{◌≡◌, ◌++◌, ℕ, List, map, OnOk, Result, String, string_bytes, Vec}
use Rattle.std.specs.declared.alloc.Global.{Global}

-- a call that succeeds appends these bytes to the text
abbrev pub AppendsText : {E : Type 0} → Result (Unit {0}) E → (old new : String Global) → List ℕ → Type 0
AppendsText result old new bytes = OnOk result (string_bytes new ≡ string_bytes old ++ bytes)

-- a call that succeeds appends these fields to the row
abbrev pub AppendsFields : {E : Type 0} → Result (Unit {0}) E → (old new : Vec (String Global) Global)
    → List (List ℕ) → Type 0
AppendsFields result old new fields =
    OnOk result (map string_bytes new.items ≡ map string_bytes old.items ++ fields)
