-- Laws of routes, each stated with definitions only.
use Rattle.std.specs.Prelude.{◌≡◌, ◌↔◌, ℕ, List, Some}
use Rattle.land_wire.specs.Routes.{IsPathOf, Resource, route_of}
use Rattle.land_wire.specs.Routes.ActWords.{act_of, act_word}
use Rattle.land_wire.specs.declared.routes.act_word.ActWord.{ActWord}

-- the function returns for a path exactly the resource that the rule gives
abbrev pub PathsNameResources : Type 0
PathsNameResources = (path : List ℕ) (named : Resource) → IsPathOf path named ↔ (route_of path ≡ Some named)

-- a path identifies at most one resource
abbrev pub PathsNameOneResource : Type 0
PathsNameOneResource = (path : List ℕ) (a b : Resource) → IsPathOf path a → IsPathOf path b → a ≡ b

-- exactly the word of an act yields that act
abbrev pub WordsNameActs : Type 0
WordsNameActs = (bytes : List ℕ) (act : ActWord) → (act_of bytes ≡ Some act) ↔ (bytes ≡ act_word act)
