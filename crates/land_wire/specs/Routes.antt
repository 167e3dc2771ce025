-- Routes: the resource of a path, and its method. Words are fixed, and one segment of a path is free: it is
-- not empty and has no `/`.
pub mod ActWords
pub mod Laws
pub mod Table
pub mod Targets
use Rattle.std.specs.Prelude.{◌≡◌, ℕ, ◌==◌, ◌&&◌, Bool, true, false, not, List, [], ◌∷◌, ◌++◌, codes}
use Rattle.std.specs.Prelude.{bytes_eq, Option, Some, None, option_map, if◌then◌else◌}
use Rattle.land_core.specs.declared.kind.Kind.{Kind}
use Rattle.land_core.specs.declared.kind.Kind.TheVariants as kind
use Rattle.land_wire.specs.Routes.ActWords.{act_of, act_word}
use Rattle.land_wire.specs.declared.routes.act_word.ActWord.{ActWord}
use Rattle.land_wire.specs.declared.routes.route.Route.{Route}
use Rattle.land_wire.specs.declared.routes.route.Route.TheVariants as route

-- the resource of a path: all objects of a kind, one of them by its number's segment, a unit's title sheet by
-- the number's segment, or an act
pub data Resource : Type 0 where
  list : Kind → Resource
  view : Kind → List ℕ → Resource
  sheet : List ℕ → Resource
  act : ActWord → Resource

-- the path of all objects of a kind
abbrev pub list_path : Kind → List ℕ
list_path kind.Party = codes "/parties"
list_path kind.Unit = codes "/units"
list_path kind.Parcel = codes "/parcels"
list_path kind.Rrr = codes "/rrrs"
list_path kind.Source = codes "/sources"
list_path kind.Mutation = codes "/mutations"

abbrev pub is_empty : List ℕ → Bool
is_empty [] = true
is_empty (b ∷ bytes) = false

abbrev pub has_slash : List ℕ → Bool
has_slash [] = false
has_slash (b ∷ bytes) = if b == 47 then true else has_slash bytes

-- a segment is not empty and has no `/`
abbrev pub is_segment : List ℕ → Bool
is_segment bytes = not (is_empty bytes) && not (has_slash bytes)

-- the rule: a path identifies a resource if it is the resource's fixed words with its segment between them
abbrev pub IsPathOf : List ℕ → Resource → Type 0
IsPathOf path (list k) = path ≡ list_path k
IsPathOf path (view k part) = (path ≡ list_path k ++ 47 ∷ part) × (is_segment part ≡ true)
IsPathOf path (sheet part) = (path ≡ codes "/units/" ++ (part ++ codes "/sheet")) × (is_segment part ≡ true)
IsPathOf path (act word) = path ≡ codes "/acts/" ++ act_word word

-- the rest of a path after a prefix, if the path begins with it
abbrev pub without_prefix : List ℕ → List ℕ → Option (List ℕ)
without_prefix [] path = Some path
without_prefix (x ∷ front) [] = None
without_prefix (x ∷ front) (b ∷ path) = if x == b then without_prefix front path else None

-- the bytes before the first `/`, and the bytes from it on
abbrev pub before_slash : List ℕ → List ℕ
before_slash [] = []
before_slash (b ∷ path) = if b == 47 then [] else b ∷ before_slash path

abbrev pub from_slash : List ℕ → List ℕ
from_slash [] = []
from_slash (b ∷ path) = if b == 47 then b ∷ path else from_slash path

-- continues with the rest if the prefix matched, and otherwise takes the other result
abbrev pub if_matched : {A : Type 0} → Option (List ℕ) → (List ℕ → Option A) → Option A → Option A
if_matched None found other = other
if_matched (Some rest) found other = found rest

-- a title sheet, after `/units/`: a segment, and `/sheet`
abbrev pub resource_of_sheet : List ℕ → Option Resource
resource_of_sheet rest =
    if not (is_empty (before_slash rest)) && bytes_eq (from_slash rest) (codes "/sheet")
    then Some (sheet (before_slash rest))
    else None

-- only units have sheets
abbrev pub resource_of_suffix : Kind → List ℕ → Option Resource
resource_of_suffix kind.Unit rest = resource_of_sheet rest
resource_of_suffix kind.Party rest = None
resource_of_suffix kind.Parcel rest = None
resource_of_suffix kind.Rrr rest = None
resource_of_suffix kind.Source rest = None
resource_of_suffix kind.Mutation rest = None

-- after the path of a kind's list and a `/`: the segment of a view, or a suffix that the kind has
abbrev pub resource_below_slash : Kind → List ℕ → Option Resource
resource_below_slash k rest = if is_segment rest then Some (view k rest) else resource_of_suffix k rest

-- after the path of a kind's list: the end, or a `/` and more
abbrev pub resource_below_list : Kind → List ℕ → Option Resource
resource_below_list k [] = Some (list k)
resource_below_list k (b ∷ rest) = if 47 == b then resource_below_slash k rest else None

-- after `/acts/`: the word of an act
abbrev pub resource_of_act : List ℕ → Option Resource
resource_of_act rest = option_map act (act_of rest)

-- the same rule as a function: the resource of a path, or none
abbrev pub route_of : List ℕ → Option Resource
route_of path =
    if_matched (without_prefix (codes "/acts/") path) resource_of_act
    (if_matched (without_prefix (list_path kind.Mutation) path) (resource_below_list kind.Mutation)
    (if_matched (without_prefix (list_path kind.Parcel) path) (resource_below_list kind.Parcel)
    (if_matched (without_prefix (list_path kind.Party) path) (resource_below_list kind.Party)
    (if_matched (without_prefix (list_path kind.Rrr) path) (resource_below_list kind.Rrr)
    (if_matched (without_prefix (list_path kind.Source) path) (resource_below_list kind.Source)
    (if_matched (without_prefix (list_path kind.Unit) path) (resource_below_list kind.Unit)
    None))))))

-- the resource of the code's route
abbrev pub resource : Route → Resource
resource (route.List k) = list k
resource (route.View k part) = view k part.now
resource (route.Sheet part) = sheet part.now
resource (route.Act word) = act word

-- GET reads lists, objects and title sheets, and POST performs acts
abbrev pub method_of : Resource → List ℕ
method_of (list k) = codes "GET"
method_of (view k part) = codes "GET"
method_of (sheet part) = codes "GET"
method_of (act word) = codes "POST"

-- a resource allows exactly its own method; methods are case-sensitive
abbrev pub allows : Resource → List ℕ → Bool
allows named method = bytes_eq method (method_of named)
