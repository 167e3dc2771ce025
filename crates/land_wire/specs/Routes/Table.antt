-- The route table, and the correctness of a router.
use Rattle.std.specs.Borrow.{Bor}
use Rattle.std.specs.Prelude.{◌≡◌, ℕ, ◌<◌, ◌+◌, ◌&&◌, Bool, true, false, List, [], ◌∷◌, codes, drop, length}
use Rattle.std.specs.Prelude.{Option, Some, None, is_none, Result, Ok, Err}
use Rattle.land_wire.specs.Routes.{Resource, before_slash, list, list_path, resource_of_act, route_of, sheet}
use Rattle.land_wire.specs.Routes.{view}
use Rattle.land_wire.specs.declared.routes.table.Endpoint.{Endpoint}
use Rattle.land_wire.specs.declared.routes.table.Endpoint.TheVariants as to
use Rattle.matchit.specs.Order.{placed}
use Rattle.matchit.specs.Route.{Scan, parse_route}
use Rattle.matchit.specs.Router.{RouteOf, nearest, route_from}
use Rattle.matchit.specs.Rows.{RowsOf}
use Rattle.matchit.specs.Seek.{first}

-- the rows of a router, in the order in which it tries them
abbrev pub Routes : Type 0
Routes = RowsOf (RouteOf Endpoint)

-- the rows with an entry inserted at its place
abbrev pub with_scan : {E : Type 0} → Result Scan E → Endpoint → Routes → Routes
with_scan (Ok scan) goal rows = placed (scan.pattern, route_from scan goal) rows
with_scan (Err error) goal rows = rows

abbrev pub with_route : List ℕ → Endpoint → Routes → Routes
with_route text goal rows = with_scan (parse_route text) goal rows

abbrev pub with_entry : Routes → Bor (List ℕ) × Endpoint → Routes
with_entry rows entry = with_route entry.0.now entry.1 rows

-- an entry has no conflict if it parses, and it conflicts with none of the rows
abbrev pub has_no_conflict_scan : {E : Type 0} → Routes → Result Scan E → Bool
has_no_conflict_scan rows (Ok scan) = is_none (nearest scan.pattern rows)
has_no_conflict_scan rows (Err error) = false

abbrev pub has_no_conflict : Routes → List ℕ → Bool
has_no_conflict rows text = has_no_conflict_scan rows (parse_route text)

-- each entry has no conflict with those before it
abbrev pub have_no_conflicts : Routes → List (Bor (List ℕ) × Endpoint) → Bool
have_no_conflicts rows [] = true
have_no_conflicts rows (entry ∷ rest) = has_no_conflict rows entry.0.now
    && have_no_conflicts (with_entry rows entry) rest

-- the resource of an endpoint at a path: the segment of a view follows the word of its kind and a `/`, that
-- of a sheet lies between `/units/` and the next `/`, and the word of an act follows `/acts/`
abbrev pub resource_of_endpoint : List ℕ → Endpoint → Option Resource
resource_of_endpoint path (to.List k) = Some (list k)
resource_of_endpoint path (to.View k) = Some (view k (drop (length (list_path k) + 1) path))
resource_of_endpoint path to.Sheet = Some (sheet (before_slash (drop (length (codes "/units/")) path)))
resource_of_endpoint path to.Act = resource_of_act (drop (length (codes "/acts/")) path)

-- the resource of a router's match
abbrev pub resource_of_match : List ℕ → Option (RouteOf Endpoint) → Option Resource
resource_of_match path None = None
resource_of_match path (Some row) = resource_of_endpoint path row.value

-- a path consists of bytes: 256 is the token of a free segment in `matchit`
abbrev pub AreBytes : List ℕ → Type 0
AreBytes [] = Unit {0}
AreBytes (b ∷ bytes) = (b < 256) × AreBytes bytes

-- the router finds for each path its resource, and nothing if the path has none
abbrev pub RoutesCorrectly : Routes → Type 0
RoutesCorrectly rows = (path : List ℕ) → AreBytes path → resource_of_match path (first rows path)
    ≡ route_of path
