-- Reads a request: a function of method, target, header fields and body.
use Rattle.std.specs.Prelude.{ℕ, List, Result, Ok, Err, if◌then◌else◌, ⊤}
use Rattle.http_header.specs.FieldValue.{FieldValue}
use Rattle.http_header.specs.HeaderMap.{Entries}
use Rattle.land_core.specs.declared.ask.Ask.{Ask}
use Rattle.land_core.specs.declared.ask.Ask.TheVariants as ask
use Rattle.land_core.specs.declared.ask.Request.{Request}
use Rattle.land_core.specs.declared.caller.Caller.{Caller}
use Rattle.land_wire.specs.Acts.{act_in}
use Rattle.land_wire.specs.Fields.{caller_in}
use Rattle.land_wire.specs.Numbers.{number_in_text}
use Rattle.land_wire.specs.Queries.{no_query, at_in}
use Rattle.land_wire.specs.Routes.{Resource, list, view, sheet, act, route_of, allows}
use Rattle.land_wire.specs.Routes.Targets.{path_of, query_of}
use Rattle.land_wire_json.specs.Bodies.WireFaults.{◌>>=◌, or_fault}
use Rattle.land_wire_json.specs.declared.bodies.wire_fault.WireFault.{WireFault}
use Rattle.land_wire_json.specs.declared.bodies.wire_fault.WireFault.TheVariants as fault

-- the resource of a path; fault 136 if the path has none
abbrev pub require_resource : (path : List ℕ) → Result Resource WireFault
require_resource path = or_fault (route_of path) fault.NoRoute

-- fault 137 if the method is not the resource's
abbrev pub require_method : Resource → (method : List ℕ) → Result ⊤ WireFault
require_method named method = if allows named method then Ok tt else Err fault.Method

-- the ask: the number in the path, then the query, then the body, which only acts have
abbrev pub ask_of : Resource → (query body : List ℕ) → Result Ask WireFault
ask_of (list kind) query body = do
  at ← at_in query
  Ok (ask.List kind at)
ask_of (view kind part) query body = do
  number ← number_in_text part
  at ← at_in query
  Ok (ask.View kind number at)
ask_of (sheet part) query body = do
  unit ← number_in_text part
  at ← at_in query
  Ok (ask.Sheet unit at)
ask_of (act word) query body = do
  none ← no_query query
  wanted ← act_in word body
  Ok (ask.Do wanted)

-- the request, or its first fault in this order: the route, the method, the caller's fields, the ask
unfoldable pub parts_reading : (method path query : List ℕ) → Result Caller WireFault → (body : List ℕ)
    → Result Request WireFault
parts_reading method path query asking body = do
  resource ← require_resource path
  permit ← require_method resource method
  caller ← asking
  asked ← ask_of resource query body
  Ok (record { caller = caller; ask = asked })

-- likewise for a target, which is a path and a query
abbrev pub reading_by : (method target : List ℕ) → Result Caller WireFault → (body : List ℕ)
    → Result Request WireFault
reading_by method target asking body = parts_reading method (path_of target) (query_of target) asking body

-- likewise for the fields of a head, which contain the caller
abbrev pub request_reading : (method target : List ℕ) → Entries FieldValue → (body : List ℕ)
    → Result Request WireFault
request_reading method target fields body = reading_by method target (caller_in fields) body
