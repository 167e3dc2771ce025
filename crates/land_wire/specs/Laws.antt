-- Laws of requests and replies, each stated with definitions only.
use Rattle.std.specs.Prelude.{◌≡◌, ℕ, ℤ, pos, Bool, true, false, List, map, codes, bytes_eq, Option, Some}
use Rattle.std.specs.Prelude.{None, IfOk, Result}
use Rattle.http_header.specs.FieldValue.{FieldValue, plain_value}
use Rattle.http_header.specs.HeaderMap.{Entries, get_all}
use Rattle.http_header.specs.Token.{lowercase}
use Rattle.land_core.specs.Acts.{is_well_formed_request}
use Rattle.land_core.specs.Numbers.{IsMoment}
use Rattle.land_core.specs.declared.ask.Ask.{Ask}
use Rattle.land_core.specs.declared.ask.Ask.TheVariants as ask
use Rattle.land_core.specs.declared.caller.Caller.{Caller}
use Rattle.land_core.specs.declared.object.Object.{Object}
use Rattle.land_keep.specs.Machine.{at_of}
use Rattle.land_keep.specs.declared.reply.Reply.{Reply}
use Rattle.land_keep.specs.declared.reply.Reply.TheVariants as reply
use Rattle.land_wire.specs.Fields.{field_map, values_named}
use Rattle.land_wire.specs.Queries.{at_in}
use Rattle.land_wire.specs.Reading.{request_reading, reading_by}
use Rattle.land_wire.specs.Replies.{reply_text, short_text, numbers_text, done_text, object_reply_text}
use Rattle.land_wire.specs.ReplyLimits.{IsReplyWithin}
use Rattle.land_wire_json.specs.Texts.Objects.{object_text}
use Rattle.land_wire_json.specs.declared.bodies.wire_fault.WireFault.{WireFault}

-- each request that was read is within the limits of its fields
abbrev pub ReadingsAreWellFormed : Type 0
ReadingsAreWellFormed =
    (method target : List ℕ) (asking : Result Caller WireFault) (body : List ℕ)
    → IfOk (reading_by method target asking body) (λ request. is_well_formed_request request ≡ true)

-- the body of a GET is ignored
abbrev pub BodiesOfReadsAreIgnored : Type 0
BodiesOfReadsAreIgnored =
    (target : List ℕ) (fields : Entries FieldValue) (body other : List ℕ)
    → request_reading (codes "GET") target fields body ≡ request_reading (codes "GET") target fields other

-- the ask requests an act
abbrev pub requests_act : Ask → Bool
requests_act (ask.View kind number at) = false
requests_act (ask.List kind at) = false
requests_act (ask.Sheet unit at) = false
requests_act (ask.Do wanted) = true

-- a request with GET does not request an act
abbrev pub GetsDoNothing : Type 0
GetsDoNothing =
    (target : List ℕ) (fields : Entries FieldValue) (body : List ℕ)
    → IfOk (request_reading (codes "GET") target fields body) (λ request. requests_act request.ask ≡ false)

-- each other method that is accepted is POST, and requests an act
abbrev pub OtherMethodsRequestActs : Type 0
OtherMethodsRequestActs =
    (method target : List ℕ) (fields : Entries FieldValue) (body : List ℕ)
    → bytes_eq method (codes "GET") ≡ false
    → IfOk (request_reading method target fields body)
    (λ request. (requests_act request.ask ≡ true) × (bytes_eq method (codes "POST") ≡ true))

-- the moment of a query, if there is one, is from 0 to the last moment
abbrev pub IsExplicitMoment : Option ℤ → Type 0
IsExplicitMoment None = Unit {0}
IsExplicitMoment (Some moment) = IsMoment moment

abbrev pub QueryMomentsAreValid : Type 0
QueryMomentsAreValid = (query : List ℕ) → IfOk (at_in query) IsExplicitMoment

-- likewise the moment of a request
abbrev pub RequestMomentsAreValid : Type 0
RequestMomentsAreValid =
    (method target : List ℕ) (asking : Result Caller WireFault) (body : List ℕ)
    → IfOk (reading_by method target asking body) (λ request. IsExplicitMoment (at_of request.ask))

-- a header map has for a name the values of the fields with that name, compared without case
abbrev pub FieldNamesIgnoreCase : Type 0
FieldNamesIgnoreCase =
    (fields : List (List ℕ × List ℕ)) (name : List ℕ)
    → get_all (field_map fields) (lowercase name) ≡ map plain_value (values_named name fields)

-- the texts of replies that contain one number
abbrev pub ShortTexts : Type 0
ShortTexts =
    (n : ℕ) → (reply_text (reply.Denied n) ≡ Some (short_text (codes "denied") n))
    × (reply_text (reply.Fault n) ≡ Some (short_text (codes "fault") n))
    × (reply_text (reply.Refused n) ≡ Some (short_text (codes "refused") n))
    × (reply_text (reply.Store n) ≡ Some (short_text (codes "store") n))

abbrev pub NumbersTexts : Type 0
NumbersTexts = (numbers : List ℕ) → reply_text (reply.Numbers numbers) ≡ Some (numbers_text numbers)

-- stamps are moments, so they are not negative
abbrev pub DoneTexts : Type 0
DoneTexts =
    (made : List ℕ) (n stamp : ℕ)
    → reply_text (reply.Done (record { number = n; made = made; stamp = pos stamp }))
    ≡ Some (done_text made n stamp)

-- the text of an object's reply contains the object's text
abbrev pub ObjectTexts : Type 0
ObjectTexts = (it : Object) → reply_text (reply.Object it) ≡ Some (object_reply_text (object_text it))

-- a text determines its reply, if the reply is within its limits
abbrev pub TextsDetermineReplies : Type 0
TextsDetermineReplies = (a b : Reply) → IsReplyWithin a → IsReplyWithin b → reply_text a ≡ reply_text b
    → a ≡ b
