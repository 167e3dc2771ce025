-- HTTP responses, as bytes (RFC 9112, sections 4 and 5).
use Rattle.std.specs.Prelude.{◌≡◌, ℕ, Bool, List, [], ◌++◌, length, codes, decimal, Some, ◌⊎◌, if◌then◌else◌}
use Rattle.land_core.specs.Numbers.{IsMoment}
use Rattle.land_desk.specs.declared.response.Medium.{Medium}
use Rattle.land_desk.specs.declared.response.Medium.TheVariants.{Json, Sheet}
use Rattle.land_desk.specs.declared.response.Status.{Status}
use Rattle.land_desk.specs.declared.response.Status.TheVariants.{Ok, BadRequest, Forbidden, Conflict}
use Rattle.land_desk.specs.declared.response.Status.TheVariants.{Unavailable}
use Rattle.land_keep.specs.declared.reply.Reply.{Reply}
use Rattle.land_keep.specs.declared.reply.Reply.TheVariants as reply
use Rattle.land_keep.specs.declared.view.View.{View}
use Rattle.land_sheet.specs.Sheets.{IsSheet}
use Rattle.land_wire.specs.Replies.{reply_text}

-- Code and phrase of a status (RFC 9110, section 15).
abbrev pub status_text : Status → List ℕ
status_text Ok = codes "200 OK"
status_text BadRequest = codes "400 Bad Request"
status_text Forbidden = codes "403 Forbidden"
status_text Conflict = codes "409 Conflict"
status_text Unavailable = codes "503 Service Unavailable"

-- The status of a reply: 200 for an answer, 403 for a denial, 400 for a fault, 409 for a refusal, 503 for a
-- store fault.
abbrev pub reply_status : Reply → Status
reply_status (reply.Object object) = Ok
reply_status (reply.Numbers numbers) = Ok
reply_status (reply.Sheet view) = Ok
reply_status (reply.Done done) = Ok
reply_status (reply.Denied rule) = Forbidden
reply_status (reply.Fault fault) = BadRequest
reply_status (reply.Refused refusal) = Conflict
reply_status (reply.Store fault) = Unavailable

-- The media type of a body (RFC 9110, section 8.3).
abbrev pub medium_text : Medium → List ℕ
medium_text Json = codes "application/json"
medium_text Sheet = codes "text/plain; charset=utf-8"

-- A title sheet is plain text, every other reply is JSON.
abbrev pub medium_of : Reply → Medium
medium_of (reply.Object object) = Json
medium_of (reply.Numbers numbers) = Json
medium_of (reply.Sheet view) = Sheet
medium_of (reply.Done done) = Json
medium_of (reply.Denied rule) = Json
medium_of (reply.Fault fault) = Json
medium_of (reply.Refused refusal) = Json
medium_of (reply.Store fault) = Json

-- The body of a reply: its JSON, or the title sheet of its view.
abbrev pub IsReplyBody : Reply → List ℕ → Type 0
IsReplyBody r body = (reply_text r ≡ Some body) ⊎ ((view : View) × (r ≡ reply.Sheet view) × IsSheet view body)

-- Status line, fields, an empty line and the body. `Connection: close` is sent if the connection closes after
-- the response. The response to a HEAD request has the length of the body, but not the body.
unfoldable pub response : Status → Medium → (body : List ℕ) → (closing head : Bool) → List ℕ
response status medium body closing head =
    codes "HTTP/1.1 " ++ (status_text status ++ (codes "\r\n"
    ++ (codes "Content-Type: " ++ (medium_text medium ++ (codes "\r\n"
    ++ (codes "Content-Length: " ++ (decimal (length body) ++ (codes "\r\n"
    ++ ((if closing then codes "Connection: close\r\n" else [])
    ++ (codes "\r\n" ++ (if head then [] else body)))))))))))

-- These bytes are the response for a reply.
pub record IsResponse (r : Reply) (closing head : Bool) (bytes : List ℕ) : Type 0 where
  pub body : List ℕ
  pub body_is : IsReplyBody r body
  pub bytes_are : bytes ≡ response (reply_status r) (medium_of r) body closing head

-- A title sheet is of a valid moment.
abbrev pub HasValidMoment : Reply → Type 0
HasValidMoment (reply.Object object) = Unit {0}
HasValidMoment (reply.Numbers numbers) = Unit {0}
HasValidMoment (reply.Sheet view) = IsMoment view.at
HasValidMoment (reply.Done done) = Unit {0}
HasValidMoment (reply.Denied rule) = Unit {0}
HasValidMoment (reply.Fault fault) = Unit {0}
HasValidMoment (reply.Refused refusal) = Unit {0}
HasValidMoment (reply.Store fault) = Unit {0}

-- A reply has exactly one response.
abbrev pub OneResponse : Type 0
OneResponse =
    (r : Reply) (closing head : Bool) (a b : List ℕ) → IsResponse r closing head a
    → IsResponse r closing head b → a ≡ b
