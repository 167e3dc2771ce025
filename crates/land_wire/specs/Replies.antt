-- The texts of replies: compact JSON, the keys of each object in byte order.
use Rattle.std.specs.Prelude.{ℕ, Bool, true, false, List, ◌++◌, map, codes, decimal, ◌≤◌, Option, Some, None}
use Rattle.std.specs.Option.{option_map}
use Rattle.land_core.specs.declared.change.Done.{Done}
use Rattle.land_keep.specs.declared.reply.Reply.{Reply}
use Rattle.land_keep.specs.declared.reply.Reply.TheVariants as reply
use Rattle.land_wire_json.specs.Texts.Objects.{object_data}
use Rattle.land_wire_json.specs.Texts.Values.{number_data, numbers_data, one_member, with_commas}
use Rattle.serde_json.specs.Data.{Data, number, object, no_members, member}
use Rattle.serde_json.specs.Find.{of_integer}
use Rattle.serde_json.specs.Written.{compact_text}

abbrev pub done_data : Done → Data
done_data done =
    object (member (codes "made") (numbers_data done.made)
    (member (codes "number") (number_data done.number)
    (member (codes "stamp") (number (of_integer done.stamp)) no_members)))

-- the reply is a title sheet, the only one that is not JSON
abbrev pub is_sheet : Reply → Bool
is_sheet (reply.Object it) = false
is_sheet (reply.Numbers numbers) = false
is_sheet (reply.Sheet view) = true
is_sheet (reply.Done it) = false
is_sheet (reply.Denied rule) = false
is_sheet (reply.Fault fault) = false
is_sheet (reply.Refused refusal) = false
is_sheet (reply.Store fault) = false

abbrev pub reply_data : Reply → Option Data
reply_data (reply.Object it) = Some (one_member (codes "object") (object_data it))
reply_data (reply.Numbers numbers) = Some (one_member (codes "numbers") (numbers_data numbers))
reply_data (reply.Sheet view) = None
reply_data (reply.Done it) = Some (done_data it)
reply_data (reply.Denied rule) = Some (one_member (codes "denied") (number_data rule))
reply_data (reply.Fault fault) = Some (one_member (codes "fault") (number_data fault))
reply_data (reply.Refused refusal) = Some (one_member (codes "refused") (number_data refusal))
reply_data (reply.Store fault) = Some (one_member (codes "store") (number_data fault))

-- the text of the reply's JSON
unfoldable pub reply_text : Reply → Option (List ℕ)
reply_text reply = option_map compact_text (reply_data reply)

-- 501, 502 or 503
abbrev pub IsStoreFault : ℕ → Type 0
IsStoreFault fault = (501 ≤ fault) × (fault ≤ 503)

-- ---- texts

-- an object with one number
abbrev pub short_text : List ℕ → ℕ → List ℕ
short_text word n = codes "{\"" ++ (word ++ (codes "\":" ++ (decimal n ++ codes "}")))

abbrev pub numbers_text : List ℕ → List ℕ
numbers_text numbers = codes "{\"numbers\":[" ++ (with_commas (map decimal numbers) ++ codes "]}")

abbrev pub done_text : (made : List ℕ) → (n stamp : ℕ) → List ℕ
done_text made n stamp =
    codes "{\"made\":[" ++ (with_commas (map decimal made) ++ (codes "],\"number\":" ++ (decimal n
    ++ (codes ",\"stamp\":" ++ (decimal stamp ++ codes "}")))))

-- an object with the text of an object
abbrev pub object_reply_text : List ℕ → List ℕ
object_reply_text text = codes "{\"object\":" ++ (text ++ codes "}")
