-- The texts of replies, as plain bytes.
use Rattle.std.proofs.Common.{◌≡◌, ◌∙◌, ℕ, List, ◌++◌, refl, ap, codes, Some, decimal, pos, sym}
use Rattle.land_core.specs.declared.object.Object.{Object}
use Rattle.land_core.specs.declared.change.Done.{Done}
use Rattle.land_keep.specs.declared.reply.Reply.{Reply}
use Rattle.land_keep.specs.declared.reply.Reply.TheVariants as reply
use Rattle.land_wire.specs.Replies.{done_data, reply_text, short_text, numbers_text, done_text, object_reply_text}
use Rattle.land_wire_json.proofs.PartyTexts.{all_numbers}
use Rattle.land_wire_json.specs.Texts.Objects.{object_data, object_text}
use Rattle.land_wire_json.specs.Texts.Values.{one_member}
use Rattle.serde_json.proofs.OnLiterals.{serde_json_on_literals}
use Rattle.serde_json.specs.Written.{compact_text}

-- a text that the reply has as plain bytes
pub told_plainly : (r : Reply) (plain text : List ℕ) → reply_text r ≡ Some plain → text ≡ plain → reply_text r ≡ Some text
told_plainly r plain text law e = law ∙ ap Some (sym e)

-- ---- the texts

pub object_json : (it : Object) → reply_text (reply.Object it) ≡ Some (compact_text (one_member (codes "object") (object_data it)))
unfolding reply_text
object_json it = refl

pub done_json : (it : Done) → reply_text (reply.Done it) ≡ Some (compact_text (done_data it))
unfolding reply_text
done_json it = refl

pub denied_text : (n : ℕ) → reply_text (reply.Denied n) ≡ Some (short_text (codes "denied") n)
unfolding reply_text serde_json_on_literals
denied_text n = refl

pub fault_text : (n : ℕ) → reply_text (reply.Fault n) ≡ Some (short_text (codes "fault") n)
unfolding reply_text serde_json_on_literals
fault_text n = refl

pub refused_text : (n : ℕ) → reply_text (reply.Refused n) ≡ Some (short_text (codes "refused") n)
unfolding reply_text serde_json_on_literals
refused_text n = refl

pub store_text : (n : ℕ) → reply_text (reply.Store n) ≡ Some (short_text (codes "store") n)
unfolding reply_text serde_json_on_literals
store_text n = refl

-- ---- lists

pub numbers-text : (ns : List ℕ) → reply_text (reply.Numbers ns) ≡ Some (numbers_text ns)
unfolding reply_text serde_json_on_literals
numbers-text ns = ap (λ (t : List ℕ). Some (codes "{\"numbers\":[" ++ t)) (all_numbers ns (codes "}"))

pub done-text : (made : List ℕ) (n stamp : ℕ) → reply_text (reply.Done (record { number = n; made = made; stamp = pos stamp })) ≡ Some (done_text made n stamp)
unfolding reply_text serde_json_on_literals
done-text made n stamp =
    ap (λ (t : List ℕ). Some (codes "{\"made\":[" ++ t))
    (all_numbers made (codes ",\"number\":" ++ (decimal n ++ (codes ",\"stamp\":" ++ (decimal stamp ++ codes "}")))))

-- ---- objects

pub shown-text : (it : Object) → reply_text (reply.Object it) ≡ Some (object_reply_text (object_text it))
unfolding reply_text serde_json_on_literals
shown-text it = refl
