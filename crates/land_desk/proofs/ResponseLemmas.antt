-- A reply has exactly one response.
use Rattle.std.proofs.Common.{◌≡◌, List, ℕ, Some, None, sym, ◌∙◌, ap, subst, inl, inr}
use Rattle.land_desk.specs.Responses.{IsReplyBody, OneResponse, medium_of, response, reply_status}
use Rattle.land_keep.specs.declared.reply.Reply.{Reply}
use Rattle.land_keep.specs.declared.reply.Reply.TheVariants as reply
use Rattle.land_keep.specs.declared.view.View.{View}
use Rattle.land_sheet.specs.Laws.{SheetsAreUnique}
use Rattle.land_sheet.specs.Sheets.{IsSheet}
use Rattle.land_wire.specs.Replies.{reply_text}

some_same : (a b : List ℕ) → Some a ≡ Some b → a ≡ b
some_same a b same = cc

-- a title sheet has no JSON
no_json : (view : View) (a : List ℕ) (T : Type 0) → reply_text (reply.Sheet view) ≡ Some a → T
unfolding reply_text
no_json view a T is = absurd (none_some is)
  where
    none_some : None ≡ Some a → ⊥
    none_some e = cc

same_view : (v w : View) → reply.Sheet v ≡ reply.Sheet w → v ≡ w
same_view v w same = cc

one_body : SheetsAreUnique → (r : Reply) (a b : List ℕ) → IsReplyBody r a → IsReplyBody r b → a ≡ b
one_body law r a b (inl x) (inl y) = some_same a b (sym x ∙ y)
one_body law r a b (inl x) (inr y) = no_json y.0 a (a ≡ b) (subst (λ (q : Reply). reply_text q ≡ Some a) y.1 x)
one_body law r a b (inr x) (inl y) = no_json x.0 b (a ≡ b) (subst (λ (q : Reply). reply_text q ≡ Some b) x.1 y)
one_body law r a b (inr x) (inr y) =
    law x.0 a b x.2 (subst (λ (v : View). IsSheet v b) (same_view y.0 x.0 (sym y.1 ∙ x.1)) y.2)

pub one_response : SheetsAreUnique → OneResponse
one_response law r closing head a b x y =
    x.bytes_are ∙ ap (λ (t : List ℕ). response (reply_status r) (medium_of r) t closing head) (one_body law r x.body y.body x.body_is y.body_is)
    ∙ sym y.bytes_are
