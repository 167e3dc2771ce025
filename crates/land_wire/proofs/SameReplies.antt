-- A text determines its reply.
use Rattle.std.proofs.Common.{◌≡◌, ◌≤◌, ℕ, ℤ, List, [], true, codes, Some, refl, sym, ap, ◌∙◌, arith}
use Rattle.land_core.specs.declared.change.Done.{Done}
use Rattle.land_keep.specs.declared.reply.Reply.{Reply}
use Rattle.land_keep.specs.declared.reply.Reply.TheVariants as reply
use Rattle.land_shape.specs.Laws.{PrintedLaw}
use Rattle.land_wire.specs.Replies.{done_data, reply_text}
use Rattle.land_wire.specs.ReplyLimits.{IsDoneWithin, IsReplyWithin}
use Rattle.land_wire_json.proofs.ExactTexts.{number_is_exact, moment_is_exact, numbers_are_exact, numbers_depth, object_is_exact, object_depth}
use Rattle.land_wire_json.proofs.SameFields.{fields_in, at, head_byte, number_in, items_in, apart, same_numbers, same_moment}
use Rattle.land_wire_json.proofs.SameTexts.{same_data, same_object}
use Rattle.land_wire_json.specs.Texts.Exact.{is_exact}
use Rattle.land_wire_json.specs.Texts.Objects.{object_data}
use Rattle.land_wire_json.specs.Texts.Values.{number_data, numbers_data, one_member}
use Rattle.serde_json.specs.Data.{Data, null, Members, no_members, member, depth}
use Rattle.serde_json.specs.Read.{max_depth}
use Rattle.serde_json.specs.Written.{compact_text}

-- the content of a reply, if it is not a sheet
abbrev told_data : Reply → Data
told_data (reply.Object it) = one_member (codes "object") (object_data it)
told_data (reply.Numbers numbers) = one_member (codes "numbers") (numbers_data numbers)
told_data (reply.Sheet view) = null
told_data (reply.Done it) = done_data it
told_data (reply.Denied rule) = one_member (codes "denied") (number_data rule)
told_data (reply.Fault fault) = one_member (codes "fault") (number_data fault)
told_data (reply.Refused refusal) = one_member (codes "refused") (number_data refusal)
told_data (reply.Store fault) = one_member (codes "store") (number_data fault)

told_text : (r : Reply) → IsReplyWithin r → reply_text r ≡ Some (compact_text (told_data r))
unfolding reply_text
told_text (reply.Object it) h = refl
told_text (reply.Numbers it) h = refl
told_text (reply.Sheet it) h = absurd h
told_text (reply.Done it) h = refl
told_text (reply.Denied it) h = refl
told_text (reply.Fault it) h = refl
told_text (reply.Refused it) h = refl
told_text (reply.Store it) h = refl

told_exact : (r : Reply) → IsReplyWithin r → is_exact (told_data r) ≡ true
told_exact (reply.Object it) h = rw (object_is_exact it h) refl
told_exact (reply.Numbers numbers) h = rw (numbers_are_exact numbers h) refl
told_exact (reply.Sheet view) h = absurd h
told_exact (reply.Done it) h = rw (numbers_are_exact it.made h.made, number_is_exact it.number h.number, moment_is_exact it.stamp h.stamp) refl
told_exact (reply.Denied rule) h = rw (number_is_exact rule h) refl
told_exact (reply.Fault fault) h = rw (number_is_exact fault h) refl
told_exact (reply.Refused refusal) h = rw (number_is_exact refusal h) refl
told_exact (reply.Store fault) h = rw (number_is_exact fault h) refl

told_depth : (r : Reply) → depth (told_data r) ≤ max_depth
told_depth (reply.Object it) = omega (arith, object_depth it)
told_depth (reply.Numbers numbers) = omega (arith, numbers_depth numbers)
told_depth (reply.Sheet view) = omega arith
told_depth (reply.Done it) = omega (arith, numbers_depth it.made)
told_depth (reply.Denied rule) = omega arith
told_depth (reply.Fault fault) = omega arith
told_depth (reply.Refused refusal) = omega arith
told_depth (reply.Store fault) = omega arith

-- ---- the first letters of their words differ

abbrev first_key : Members → List ℕ
first_key no_members = []
first_key (member k d ms) = k

abbrev letter : Data → ℕ
letter d = head_byte (first_key (fields_in d))

abbrev reply_letter : Reply → ℕ
reply_letter (reply.Object it) = 111
reply_letter (reply.Numbers it) = 110
reply_letter (reply.Sheet it) = 0
reply_letter (reply.Done it) = 109
reply_letter (reply.Denied it) = 100
reply_letter (reply.Fault it) = 102
reply_letter (reply.Refused it) = 114
reply_letter (reply.Store it) = 115

letter_is : (r : Reply) → letter (told_data r) ≡ reply_letter r
letter_is (reply.Object it) = refl
letter_is (reply.Numbers it) = refl
letter_is (reply.Sheet it) = refl
letter_is (reply.Done it) = refl
letter_is (reply.Denied it) = refl
letter_is (reply.Fault it) = refl
letter_is (reply.Refused it) = refl
letter_is (reply.Store it) = refl

-- ---- replies

abbrev done_of : ℕ → List ℕ → ℤ → Done
done_of number made stamp = record { number = number; made = made; stamp = stamp }

done_by : (m n : ℕ) (ms ns : List ℕ) (s t : ℤ) → m ≡ n → ms ≡ ns → s ≡ t → done_of m ms s ≡ done_of n ns t
done_by m n ms ns s t e f g = rw (e, f, g) refl

same_done : (a b : Done) → IsDoneWithin a → IsDoneWithin b → done_data a ≡ done_data b → a ≡ b
same_done a b h k e =
    done_by a.number b.number a.made b.made a.stamp b.stamp (ap (λ (d : Data). number_in (at 1 d)) e)
    (same_numbers a.made b.made h.made k.made (ap (λ (d : Data). items_in (at 0 d)) e))
    (same_moment a.stamp b.stamp h.stamp k.stamp (ap (λ (d : Data). at 2 d) e))

replies_by : PrintedLaw → (a b : Reply) → IsReplyWithin a → IsReplyWithin b → told_data a ≡ told_data b → reply_letter a ≡ reply_letter b → a ≡ b
replies_by printing (reply.Object a) (reply.Object b) h k e f = ap reply.Object (same_object printing a b h k (ap (λ (d : Data). at 0 d) e))
replies_by printing (reply.Object a) (reply.Numbers b) h k e f = absurd (apart 111 110 f refl)
replies_by printing (reply.Object a) (reply.Sheet b) h k e f = absurd k
replies_by printing (reply.Object a) (reply.Done b) h k e f = absurd (apart 111 109 f refl)
replies_by printing (reply.Object a) (reply.Denied b) h k e f = absurd (apart 111 100 f refl)
replies_by printing (reply.Object a) (reply.Fault b) h k e f = absurd (apart 111 102 f refl)
replies_by printing (reply.Object a) (reply.Refused b) h k e f = absurd (apart 111 114 f refl)
replies_by printing (reply.Object a) (reply.Store b) h k e f = absurd (apart 111 115 f refl)
replies_by printing (reply.Numbers a) (reply.Object b) h k e f = absurd (apart 110 111 f refl)
replies_by printing (reply.Numbers a) (reply.Numbers b) h k e f = ap reply.Numbers (same_numbers a b h k (ap (λ (d : Data). items_in (at 0 d)) e))
replies_by printing (reply.Numbers a) (reply.Sheet b) h k e f = absurd k
replies_by printing (reply.Numbers a) (reply.Done b) h k e f = absurd (apart 110 109 f refl)
replies_by printing (reply.Numbers a) (reply.Denied b) h k e f = absurd (apart 110 100 f refl)
replies_by printing (reply.Numbers a) (reply.Fault b) h k e f = absurd (apart 110 102 f refl)
replies_by printing (reply.Numbers a) (reply.Refused b) h k e f = absurd (apart 110 114 f refl)
replies_by printing (reply.Numbers a) (reply.Store b) h k e f = absurd (apart 110 115 f refl)
replies_by printing (reply.Sheet a) (reply.Object b) h k e f = absurd h
replies_by printing (reply.Sheet a) (reply.Numbers b) h k e f = absurd h
replies_by printing (reply.Sheet a) (reply.Sheet b) h k e f = absurd h
replies_by printing (reply.Sheet a) (reply.Done b) h k e f = absurd h
replies_by printing (reply.Sheet a) (reply.Denied b) h k e f = absurd h
replies_by printing (reply.Sheet a) (reply.Fault b) h k e f = absurd h
replies_by printing (reply.Sheet a) (reply.Refused b) h k e f = absurd h
replies_by printing (reply.Sheet a) (reply.Store b) h k e f = absurd h
replies_by printing (reply.Done a) (reply.Object b) h k e f = absurd (apart 109 111 f refl)
replies_by printing (reply.Done a) (reply.Numbers b) h k e f = absurd (apart 109 110 f refl)
replies_by printing (reply.Done a) (reply.Sheet b) h k e f = absurd k
replies_by printing (reply.Done a) (reply.Done b) h k e f = ap reply.Done (same_done a b h k e)
replies_by printing (reply.Done a) (reply.Denied b) h k e f = absurd (apart 109 100 f refl)
replies_by printing (reply.Done a) (reply.Fault b) h k e f = absurd (apart 109 102 f refl)
replies_by printing (reply.Done a) (reply.Refused b) h k e f = absurd (apart 109 114 f refl)
replies_by printing (reply.Done a) (reply.Store b) h k e f = absurd (apart 109 115 f refl)
replies_by printing (reply.Denied a) (reply.Object b) h k e f = absurd (apart 100 111 f refl)
replies_by printing (reply.Denied a) (reply.Numbers b) h k e f = absurd (apart 100 110 f refl)
replies_by printing (reply.Denied a) (reply.Sheet b) h k e f = absurd k
replies_by printing (reply.Denied a) (reply.Done b) h k e f = absurd (apart 100 109 f refl)
replies_by printing (reply.Denied a) (reply.Denied b) h k e f = ap reply.Denied (ap (λ (d : Data). number_in (at 0 d)) e)
replies_by printing (reply.Denied a) (reply.Fault b) h k e f = absurd (apart 100 102 f refl)
replies_by printing (reply.Denied a) (reply.Refused b) h k e f = absurd (apart 100 114 f refl)
replies_by printing (reply.Denied a) (reply.Store b) h k e f = absurd (apart 100 115 f refl)
replies_by printing (reply.Fault a) (reply.Object b) h k e f = absurd (apart 102 111 f refl)
replies_by printing (reply.Fault a) (reply.Numbers b) h k e f = absurd (apart 102 110 f refl)
replies_by printing (reply.Fault a) (reply.Sheet b) h k e f = absurd k
replies_by printing (reply.Fault a) (reply.Done b) h k e f = absurd (apart 102 109 f refl)
replies_by printing (reply.Fault a) (reply.Denied b) h k e f = absurd (apart 102 100 f refl)
replies_by printing (reply.Fault a) (reply.Fault b) h k e f = ap reply.Fault (ap (λ (d : Data). number_in (at 0 d)) e)
replies_by printing (reply.Fault a) (reply.Refused b) h k e f = absurd (apart 102 114 f refl)
replies_by printing (reply.Fault a) (reply.Store b) h k e f = absurd (apart 102 115 f refl)
replies_by printing (reply.Refused a) (reply.Object b) h k e f = absurd (apart 114 111 f refl)
replies_by printing (reply.Refused a) (reply.Numbers b) h k e f = absurd (apart 114 110 f refl)
replies_by printing (reply.Refused a) (reply.Sheet b) h k e f = absurd k
replies_by printing (reply.Refused a) (reply.Done b) h k e f = absurd (apart 114 109 f refl)
replies_by printing (reply.Refused a) (reply.Denied b) h k e f = absurd (apart 114 100 f refl)
replies_by printing (reply.Refused a) (reply.Fault b) h k e f = absurd (apart 114 102 f refl)
replies_by printing (reply.Refused a) (reply.Refused b) h k e f = ap reply.Refused (ap (λ (d : Data). number_in (at 0 d)) e)
replies_by printing (reply.Refused a) (reply.Store b) h k e f = absurd (apart 114 115 f refl)
replies_by printing (reply.Store a) (reply.Object b) h k e f = absurd (apart 115 111 f refl)
replies_by printing (reply.Store a) (reply.Numbers b) h k e f = absurd (apart 115 110 f refl)
replies_by printing (reply.Store a) (reply.Sheet b) h k e f = absurd k
replies_by printing (reply.Store a) (reply.Done b) h k e f = absurd (apart 115 109 f refl)
replies_by printing (reply.Store a) (reply.Denied b) h k e f = absurd (apart 115 100 f refl)
replies_by printing (reply.Store a) (reply.Fault b) h k e f = absurd (apart 115 102 f refl)
replies_by printing (reply.Store a) (reply.Refused b) h k e f = absurd (apart 115 114 f refl)
replies_by printing (reply.Store a) (reply.Store b) h k e f = ap reply.Store (ap (λ (d : Data). number_in (at 0 d)) e)

same_some : (s t : List ℕ) → Some s ≡ Some t → s ≡ t
same_some s t e = cc

pub replies_are_told : PrintedLaw → (a b : Reply) → IsReplyWithin a → IsReplyWithin b → reply_text a ≡ reply_text b → a ≡ b
replies_are_told printing a b h k e =
    let texts = same_some (compact_text (told_data a)) (compact_text (told_data b)) (sym (told_text a h) ∙ e ∙ told_text b k) in
    let data_is = same_data (told_data a) (told_data b) (told_exact a h) (told_exact b k) (told_depth a) (told_depth b) texts in
    replies_by printing a b h k data_is (sym (letter_is a) ∙ ap letter data_is ∙ letter_is b)
