-- Acts and their words.
use Rattle.std.proofs.Common.{◌≡◌, ℕ, List, [], ◌∷◌, Option, Some, None, refl, ◌∙◌, ap, true, false, cond, Bool, bytes_eq}
use Rattle.std.proofs.lemmas.Slice.Eq.{bytes_eq-Decides}
use Rattle.std.specs.List.{find}
use Rattle.land_wire.specs.Routes.{is_segment}
use Rattle.land_wire.specs.Routes.ActWords.{act_of, act_word, acts}
use Rattle.land_wire.specs.declared.routes.act_word.ActWord.{ActWord}
use Rattle.land_wire.specs.declared.routes.act_word.ActWord.TheVariants as act

found_among : (bytes : List ℕ) (those : List ActWord) (a : ActWord) → find (λ b. bytes_eq bytes (act_word b)) those ≡ Some a → bytes ≡ act_word a
found_among bytes [] a e = cc
found_among bytes (c ∷ those) a e = by (bytes_eq bytes (act_word c)) refl e (found_among bytes those a)
  where
    by : (v : Bool) → bytes_eq bytes (act_word c) ≡ v → cond v (Some c) (find (λ b. bytes_eq bytes (act_word b)) those) ≡ Some a
        → (find (λ b. bytes_eq bytes (act_word b)) those ≡ Some a → bytes ≡ act_word a) → bytes ≡ act_word a
    by true same f onward =
        let word = (bytes_eq-Decides bytes (act_word c)).0 same in
        let this : c ≡ a = cc in
        word ∙ ap act_word this
    by false same f onward = onward f

pub act_found : (bytes : List ℕ) (a : ActWord) → act_of bytes ≡ Some a → bytes ≡ act_word a
act_found bytes a e = found_among bytes acts a e

pub word_found : (bytes : List ℕ) (a : ActWord) → bytes ≡ act_word a → act_of bytes ≡ Some a
word_found bytes act.Enrol e = rw e refl
word_found bytes act.Group e = rw e refl
word_found bytes act.Regroup e = rw e refl
word_found bytes act.Grant e = rw e refl
word_found bytes act.Revoke e = rw e refl
word_found bytes act.Mandate e = rw e refl
word_found bytes act.Withdraw e = rw e refl
word_found bytes act.Register e = rw e refl
word_found bytes act.Burden e = rw e refl
word_found bytes act.Lift e = rw e refl
word_found bytes act.Transfer e = rw e refl
word_found bytes act.Subdivision e = rw e refl
word_found bytes act.Merger e = rw e refl
word_found bytes act.Mortgage e = rw e refl
word_found bytes act.Discharge e = rw e refl
word_found bytes act.Approve e = rw e refl
word_found bytes act.Refuse e = rw e refl

word_is_part : (a : ActWord) → is_segment (act_word a) ≡ true
word_is_part act.Enrol = refl
word_is_part act.Group = refl
word_is_part act.Regroup = refl
word_is_part act.Grant = refl
word_is_part act.Revoke = refl
word_is_part act.Mandate = refl
word_is_part act.Withdraw = refl
word_is_part act.Register = refl
word_is_part act.Burden = refl
word_is_part act.Lift = refl
word_is_part act.Transfer = refl
word_is_part act.Subdivision = refl
word_is_part act.Merger = refl
word_is_part act.Mortgage = refl
word_is_part act.Discharge = refl
word_is_part act.Approve = refl
word_is_part act.Refuse = refl

-- bytes that are not a segment of a path are not the word of an act
pub no_act : (bytes : List ℕ) → is_segment bytes ≡ false → act_of bytes ≡ None
no_act bytes e = by (act_of bytes) refl
  where
    by : (o : Option ActWord) → act_of bytes ≡ o → o ≡ None
    by None f = refl
    by (Some a) f =
        let p : is_segment bytes ≡ true = rw (act_found bytes a f) (word_is_part a) in
        absurd cc
