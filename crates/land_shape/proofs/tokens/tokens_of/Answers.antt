-- A word byte extends the current word; any other byte ends it.
use Rattle.std.proofs.Common.{◌≡◌, ◌+◌, ◌-◌, ◌++◌, true, false, take, drop, get_or, arith, sym, ap, ◌∙◌, List}
use Rattle.land_shape.specs.declared.tokens.Token.{Token}
use Rattle.land_shape.specs.Tokens.{is_word_byte}
use Rattle.land_shape.proofs.TokenLemmas.{word_goes_on, word_ends_here, ends_so_far, no_word}
use Rattle.land_shape.proofs.tokens.tokens_of.Goals as goal
use Rattle.land_shape.proofs.tokens.tokens_of.Goals.{then-not-is_word_byte+in_ok-push_word+in_ok-push_mark, else-not-is_word_byte}

pub loop-i-preserved : goal.loop-i-preserved
loop-i-preserved c =
    let bytes = c.as_bytes-bytes.result.now in let i = c.loop-i.i in let start = c.loop-i.start in
    elim c.if-not-is_word_byte.branch [
      | then-not-is_word_byte+in_ok-push_word+in_ok-push_mark w ↦
          (let ends : is_word_byte (get_or bytes i 0) ≡ false = sym c.is_word_byte.ensures ∙ w.if-not-is_word_byte.true in
          let here = word_ends_here bytes (take (i - start) (drop start bytes)) i c.loop-i-test.true ends in
          rw (w.tokens-is, w.start-is, w.in_ok-push_mark.ensures, w.in_ok-push_word.ensures, no_word bytes (i + 1))
          (record { begun = omega arith; so_far = ends_so_far _ _ _ _ _ _ here c.loop-i.invariant.so_far }))
      | else-not-is_word_byte w ↦
          (let within : is_word_byte (get_or bytes i 0) ≡ true = sym c.is_word_byte.ensures ∙ w.if-not-is_word_byte.false in
          let on = word_goes_on bytes start i c.loop-i.invariant.begun c.loop-i-test.true within in
          rw (w.tokens-is, w.start-is)
          (record { begun = omega arith; so_far = ap (λ (t : List Token). c.loop-i.tokens.items ++ t) (sym on) ∙ c.loop-i.invariant.so_far }))
    ]
