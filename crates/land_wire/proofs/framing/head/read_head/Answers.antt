use Rattle.std.proofs.Common.{◌≡◌, ◌<◌, ◌≤◌, ◌∙◌, List, ℕ, ap, arith, inr, length, length-append, refl, subst, sym}
use Rattle.std.proofs.KnownBytes.{Keeps-refl, Keeps-trans}
use Rattle.std.specs.Io.KnownBytes.{prepend_known}
use Rattle.land_wire.proofs.ItemLemmas.{none_read, not_open, piece_read}
use Rattle.land_wire.proofs.StreamLemmas.{at_any, at_end, head_in, never_later, head_long, cut_short}
use Rattle.land_wire.specs.Framing.Stream.{HasHead, IsHeadFault}
use Rattle.land_wire.specs.declared.framing.frame_fault.FrameFault.TheVariants as fault
use Rattle.land_wire.proofs.framing.head.read_head.Goals as goal

pub returns-in-Whole-clause-whole : goal.returns-in-Whole-clause-whole
returns-in-Whole-clause-whole g c =
    let h = rw c.deref.ensures.value at c.in-Whole.ensures in
    let small : c.min-end.result ≤ 8192 = omega arith in
    head_in c.loop-spans.buffer.items c.min-end.result _ c.in-Whole.spans small h

pub returns-in-Never-clause-fault : goal.returns-in-Never-clause-fault
returns-in-Never-clause-fault g c =
    let small : c.min-end.result ≤ 8192 = omega arith in
    let inside : c.min-end.result ≤ length c.loop-spans.buffer.items = omega arith in
    let never = rw c.deref.ensures.value at c.in-Never.ensures in
    at_any c.loop-spans.buffer.items _ (λ s. IsHeadFault s fault.Head) (λ rest. never_later c.loop-spans.buffer.items rest c.min-end.result small inside never)

pub returns-then-len-ge-HEAD_LIMIT-clause-fault : goal.returns-then-len-ge-HEAD_LIMIT-clause-fault
returns-then-len-ge-HEAD_LIMIT-clause-fault g c =
    let full : 8192 ≤ length c.loop-spans.buffer.items = omega arith in
    let all : c.min-end.result ≡ 8192 = omega arith in
    let open_now = rw (c.deref.ensures.value, all) at c.in-More.ensures in
    at_any c.loop-spans.buffer.items _ (λ s. IsHeadFault s fault.HeadLong) (λ rest. head_long c.loop-spans.buffer.items rest full open_now)

pub returns-in-Ok-eq0-clause-fault : goal.returns-in-Ok-eq0-clause-fault
returns-in-Ok-eq0-clause-fault g c =
    let small : length c.loop-spans.buffer.items < 8192 = omega arith in
    let all : c.min-end.result ≡ length c.loop-spans.buffer.items = omega arith in
    let open_now = rw c.deref.ensures.value at c.in-More.ensures in
    let grown = c.in-Ok-eq0.ensures.grows in
    at_end c.read_more.new.buffer.items _ (λ s. IsHeadFault s fault.Cut) (c.in-Ok-eq0.ensures.end c.in-Ok-eq0.field-0-test)
    (cut_short c.loop-spans.buffer.items c.read_more.new.buffer.items grown.0 c.min-end.result _ all small grown.2 grown.1 c.in-Ok-eq0.field-0-test open_now)

pub returns-in-Ok-eq0-clause-ahead : goal.returns-in-Ok-eq0-clause-ahead
returns-in-Ok-eq0-clause-ahead g c small =
    let short : length c.loop-spans.buffer.items < 8192 = omega arith in
    let all : c.min-end.result ≡ length c.loop-spans.buffer.items = omega arith in
    let open_now = rw c.deref.ensures.value at c.in-More.ensures in
    let grown = c.in-Ok-eq0.ensures.grows in
    piece_read c.loop-spans.buffer.items c.read_more.new.buffer.items grown.0 c.min-end.result all short grown.2
    (omega (arith, grown.1, c.in-Ok-eq0.field-0-test)) open_now

pub loop-spans-init : goal.loop-spans-init
loop-spans-init g c = (
  Keeps-refl (prepend_known c.args.buffer.now.items (g.R.Read.remaining c.args.reader.now.reader.now)),
  (λ h rest has. (refl, refl)),
  omega arith,
  (λ small. none_read c.args.buffer.now.items small),
  refl,
  omega arith,
  (λ most wide small. small),
)

pub loop-spans-preserved : goal.loop-spans-preserved
loop-spans-preserved g c =
    let short : length c.loop-spans.buffer.items < 8192 = omega arith in
    let all : c.min-end.result ≡ length c.loop-spans.buffer.items = omega arith in
    let open_now = rw c.deref.ensures.value at c.in-More.ensures in
    let grown = c.in-Ok.ensures.grows in (
      Keeps-trans (prepend_known c.args.buffer.now.items (g.R.Read.remaining c.args.reader.now.reader.now))
          (prepend_known c.loop-spans.buffer.items (g.R.Read.remaining c.loop-spans.reader.reader.now))
          (prepend_known c.read_more.new.buffer.items (g.R.Read.remaining c.read_more.new.reader.reader.now))
          c.loop-spans.invariant.0 c.in-Ok.ensures.stream,
      (λ h rest has.
          let same = c.loop-spans.invariant.1 h rest has in
          absurd (not_open c.loop-spans.buffer.items c.min-end.result h rest (subst (λ (t : List ℕ). HasHead t h rest) (sym same.1) has) (inr all) open_now.0)),
      omega (arith, c.loop-spans.invariant.2, c.in-Ok.ensures.bound),
      (λ small. piece_read c.loop-spans.buffer.items c.read_more.new.buffer.items grown.0 c.min-end.result all short grown.2
          (omega (arith, c.in-Ok.ensures.bound, c.in-Ok.ensures.spends, ap length grown.2, length-append c.loop-spans.buffer.items grown.0)) open_now),
      c.in-Ok.ensures.same_reference ∙ c.loop-spans.invariant.4,
      omega (arith, c.loop-spans.invariant.5, c.in-Ok.ensures.fewer),
      (λ most wide small. omega (arith, short, wide, c.in-Ok.ensures.limit)),
    )
