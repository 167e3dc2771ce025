use Rattle.std.proofs.Common.{◌≡◌, ◌-◌, ◌≤◌, ℕ, List, length, reverse, slice_range, take, sym, ap, ◌∙◌, arith}
use Rattle.std.proofs.lemmas.List.{reverse-reverse, take_all}
use Rattle.httparse.proofs.TrimLemmas.{skip_ows_yes, skip_ows_no, slice_first, slice_last, slice_empty}
use Rattle.httparse.specs.Grammar.{skip_ows, trim_ows}
use Rattle.land_wire.proofs.framing.connection.trim_whitespace.Goals.{then-loop-start-test+else-is_space_or_tab, else-loop-start-test, then-loop-end-test+else-is_space_or_tab-2, else-loop-end-test}
use Rattle.land_wire.proofs.framing.connection.trim_whitespace.Goals as goal

pub loop-start-init : goal.loop-start-init
loop-start-init c =
    let n = length c.args.bytes.now in
    let whole : n - 0 ≡ n = omega arith in
    (omega arith, ap skip_ows (sym (ap (λ (k : ℕ). take k c.args.bytes.now) whole ∙ take_all n c.args.bytes.now (omega arith))))

pub loop-start-preserved : goal.loop-start-preserved
loop-start-preserved c = (
  omega arith,
  c.loop-start.invariant.1 ∙ skip_ows_yes (slice_first _ _ _ c.loop-start-test.true (omega arith)) c.if-is_space_or_tab.ensures,
)

pub loop-end-init : goal.loop-end-init
unfolding trim_ows
loop-end-init c =
    let whole : length c.args.bytes.now ≤ length c.args.bytes.now = omega arith in
    let here = slice_range c.args.bytes.now c.loop-start.start (length c.args.bytes.now) in
    let stays : skip_ows here ≡ here =
    elim c.loop-start-test.branch [
      | then-loop-start-test+else-is_space_or_tab w ↦
          let first = slice_first _ _ _ w.loop-start-test.true whole in
          skip_ows_no first w.if-is_space_or_tab.ensures
      | else-loop-start-test w ↦
          let empty = slice_empty c.args.bytes.now c.loop-start.start (length c.args.bytes.now) (omega arith) whole in
          ap skip_ows empty ∙ sym empty
    ] in (
      omega arith,
      omega arith,
      ap (λ (t : List ℕ). reverse (skip_ows (reverse t))) (c.loop-start.invariant.1 ∙ stays),
    )

pub loop-end-preserved : goal.loop-end-preserved
loop-end-preserved c =
    let last = slice_last c.args.bytes.now _ _ c.loop-end-test.true (omega arith) in (
      omega arith,
      omega arith,
      c.loop-end.invariant.2
          ∙ ap reverse (skip_ows_yes last c.if-is_space_or_tab-2.ensures),
    )

pub returns : goal.returns
returns c =
    let stays : reverse (skip_ows (reverse (slice_range c.args.bytes.now c.loop-start.start c.loop-end.end))) ≡ slice_range c.args.bytes.now c.loop-start.start c.loop-end.end =
    elim c.loop-end-test.branch [
      | then-loop-end-test+else-is_space_or_tab-2 w ↦
          let last = slice_last c.args.bytes.now _ _ w.loop-end-test.true (omega arith) in
          ap reverse (skip_ows_no last w.if-is_space_or_tab-2.ensures) ∙ reverse-reverse _
      | else-loop-end-test w ↦
          let empty = slice_empty c.args.bytes.now c.loop-start.start c.loop-end.end (omega arith) (omega arith) in
          ap (λ (t : List ℕ). reverse (skip_ows (reverse t))) empty ∙ sym empty
    ] in
    sym (c.loop-end.invariant.2 ∙ stays)
