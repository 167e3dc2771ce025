use Rattle.std.proofs.Common.{◌≡◌, ◌∙◌, ◌≤◌, ◌++◌, drop, of_z, to_z, w64, rules}
use Rattle.std.specs.List.{slice_range}
use Rattle.land_core.specs.declared.register.Register.{Register}
use Rattle.land_keep.specs.Named.{objects_at}
use Rattle.land_keep.specs.Timeline.{register_at}
use Rattle.land_sheet.proofs.ExtractRows.{IsSoFar, cut_told, more_so_far, part_left, stopped}
use Rattle.land_sheet.specs.Extracts.{rows_at}
use Rattle.land_sheet.specs.Extracts.Writing.{rows_of}
use Rattle.land_sheet.proofs.extracts.extract.write_parts.Goals as goal

-- a part is truncated
pub returns-in_err-written-in-Ok-clause-put : goal.returns-in_err-written-in-Ok-clause-put
returns-in_err-written-in-Ok-clause-put g c honest =
    let tl = g.K.Keeper.timeline c.args.keeper.now in
    let r : Register = register_at tl c.args.at in
    let k = c.args.kind in
    let ns = c.args.numbers.now in
    let given = c.parts.given in
    let end = c.part_end-end.result in
    let a = g.W.Write.contents c.args.writer.now in
    let b = g.W.Write.contents c.parts.writer in
    let alike : to_z w64 (of_z w64 c.args.at) ≡ c.args.at = search rules in
    let trust = c.in-Ok.ensures.was honest in
    let below : given ≤ end = search rules in
    let objects : c.as_slice.result.now ≡ objects_at r k (slice_range ns given end) = c.as_slice.ensures ∙ rw (alike, c.parts.invariant.same trust) at (c.in-Ok.ensures.value honest) in
    let it : IsSoFar (rows_at r k ns) (rows_of c.as_slice.result.now ++ rows_at r k (drop end ns)) c.args.before c.parts.written a b =
    part_left r k ns given end c.args.before c.parts.written a b c.as_slice.result.now below objects (rw alike at (c.parts.invariant.so_far trust)) in
    cut_told (rows_at r k ns) (rows_of c.as_slice.result.now) (rows_at r k (drop end ns)) c.args.before c.parts.written a b _ c.from_residual.result _ c.from_residual.ensures.1 it c.in_err-written-in-Ok.ensures.put

-- the store failed
pub returns-in-Err-clause-put : goal.returns-in-Err-clause-put
returns-in-Err-clause-put g c honest =
    let alike : to_z w64 (of_z w64 c.args.at) ≡ c.args.at = search rules in
    let r : Register = register_at (g.K.Keeper.timeline c.args.keeper.now) c.args.at in
    let k = c.args.kind in
    let ns = c.args.numbers.now in
    stopped (rows_at r k ns) (rows_at r k (drop c.parts.given ns)) c.args.before c.parts.written (g.W.Write.contents c.args.writer.now) (g.W.Write.contents c.parts.writer) (rw alike at (c.parts.invariant.so_far (c.in-Err.ensures.was honest)))

-- a part is written
pub parts-preserved : goal.parts-preserved
parts-preserved g c = record {
  is_open = rw c.parts.invariant.is_open at c.in-Ok.ensures.closes;
  inside = c.part_end-end.ensures.inside;
  was = λ honest. c.parts.invariant.was (c.in-Ok.ensures.was honest);
  same = λ honest. c.in-Ok.ensures.same (honest, rw c.parts.invariant.is_open at c.in-Ok.ensures.closes) ∙ c.parts.invariant.same (c.in-Ok.ensures.was honest);
  so_far = λ honest.
      let tl = g.K.Keeper.timeline c.args.keeper.now in
      let r : Register = register_at tl c.args.at in
      let k = c.args.kind in
      let ns = c.args.numbers.now in
      let given = c.parts.given in
      let end = c.part_end-end.result in
      let a = g.W.Write.contents c.args.writer.now in
      let b = g.W.Write.contents c.parts.writer in
      let alike : to_z w64 (of_z w64 c.args.at) ≡ c.args.at = search rules in
      let trust = c.in-Ok.ensures.was honest in
      let below : given ≤ end = search rules in
      let objects : c.as_slice.result.now ≡ objects_at r k (slice_range ns given end) = c.as_slice.ensures ∙ rw (alike, c.parts.invariant.same trust) at (c.in-Ok.ensures.value honest) in
      let it : IsSoFar (rows_at r k ns) (rows_of c.as_slice.result.now ++ rows_at r k (drop end ns)) c.args.before c.parts.written a b =
      part_left r k ns given end c.args.before c.parts.written a b c.as_slice.result.now below objects (rw alike at (c.parts.invariant.so_far trust)) in
      rw alike (more_so_far (rows_at r k ns) (rows_of c.as_slice.result.now) (rows_at r k (drop end ns)) c.args.before c.parts.written _ a b _ it c.in_ok-written-in-Ok.ensures.put);
}
