use Rattle.std.proofs.Common.{◌≡◌, ℤ, pos, Option, ◌∙◌, ap, get_or, subst, sym, to_z, of_z, w64}
use Rattle.std.proofs.lemmas.Int.{to_z-of_z}
use Rattle.sha2.specs.Hashers.{Holds256}
use Rattle.sha2.specs.Sha256.{sha256}
use Rattle.sha2.specs.declared.Sha256.{Sha256}
use Rattle.land_digest.proofs.Parts.{IsUpto, between, part_added, text_until}
use Rattle.land_digest.proofs.digest.history_digest.Goals as goal
use Rattle.land_digest.proofs.digest.history_digest.Goals.{then-is_between+in_ok-put_part, else-is_between}
use Rattle.land_digest.specs.History.{history_text}

-- a part is hashed, or skipped
pub parts-preserved : goal.parts-preserved
parts-preserved c =
    let moments = c.args.moments.now in
    let h = c.args.history.now in
    let u = to_z w64 (of_z w64 c.args.upto) in
    let held : Sha256 → Option ℤ → Type 0 = λ hasher after. Holds256 hasher (text_until moments h after) × IsUpto after u in
    let end = to_z w64 (of_z w64 (get_or c.deref-end-items.result.now c.parts.end-index (pos 0))) in
    elim c.if-is_between.branch [
      | then-is_between+in_ok-put_part w ↦
          let later = between c.parts.after u end (sym w.if-is_between.ensures) in
          let text = w.in_ok-put_part.ensures _ c.parts.invariant.0 in
          subst (λ after. held c.if-is_between.hasher after) (sym w.after-is) (
            subst (λ hasher. Holds256 hasher (history_text moments h end)) (sym w.hasher-is)
                (subst (Holds256 w.put_part.new.hasher) (part_added moments h c.parts.after end later.0) text),
            later.1,
          )
      | else-is_between w ↦
          subst (λ after. held c.if-is_between.hasher after) (sym w.after-is)
          (subst (λ hasher. held hasher c.parts.after) (sym w.hasher-is) c.parts.invariant)
    ]

pub returns : goal.returns
returns c =
    let moments = c.args.moments.now in
    let h = c.args.history.now in
    let back : to_z w64 (of_z w64 c.args.upto) ≡ c.args.upto = to_z-of_z w64 c.args.upto c.ranges.upto in
    let whole = c.finalize.ensures _ (c.in_ok-put_part-2.ensures _ c.parts.invariant.0) in
    whole
    ∙ ap sha256 (part_added moments h c.parts.after (to_z w64 (of_z w64 c.args.upto)) c.parts.invariant.1
    ∙ ap (λ (t : ℤ). history_text moments h t) back)
