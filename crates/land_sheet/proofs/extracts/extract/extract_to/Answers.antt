use Rattle.std.proofs.Common.{◌≡◌, ◌∙◌, ℕ, ℤ, List, Err, rules, subst, refl, ap, ap₂, of_z, to_z}
use Rattle.std.specs.Int.{w64}
use Rattle.std.specs.Prelude.{unwrap_or}
use Rattle.land_core.specs.declared.register.Register.{Register}
use Rattle.land_keep.proofs.Steps.{opens}
use Rattle.land_keep.specs.Machine.{now_of}
use Rattle.land_keep.specs.Timeline.{register_at}
use Rattle.land_keep.specs.declared.reply.Reply.TheVariants as reply
use Rattle.land_rules.specs.Rules.{seen_of}
use Rattle.land_sheet.proofs.Puts.{extracted, not_told, put_then}
use Rattle.land_sheet.specs.Extracts.{list_reply, rows_at}
use Rattle.land_sheet.specs.Extracts.Writing.{IsListed, WritesText, IsListReply}
use Rattle.land_sheet.specs.Rows.{header_text}
use Rattle.land_streams.proofs.Fronts.{front_of}
use Rattle.land_streams.specs.Writing.{WritesPrefix, WritesAll}
use Rattle.land_sheet.proofs.extracts.extract.extract_to.Goals as goal

-- the list is denied or fails
pub returns-in_err-listed-clause-extracted : goal.returns-in_err-listed-clause-extracted
returns-in_err-listed-clause-extracted g c honest =
    let alike : to_z w64 (of_z w64 c.args.clock) ≡ c.args.clock = search rules in
    let so = subst (λ (clock : ℤ). IsListed (list_reply clock c.args.caller c.args.kind c.args.at (g.K.Keeper.timeline c.args.keeper.now)) (Err c.in_err-listed.field-0.0)) alike (c.in_err-listed.ensures.listed honest) in
    not_told _ _ (g.W.Write.contents c.args.writer.now) c.from_residual.result c.in_err-listed.field-0.0 c.from_residual.ensures.1 so

-- out of memory for the header
pub returns-in_err-header-clause-extracted : goal.returns-in_err-header-clause-extracted
returns-in_err-header-clause-extracted g c honest =
    not_told _ _ (g.W.Write.contents c.args.writer.now) c.from_residual-in_err-header.result _ c.from_residual-in_err-header.ensures.1 refl

-- the header is written, and rows follow
pub returns-in-Ok-clause-extracted : goal.returns-in-Ok-clause-extracted
returns-in-Ok-clause-extracted g c honest =
    let alike : to_z w64 (of_z w64 c.args.clock) ≡ c.args.clock = search rules in
    let alike_at : to_z w64 (of_z w64 c.in_ok-listed.listed.at) ≡ c.in_ok-listed.listed.at = search rules in
    let tl = g.K.Keeper.timeline c.args.keeper.now in
    let t = unwrap_or c.args.at (now_of c.args.clock tl) in
    let trust = c.write_parts.ensures.was honest in
    let given = subst (λ (clock : ℤ). list_reply clock c.args.caller c.args.kind c.args.at tl ≡ reply.Numbers c.in_ok-listed.listed.numbers) alike (c.in_ok-listed.ensures.listed trust) in
    let lists : IsListReply (list_reply c.args.clock c.args.caller c.args.kind c.args.at tl) = (c.in_ok-listed.listed.numbers, given) in
    let same : g.K.Keeper.timeline c.list.new.keeper ≡ tl = c.in_ok-listed.ensures.same (trust, (opens _ _ tt c.in_ok-listed.ensures.closes).1) in
    let moment : c.in_ok-listed.listed.at ≡ t = c.in_ok-listed.ensures.moment trust ∙ ap (λ (clock : ℤ). unwrap_or c.args.at (now_of clock tl)) alike in
    let seen : c.in_ok-listed.listed.numbers ≡ seen_of (register_at tl t) c.args.caller c.args.kind = rw moment at (c.in_ok-listed.ensures.seen trust) in
    let numbers : c.as_slice-numbers.result.now ≡ seen_of (register_at tl t) c.args.caller c.args.kind = c.as_slice-numbers.ensures ∙ seen in
    let a = g.W.Write.contents c.args.writer.now in
    let b = g.W.Write.contents c.put.new.writer in
    let d = g.W.Write.contents c.write_parts.new.writer in
    let header : c.as_slice.result.now ≡ header_text c.args.kind = c.as_slice.ensures.value ∙ c.in_ok-header.ensures in
    let first = subst (λ (text : List ℕ). WritesAll text 0 c.in-Ok.written a b) header c.in-Ok.ensures.ok in
    let rows = subst (λ (text : List ℕ). WritesText text c.in-Ok.written b d c.write_parts.result)
    (ap₂ (λ (r : Register) (ns : List ℕ). rows_at r c.args.kind ns) (ap₂ register_at same (alike_at ∙ moment)) numbers) (c.write_parts.ensures.put honest) in
    extracted _ _ a d c.write_parts.result lists (put_then (header_text c.args.kind) (rows_at (register_at tl t) c.args.kind (seen_of (register_at tl t) c.args.caller c.args.kind)) 0 c.in-Ok.written a b d c.write_parts.result first rows)

-- the header is truncated
pub returns-clause-extracted : goal.returns-clause-extracted
returns-clause-extracted g c honest =
    let alike : to_z w64 (of_z w64 c.args.clock) ≡ c.args.clock = search rules in
    let tl = g.K.Keeper.timeline c.args.keeper.now in
    let it = register_at tl (unwrap_or c.args.at (now_of c.args.clock tl)) in
    let given = subst (λ (clock : ℤ). list_reply clock c.args.caller c.args.kind c.args.at tl ≡ reply.Numbers c.in_ok-listed.listed.numbers) alike (c.in_ok-listed.ensures.listed honest) in
    let a = g.W.Write.contents c.args.writer.now in
    let b = g.W.Write.contents c.put.new.writer in
    let header : c.as_slice.result.now ≡ header_text c.args.kind = c.as_slice.ensures.value ∙ c.in_ok-header.ensures in (
      (c.in_ok-listed.listed.numbers, given),
      front_of (header_text c.args.kind) (rows_at it c.args.kind (seen_of it c.args.caller c.args.kind)) 0 c.in-Err.written a b
          (subst (λ (text : List ℕ). WritesPrefix text 0 c.in-Err.written a b) header c.in-Err.ensures.err),
    )
