use Rattle.std.proofs.Common.{ap₂, inr, of_z, refl, rules, subst, to_z, w64, ◌≡◌, ◌∙◌}
use Rattle.std.specs.Io.KnownBytes.{Appends}
use Rattle.land_commands.specs.Filed.{IsTruncated, check_text}
use Rattle.land_commands.proofs.file_commands.check.Goals as goal

-- the line is written
pub returns-in-Ok : goal.returns-in-Ok
returns-in-Ok g c =
    let o = c.in_ok-tables.tables in
    let when : to_z w64 (of_z w64 c.last.result) ≡ c.last.result = search rules in
    let said : c.as_bytes.result.now ≡ check_text o.last o.next = c.as_bytes.ensures.value ∙ c.in_ok-line.ensures ∙ ap₂ check_text (when ∙ c.last.ensures.value) c.next.ensures.value in
    (o, c.in_ok-tables.ensures.finding, subst (λ text. Appends (g.O.Write.contents c.args.output.now) (g.O.Write.contents c.send.new.writer) text) said c.in-Ok.ensures.ok)

-- a prefix of the line is written
pub returns : goal.returns
returns g c =
    let o = c.in_ok-tables.tables in
    let when : to_z w64 (of_z w64 c.last.result) ≡ c.last.result = search rules in
    let said : c.as_bytes.result.now ≡ check_text o.last o.next = c.as_bytes.ensures.value ∙ c.in_ok-line.ensures ∙ ap₂ check_text (when ∙ c.last.ensures.value) c.next.ensures.value in
    let sent = c.in-Err.ensures.err in
    inr (o, c.in_ok-tables.ensures.finding, inr (refl, subst (λ text. IsTruncated text (g.O.Write.contents c.args.output.now) (g.O.Write.contents c.send.new.writer)) said (c.in-Err.field-0, sent.0, sent.1)))
