use Rattle.std.proofs.Common.{ap, inl, inr, of_z, refl, rules, subst, sym, to_z, w64, ◌≡◌, ◌∙◌}
use Rattle.std.proofs.KnownBytes.{Appends-nil}
use Rattle.std.specs.Io.KnownBytes.{Appends}
use Rattle.std.specs.Prelude.{unwrap_or}
use Rattle.land_commands.proofs.Digests.{digest_unsaid, passed_intervals}
use Rattle.land_commands.specs.Digesting.{contents_text}
use Rattle.land_commands.specs.Filed.{IsTruncated}
use Rattle.land_commands.proofs.digest_command.digest.Goals as goal
use Rattle.land_core.specs.Numbers.{last_moment}

pub digest_line-requires : goal.digest_line-requires
digest_line-requires g c = passed_intervals c.in_ok-opened.opened.1 c.in_ok-opened.ensures.passes

-- out of memory for the line
pub returns-in_err-line : goal.returns-in_err-line
returns-in_err-line g c =
    digest_unsaid g.H.Store.Store (g.H.Host.holds c.args.file.now) (unwrap_or c.args.at last_moment) c.in_ok-opened.opened.0 c.in_ok-opened.opened.1 (g.O.Write.contents c.args.output.now) c.from_residual-in_err-line.result
    c.in_ok-opened.ensures c.from_residual-in_err-line.ensures.1

-- the line is written
pub returns-in-Ok : goal.returns-in-Ok
returns-in-Ok g c =
    let it = c.in_ok-opened.opened in
    let when : to_z w64 (of_z w64 c.unwrap_or.result) ≡ c.unwrap_or.result = search rules in
    let at : to_z w64 (of_z w64 c.unwrap_or.result) ≡ unwrap_or c.args.at last_moment = when ∙ c.unwrap_or.ensures in
    let said : c.as_bytes.result.now ≡ contents_text it.1 (unwrap_or c.args.at last_moment) = c.as_bytes.ensures.value ∙ c.in_ok-line.ensures ∙ ap (contents_text it.1) at in
    (it.0, it.1, c.in_ok-opened.ensures, subst (λ text. Appends (g.O.Write.contents c.args.output.now) (g.O.Write.contents c.send.new.writer) text) said c.in-Ok.ensures.ok)

-- a prefix of the line is written
pub returns : goal.returns
returns g c =
    let it = c.in_ok-opened.opened in
    let when : to_z w64 (of_z w64 c.unwrap_or.result) ≡ c.unwrap_or.result = search rules in
    let at : to_z w64 (of_z w64 c.unwrap_or.result) ≡ unwrap_or c.args.at last_moment = when ∙ c.unwrap_or.ensures in
    let said : c.as_bytes.result.now ≡ contents_text it.1 (unwrap_or c.args.at last_moment) = c.as_bytes.ensures.value ∙ c.in_ok-line.ensures ∙ ap (contents_text it.1) at in
    let sent = c.in-Err.ensures.err in
    inr (it.0, it.1, c.in_ok-opened.ensures, inr (refl, subst (λ text. IsTruncated text (g.O.Write.contents c.args.output.now) (g.O.Write.contents c.send.new.writer)) said (c.in-Err.field-0, sent.0, sent.1)))
