use Rattle.std.proofs.Common.{ap₂, inl, inr, of_z, refl, rules, subst, to_z, w64, ◌≡◌, ◌∙◌}
use Rattle.std.specs.Io.KnownBytes.{Appends}
use Rattle.land_commands.specs.Filed.{IsTruncated}
use Rattle.land_commands.proofs.Filings.{raised_unsaid}
use Rattle.land_commands.specs.Migrating.{migrated_text}
use Rattle.land_commands.specs.declared.program_fault.ProgramFault.TheVariants.{NoMemory}
use Rattle.land_commands.proofs.migrate_command.migrate.Goals as goal

-- out of memory for the line
pub returns-in_err-line : goal.returns-in_err-line
returns-in_err-line g c =
    raised_unsaid g.H.Store.Store (g.H.Host.holds c.args.file.now) g.H.Host.is_closed c.in_ok-tables.tables (g.O.Write.contents c.args.output.now) NoMemory c.from_residual-in_err-line.result
    c.in_ok-tables.ensures c.from_residual-in_err-line.ensures.1 (inl refl)

-- the file was not closed
pub returns-in_err-close : goal.returns-in_err-close
returns-in_err-close g c =
    raised_unsaid g.H.Store.Store (g.H.Host.holds c.args.file.now) g.H.Host.is_closed c.in_ok-tables.tables (g.O.Write.contents c.args.output.now) c.in_err-close.field-0.0 c.from_residual-in_err-close.result
    c.in_ok-tables.ensures c.from_residual-in_err-close.ensures.1 c.in_err-close.ensures.fault

-- the line is written
pub returns-in-Ok : goal.returns-in-Ok
returns-in-Ok g c =
    let o = c.in_ok-tables.tables in
    let when : to_z w64 (of_z w64 c.last.result) ≡ c.last.result = search rules in
    let said : c.as_bytes.result.now ≡ migrated_text o.last o.next = c.as_bytes.ensures.value ∙ c.in_ok-line.ensures ∙ ap₂ migrated_text (when ∙ c.last.ensures.value) c.next.ensures.value in
    (o, c.in_ok-tables.ensures, subst g.H.Host.is_closed c.into_connection.ensures c.in_ok-close.ensures.closed, subst (λ text. Appends (g.O.Write.contents c.args.output.now) (g.O.Write.contents c.send.new.writer) text) said c.in-Ok.ensures.ok)

-- a prefix of the line is written
pub returns : goal.returns
returns g c =
    let o = c.in_ok-tables.tables in
    let when : to_z w64 (of_z w64 c.last.result) ≡ c.last.result = search rules in
    let said : c.as_bytes.result.now ≡ migrated_text o.last o.next = c.as_bytes.ensures.value ∙ c.in_ok-line.ensures ∙ ap₂ migrated_text (when ∙ c.last.ensures.value) c.next.ensures.value in
    let sent = c.in-Err.ensures.err in
    inr (o, c.in_ok-tables.ensures, inr (refl, subst g.H.Host.is_closed c.into_connection.ensures c.in_ok-close.ensures.closed, subst (λ text. IsTruncated text (g.O.Write.contents c.args.output.now) (g.O.Write.contents c.send.new.writer)) said (c.in-Err.field-0, sent.0, sent.1)))
