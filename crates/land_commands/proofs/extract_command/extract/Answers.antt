use Rattle.std.proofs.Common.{inr, subst, ℕ, Result}
use Rattle.land_commands.specs.Extracting.{ExtractsTables}
use Rattle.land_sheet.specs.declared.extracts.fault.ExtractFault.{ExtractFault}
use Rattle.land_commands.proofs.extract_command.extract.Goals as goal

-- the extract is written
pub returns-in-Ok : goal.returns-in-Ok
returns-in-Ok g c =
    let from = c.in_ok-tables.tables in
    let to = c.extract_tables-done.result.1 in
    let old = g.O.Write.contents c.args.output.now in
    let new = g.O.Write.contents c.extract_tables-done.new.output in (
      c.in-Ok._written,
      record {
        from = from;
        to = to;
        taken = c.in_ok-tables.ensures.finding;
        extracted = subst (λ (r : Result ℕ ExtractFault). ExtractsTables g.H.Store.Store from c.args.wanted to old new r) c.in-Ok.is c.extract_tables-done.ensures;
      },
    )

-- the extract is incomplete
pub returns : goal.returns
returns g c =
    let from = c.in_ok-tables.tables in
    let to = c.extract_tables-done.result.1 in
    let old = g.O.Write.contents c.args.output.now in
    let new = g.O.Write.contents c.extract_tables-done.new.output in
    inr (
      c.in-Err.fault,
      record {
        from = from;
        to = to;
        taken = c.in_ok-tables.ensures.finding;
        extracted = subst (λ (r : Result ℕ ExtractFault). ExtractsTables g.H.Store.Store from c.args.wanted to old new r) c.in-Err.is c.extract_tables-done.ensures;
      },
      c.from.ensures,
    )
