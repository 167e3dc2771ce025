use Rattle.std.proofs.Common.{Ok}
use Rattle.land_tables_rows.proofs.ToldHistories.{cannot, cannot_then, holdings_said, papers_said, persons_said}
use Rattle.land_tables_rows.specs.Listing.Groups.{DecodesUnits, DecodesSources}
use Rattle.land_tables_rows.specs.declared.listing.fault.ReadFault.{ReadFault}
use Rattle.land_tables_schema.proofs.Looking.{look_fails, look_then, was_clean}
use Rattle.land_tables_schema.specs.Rows.ReadQueries.{IsStoreRead}
use Rattle.sqlite.specs.Held.{state}
use Rattle.land_tables_rows.proofs.listing.history.read_history_v1.Goals as goal

pub returns-in_err-persons-clause-unreadable : goal.returns-in_err-persons-clause-unreadable
returns-in_err-persons-clause-unreadable g c clean =
    cannot c.from_residual.result c.in_err-persons.field-0.0 c.from_residual.ensures.1 (persons_said (state g.S.Store c.args.conn.now).now.trees) (c.in_err-persons.ensures.unreadable clean)

pub returns-in_err-holdings-clause-unreadable : goal.returns-in_err-holdings-clause-unreadable
returns-in_err-holdings-clause-unreadable g c clean =
    let a = state g.S.Store c.args.conn.now in
    let b = state g.S.Store c.read_parties_and_roles.new.conn in
    cannot_then DecodesUnits a b c.from_residual-in_err-holdings.result c.in_err-holdings.field-0.0 c.from_residual-in_err-holdings.ensures.1 (holdings_said a.now.trees) c.in_ok-persons.ensures.reads_only
    (was_clean b (state g.S.Store c.read_units_and_entries.new.conn) c.in_err-holdings.ensures.reads_only.survives clean) (c.in_err-holdings.ensures.unreadable clean)

pub returns-in_err-sources_and_mutations-clause-reads_only : goal.returns-in_err-sources_and_mutations-clause-reads_only
returns-in_err-sources_and_mutations-clause-reads_only g c =
    let a = state g.S.Store c.args.conn.now in
    let b = state g.S.Store c.read_parties_and_roles.new.conn in
    let d = state g.S.Store c.read_units_and_entries.new.conn in
    let two : IsStoreRead {X = Unit {0}} {E = ReadFault} (Ok tt) (λ _. Unit {0}) a d = look_then a b d c.in_ok-persons.ensures.reads_only c.in_ok-holdings.ensures.reads_only (λ _ _ _ _. tt) in
    look_fails a d (state g.S.Store c.read_sources_and_mutations.new.conn) c.from_residual-in_err-sources_and_mutations.result c.from_residual-in_err-sources_and_mutations.ensures.0 two c.in_err-sources_and_mutations.ensures.reads_only

pub returns-in_err-sources_and_mutations-clause-unreadable : goal.returns-in_err-sources_and_mutations-clause-unreadable
returns-in_err-sources_and_mutations-clause-unreadable g c clean =
    let a = state g.S.Store c.args.conn.now in
    let b = state g.S.Store c.read_parties_and_roles.new.conn in
    let d = state g.S.Store c.read_units_and_entries.new.conn in
    let two : IsStoreRead {X = Unit {0}} {E = ReadFault} (Ok tt) (λ _. Unit {0}) a d = look_then a b d c.in_ok-persons.ensures.reads_only c.in_ok-holdings.ensures.reads_only (λ _ _ _ _. tt) in
    cannot_then DecodesSources a d c.from_residual-in_err-sources_and_mutations.result c.in_err-sources_and_mutations.field-0.0 c.from_residual-in_err-sources_and_mutations.ensures.1 (papers_said a.now.trees) two
    (was_clean d (state g.S.Store c.read_sources_and_mutations.new.conn) c.in_err-sources_and_mutations.ensures.reads_only.survives clean) (c.in_err-sources_and_mutations.ensures.unreadable clean)
