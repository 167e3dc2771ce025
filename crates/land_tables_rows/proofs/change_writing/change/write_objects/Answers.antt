use Rattle.std.proofs.Common.{◌≡◌, of_z, rules, to_z, w64}
use Rattle.land_tables_rows.proofs.RewritesTables.{three_steps}
use Rattle.land_tables_rows.proofs.Fitting.{estates_of, papers_of}
use Rattle.sqlite.specs.Held.{state}
use Rattle.land_tables_rows.proofs.change_writing.change.write_objects.Goals as goal

pub write_units_and_entries-requires-clause-fits : goal.write_units_and_entries-requires-clause-fits
write_units_and_entries-requires-clause-fits g c = estates_of c.args.change.now c.requires.fits

pub write_sources_and_mutations-requires-clause-fits : goal.write_sources_and_mutations-requires-clause-fits
write_sources_and_mutations-requires-clause-fits g c = papers_of c.args.change.now c.requires.fits

pub returns-clause-step : goal.returns-clause-step
returns-clause-step g c =
    let same : to_z w64 (of_z w64 c.args.stamp) ≡ c.args.stamp = search rules in
    three_steps _ _ _ (state g.S.Store c.args.tx.now.conn.now) (state g.S.Store c.write_parties_and_roles.new.tx.conn.now) (state g.S.Store c.write_units_and_entries.new.tx.conn.now) (state g.S.Store c.write_sources_and_mutations.new.tx.conn.now)
    c.write_sources_and_mutations.result (rw (same) at c.in_ok-write_parties_and_roles.ensures.step) (rw (same) at c.in_ok-write_units_and_entries.ensures.step) (rw (same) at c.write_sources_and_mutations.ensures.step) (λ done. done) (λ done. done) (λ done. done)
