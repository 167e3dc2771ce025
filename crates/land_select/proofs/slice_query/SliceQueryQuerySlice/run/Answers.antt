use Rattle.std.proofs.Common.{of_z, rules, subst, to_z, w64, ◌≡◌}
use Rattle.std.specs.Prelude.{ℤ}
use Rattle.land_rules.specs.Denials.Standing.{mutation_of_act}
use Rattle.land_select.specs.Cache.{IsMutationValue}
use Rattle.land_select.specs.Slices.Gathered.{HoldsOfRegister, read_slice_of}
use Rattle.land_tables_schema.specs.Rows.ReadQueries.{IsStoreRead}
use Rattle.sqlite.specs.Held.{state}
use Rattle.land_select.proofs.slice_query.SliceQueryQuerySlice.run.Goals as goal

pub returns-clause-reads_only : goal.returns-clause-reads_only
returns-clause-reads_only g c =
    let a = state g.S.Store c.args.conn.now in
    let it = c.args.self.now in
    let t : to_z w64 (of_z w64 it.moment) ≡ it.moment = search rules in
    subst (λ (x : ℤ). IsStoreRead c.slice_at.result (λ slice. HoldsOfRegister (λ r. IsMutationValue r it.caller (mutation_of_act it.act.now) it.known.now → r.next ≡ it.next → slice ≡ read_slice_of it.needed_only r it.caller it.act.now) x a.now.trees) a (state g.S.Store c.slice_at.new.conn)) t c.slice_at.ensures.reads_only
