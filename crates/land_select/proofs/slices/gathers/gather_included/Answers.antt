use Rattle.std.proofs.Common.{rules, ◌≡◌, false, to_z, of_z, w64}
use Rattle.land_select.proofs.ReadQueries.{look_means}
use Rattle.sqlite.specs.Held.{state}
use Rattle.land_select.proofs.slices.gathers.gather_included.Goals as goal

pub returns-clause-reads_only : goal.returns-clause-reads_only
returns-clause-reads_only g c =
    let when : to_z w64 (of_z w64 c.args.at) ≡ c.args.at = search rules in
    let gathered = rw (when, c.numbers_if.ensures) at c.gather_all.ensures.reads_only in
    look_means (state g.S.Store c.args.conn.now) (state g.S.Store c.gather_all.new.conn) c.gather_all.result gathered
    (λ it grows moments h held r have stands known. grows moments h held r have stands (λ n. false) known)
