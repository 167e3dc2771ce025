use Rattle.std.proofs.Common.{rules, ◌≡◌, to_z, of_z, w64, sym}
use Rattle.land_core.specs.Entries.{some}
use Rattle.std.specs.Prelude.{nat_eq}
use Rattle.land_select.proofs.NamedObjects.{source_listed}
use Rattle.land_select.proofs.ReadQueries.{look_means}
use Rattle.land_select.proofs.SlicedRegisters.{included_gathered}
use Rattle.land_select.specs.Slices.Named.{sources_of}
use Rattle.sqlite.specs.Held.{state}
use Rattle.land_select.proofs.slices.slice.read_sources.Goals as goal

pub returns-clause-reads_only : goal.returns-clause-reads_only
returns-clause-reads_only g c =
    let t = c.args.at in
    let when : to_z w64 (of_z w64 t) ≡ t = search rules in
    let ms = c.args.mutations.now in
    let gathered = rw (when, c.as_slice.ensures, c.new.ensures, c.in_ok-sources.ensures) at c.gather_included.ensures.reads_only in
    look_means (state g.S.Store c.args.conn.now) (state g.S.Store c.gather_included.new.conn) c.gather_included.result gathered
    (λ it grown moments h held r have stands.
    included_gathered r.sources (λ n s. n) c.args.is_included (sources_of ms) (λ n. some (λ k m. nat_eq m.source n) ms) it (λ n. sym (source_listed ms n)) (grown moments h held r have stands))
