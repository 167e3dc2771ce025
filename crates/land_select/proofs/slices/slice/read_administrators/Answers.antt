use Rattle.std.proofs.Common.{rules, ◌≡◌, to_z, of_z, w64, ◌∙◌}
use Rattle.land_core.proofs.FiniteSets.{exact_grants, grants_total}
use Rattle.land_select.proofs.Keeping.{none_kept}
use Rattle.land_select.proofs.SlicedRegisters.{no_look_needed}
use Rattle.sqlite.specs.Held.{state}
use Rattle.land_select.proofs.slices.slice.read_administrators.Goals as goal

pub returns-then-is_included-clause-reads_only : goal.returns-then-is_included-clause-reads_only
returns-then-is_included-clause-reads_only g c =
    let when : to_z w64 (of_z w64 c.args.at) ≡ c.args.at = search rules in
    let reads_only = rw when at c.administrators.ensures.reads_only in
    rw c.if-is_included.true reads_only

pub returns-else-is_included-clause-reads_only : goal.returns-else-is_included-clause-reads_only
returns-else-is_included-clause-reads_only g c =
    rw c.if-is_included.false (no_look_needed _ _ (state g.S.Store c.args.conn.now) c.requires.open (λ moments h held r have stands. c.new.ensures ∙ none_kept grants_total exact_grants r.roles))
