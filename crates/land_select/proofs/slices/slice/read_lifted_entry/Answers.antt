use Rattle.std.proofs.Common.{rules, ◌≡◌, to_z, of_z, w64, ◌∙◌}
use Rattle.land_select.proofs.SlicedRegisters.{lifts_none, no_look_needed}
use Rattle.sqlite.specs.Held.{state}
use Rattle.land_select.proofs.slices.slice.read_lifted_entry.Goals as goal

pub returns-in-Lift-clause-reads_only : goal.returns-in-Lift-clause-reads_only
returns-in-Lift-clause-reads_only g c =
    let when : to_z w64 (of_z w64 c.args.at) ≡ c.args.at = search rules in
    let reads_only = rw when at c.entry_at.ensures.reads_only in
    rw c.in-Lift.is reads_only

pub returns-in_default : goal.returns-in_default
returns-in_default g c = record {
  reads_only = no_look_needed _ _ (state g.S.Store c.args.conn.now) c.requires.open (λ moments h held r have stands. c.new.ensures ∙ lifts_none r c.args.act.now c.in_default.not-Lift);
  autocommit = λ autocommit. autocommit;
}
