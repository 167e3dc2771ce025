use Rattle.std.proofs.Common.{rules, ◌≡◌, sym, to_z, of_z, w64, ◌∙◌}
use Rattle.land_select.proofs.EarlyInterest.{own_shown}
use Rattle.land_select.proofs.Judged.{looked_at_nothing}
use Rattle.land_select.proofs.ReadQueries.{look_means}
use Rattle.sqlite.specs.Held.{state}
use Rattle.land_select.proofs.verdict.interest.is_found_entry_shown.Goals as goal

pub returns-then-is_own_entry-clause-reads_only : goal.returns-then-is_own_entry-clause-reads_only
returns-then-is_own_entry-clause-reads_only g c =
    looked_at_nothing _ _ (state g.S.Store c.args.conn.now) c.requires.open
    (λ clean number found moments h held r have stands. sym (own_shown r number c.args.entry.now (sym (found moments h held r have stands)) c.args.caller (sym c.is_own_entry.ensures ∙ c.if-is_own_entry.true)))

pub returns-clause-reads_only : goal.returns-clause-reads_only
returns-clause-reads_only g c =
    let when : to_z w64 (of_z w64 c.args.at) ≡ c.args.at = search rules in
    let reads_only = rw when at c.is_entry_shown.ensures.reads_only in
    look_means (state g.S.Store c.args.conn.now) (state g.S.Store c.is_entry_shown.new.conn) c.is_entry_shown.result reads_only (λ it is number found. is)
