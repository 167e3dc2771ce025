use Rattle.std.proofs.Common.{rules, ◌≡◌, to_z, of_z, w64}
use Rattle.land_select.proofs.verdict.sheet.read_sheet_verdict.Goals as goal

pub returns-then-is_unit_of_conveyancer-clause-reads_only : goal.returns-then-is_unit_of_conveyancer-clause-reads_only
returns-then-is_unit_of_conveyancer-clause-reads_only g c =
    let when : to_z w64 (of_z w64 c.args.at) ≡ c.args.at = search rules in
    rw when at c.read_sheet_of_conveyancer.ensures.reads_only

pub returns-then-sees_by_interest-clause-reads_only : goal.returns-then-sees_by_interest-clause-reads_only
returns-then-sees_by_interest-clause-reads_only g c =
    let when : to_z w64 (of_z w64 c.args.at) ≡ c.args.at = search rules in
    rw when at c.sheet_by_interest.ensures.reads_only

pub returns-clause-reads_only : goal.returns-clause-reads_only
returns-clause-reads_only g c =
    let when : to_z w64 (of_z w64 c.args.at) ≡ c.args.at = search rules in
    rw when at c.read_view_verdict.ensures.reads_only
