use Rattle.std.proofs.Common.{◌≡◌, ◌≤◌, ◌-◌, false, drop, length}
use Rattle.land_keep.specs.Timeline.{register_at}
use Rattle.land_sheet.proofs.ExtractRows.{IsSoFar}
use Rattle.land_sheet.specs.Extracts.{rows_at}
use Rattle.land_sheet.proofs.extracts.extract.write_parts.Given as goal

-- the keeper is open and unchanged, and the rows of the previous parts are written and counted
abbrev pub invariant-parts : goal.invariant-parts
invariant-parts g l =
    let tl = g.K.Keeper.timeline l.fn.keeper in
    let r = register_at tl l.at in
    let trust = g.K.Keeper.honest l.keeper in record {
      is_open : g.K.Keeper.closed l.keeper ≡ false;
      inside : l.given ≤ length l.numbers;
      was : trust → g.K.Keeper.honest l.fn.keeper;
      same : trust → g.K.Keeper.timeline l.keeper ≡ tl;
      so_far : trust → IsSoFar (rows_at r l.kind l.numbers) (rows_at r l.kind (drop l.given l.numbers)) l.before l.written (g.W.Write.contents l.fn.writer) (g.W.Write.contents l.writer);
    }

-- a part leaves fewer numbers
abbrev pub decreases-parts : goal.decreases-parts
decreases-parts g l = length l.numbers - l.given
