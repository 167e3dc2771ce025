use Rattle.std.proofs.Common.{◌<◌, ◌≤◌, ◌+◌, ◌*◌, ◌-◌, slice_index}
use Rattle.land_sheet.proofs.extracts.part.part_end.Given as goal

-- the part has a number, ends within the list, has at most 256 numbers, and is dense
abbrev pub invariant-loop-end : goal.invariant-loop-end
invariant-loop-end l = record {
  further : l.begin < l.end;
  inside : l.end ≤ l.most;
  reach : l.reach ≤ slice_index l.numbers l.begin + 16 * (l.end - l.begin);
  dense : slice_index l.numbers (l.end - 1) ≤ slice_index l.numbers l.begin + 16 * (l.end - l.begin);
}

abbrev pub decreases-loop-end : goal.decreases-loop-end
decreases-loop-end l = l.most - l.end
