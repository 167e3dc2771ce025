use Rattle.std.proofs.Common.{◌≡◌, drop}
use Rattle.std.specs.Prelude.{Some, int_le, fold, if◌then◌else◌}
use Rattle.std.specs.Option.{option_copied}
use Rattle.land_keep.specs.Timeline.{version_at}
use Rattle.land_keep.proofs.plain_keeper.PlainKeeper.version_at.Given as goal

-- continuing from the version found so far over the remaining ones yields the result
abbrev pub invariant-loop-version : goal.invariant-loop-version
invariant-loop-version l = fold (λ found v. if int_le v.stamp l.t then Some v else found) (option_copied l.found) (drop l.version-index l.self) ≡ version_at l.self l.t
