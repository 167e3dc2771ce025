use Rattle.std.proofs.Common.{drop}
use Rattle.std.specs.List.{AllByRecursion}
use Rattle.land_digest.specs.Laws.{HasContentWithin}
use Rattle.land_digest.proofs.exact.mutations_are_exact.Given as goal

-- what holds of the versions that are left holds of all
abbrev pub invariant-versions : goal.invariant-versions
invariant-versions l =
    AllByRecursion HasContentWithin (drop l.version-index l.versions)
    → AllByRecursion HasContentWithin l.versions
