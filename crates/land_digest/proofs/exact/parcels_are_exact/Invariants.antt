use Rattle.std.proofs.Common.{drop}
use Rattle.std.specs.List.{AllByRecursion}
use Rattle.land_digest.specs.Laws.{HasParcelOutline}
use Rattle.land_digest.proofs.exact.parcels_are_exact.Given as goal

-- what holds of the versions that are left holds of all
abbrev pub invariant-versions : goal.invariant-versions
invariant-versions l =
    AllByRecursion HasParcelOutline (drop l.version-index l.versions) → AllByRecursion HasParcelOutline l.versions
