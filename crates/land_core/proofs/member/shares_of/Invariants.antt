use Rattle.std.proofs.Common.{◌≡◌, ◌++◌}
use Rattle.std.specs.Prelude.{map as map_list}
use Rattle.land_core.specs.Members.{shares_in}
use Rattle.land_core.proofs.member.shares_of.Given as goal

-- the items collected, followed by the remaining ones, are the result
abbrev pub invariant-loop-share : goal.invariant-loop-share
invariant-loop-share l = l.shares ++ map_list (λ e. e.1) l.share-iterator ≡ shares_in l.members
