use Rattle.std.proofs.Common.{refl}
use Rattle.std.proofs.lemmas.Result.{IfOk-weaker}
use Rattle.land_wire.proofs.RouteTable.{finds}
use Rattle.matchit.proofs.OnLiterals.{matchit_on_literals}
use Rattle.land_wire.proofs.routes.table.routes.Goals as goal

pub build_router-requires : goal.build_router-requires
unfolding matchit_on_literals
build_router-requires c = refl

pub returns : goal.returns
unfolding matchit_on_literals
returns c = IfOk-weaker c.build_router.result _ _ (λ router e. rw e finds) c.build_router.ensures
