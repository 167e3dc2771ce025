use Rattle.std.proofs.Common.{arith, refl}
use Rattle.slab.specs.Slab.{get}
use Rattle.land_pool.proofs.Accepting.{none_accepted}
use Rattle.land_pool.proofs.pool.accept_if_room.Goals as goal

pub returns-then-accepted-wanted-clause-accepts : goal.returns-then-accepted-wanted-clause-accepts
returns-then-accepted-wanted-clause-accepts g c = (
  0,
  omega arith,
  none_accepted g.L.Reader.Read.remaining g.L.Writer.Write.contents g.L.ConnectionSource.fresh (get c.args.pool.now) (g.L.ConnectionSource.coming c.args.source.now)
      (g.L.ConnectionSource.ended c.args.source.now) c.args.accepted,
)
