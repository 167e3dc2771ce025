use Rattle.std.proofs.Common.{arith, refl, subst, sym}
use Rattle.slab.specs.Slab.{get}
use Rattle.land_pool.proofs.Accepting.{dropped, inserted, none_pending}
use Rattle.land_pool.specs.OpenConnections.{AcceptsMore}
use Rattle.land_pool.proofs.pool.accept_one.Goals as goal

pub returns-in-Ok-insert-clause-accepts : goal.returns-in-Ok-insert-clause-accepts
returns-in-Ok-insert-clause-accepts g c =
    subst (λ o. AcceptsMore g.L.Reader.Read.remaining g.L.Writer.Write.contents g.L.ConnectionSource.fresh (get c.args.pool.now) (get c.insert.new.self)
    (g.L.ConnectionSource.coming c.args.source.now) (g.L.ConnectionSource.coming c.accept.new.self)
    (g.L.ConnectionSource.ended c.args.source.now) o c.args.accepted 1) (sym c.accept.ensures.ended)
    (inserted g.L.Reader.Read.remaining g.L.Writer.Write.contents g.L.ConnectionSource.fresh c.args.pool.now c.insert.new.self
    (g.L.ConnectionSource.coming c.args.source.now) (g.L.ConnectionSource.coming c.accept.new.self)
    (g.L.ConnectionSource.ended c.args.source.now) c.args.accepted _ _ c.in-Ok-insert.ensures.was_vacant c.in-Ok-insert.ensures.updates
    (omega arith) refl c.new.ensures.items c.new-2.ensures.items c.in-Ok.ensures.fresh c.in-Ok.ensures.coming)

pub returns-in-Err-clause-accepts : goal.returns-in-Err-clause-accepts
returns-in-Err-clause-accepts g c =
    subst (λ o. AcceptsMore g.L.Reader.Read.remaining g.L.Writer.Write.contents g.L.ConnectionSource.fresh (get c.args.pool.now) (get c.insert.new.self)
    (g.L.ConnectionSource.coming c.args.source.now) o
    (g.L.ConnectionSource.ended c.args.source.now) (g.L.ConnectionSource.ended c.close.new.source) c.args.accepted 1) (sym c.close.ensures.coming)
    (dropped g.L.Reader.Read.remaining g.L.Writer.Write.contents g.L.ConnectionSource.fresh c.args.pool.now c.insert.new.self
    (g.L.ConnectionSource.coming c.args.source.now) (g.L.ConnectionSource.coming c.accept.new.self)
    (g.L.ConnectionSource.ended c.args.source.now) (g.L.ConnectionSource.ended c.accept.new.self) (g.L.ConnectionSource.ended c.close.new.source)
    c.args.accepted _ c.in-Err.failed.value c.in-Err.ensures.err
    (omega arith) refl c.new.ensures.items c.new-2.ensures.items c.in-Ok.ensures.fresh c.in-Ok.ensures.coming c.in-Err.ensures.value_returned c.accept.ensures.ended c.close.ensures.ended)

pub returns-in_default-clause-accepts : goal.returns-in_default-clause-accepts
returns-in_default-clause-accepts g c =
    subst (λ o. AcceptsMore g.L.Reader.Read.remaining g.L.Writer.Write.contents g.L.ConnectionSource.fresh (get c.args.pool.now) (get c.args.pool.now)
    (g.L.ConnectionSource.coming c.args.source.now) (g.L.ConnectionSource.coming c.accept.new.self)
    (g.L.ConnectionSource.ended c.args.source.now) o c.args.accepted 0) (sym c.accept.ensures.ended)
    (none_pending g.L.Reader.Read.remaining g.L.Writer.Write.contents g.L.ConnectionSource.fresh (get c.args.pool.now) (g.L.ConnectionSource.coming c.args.source.now)
    (g.L.ConnectionSource.coming c.accept.new.self) (g.L.ConnectionSource.ended c.args.source.now) c.args.accepted c.in_default.ensures.coming)
