use Rattle.std.proofs.Common.{◌≡◌, ◌∙◌, sym, ap}
use Rattle.land_tables_history.proofs.SpansApart.{apart_in_order, by_moments}
use Rattle.land_tables_history.specs.Sweeps.Apart.{are_apart}
use Rattle.land_tables_history.specs.Sweeps.ApartSteps.{are_neighbours_apart}
use Rattle.land_tables_history.proofs.sweeps.apart.are_apart.Goals as goal

pub returns : goal.returns
returns g c =
    let told : c.are_neighbours_apart.result ≡ are_apart g.K.Ord.cmp c.args.spans.now.items =
    c.are_neighbours_apart.ensures ∙ ap (are_neighbours_apart g.K.Ord.cmp) c.as_slice.ensures.value
    ∙ apart_in_order g.K.Ord.cmp g.met.K.Ord.total c.args.spans.now.items c.sort_unstable.new.self.items c.requires c.sort_unstable.ensures.permutation c.sort_unstable.ensures.sorted in
    let it = by_moments g.K.Ord.cmp g.met.K.Ord.total c.args.spans.now.items c.requires in
    record { moments = (λ h. it.0 (sym told ∙ h), λ h. told ∙ it.1 h); pairs = told }
