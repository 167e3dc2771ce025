use Rattle.std.proofs.Common.{rules}
use Rattle.std.proofs.lemmas.Fn.{filter_same}
use Rattle.land_tables_history.specs.Sweeps.Sweep.{is_at}
use Rattle.land_tables_history.proofs.sweeps.sweep.remove_ended.Goals as goal

pub returns : goal.returns
returns g c = filter_same _ (is_at c.args.tick.now.key c.args.tick.now.at) _ (λ x b f' k. search rules) _ _ c.retain.ensures.filtered
