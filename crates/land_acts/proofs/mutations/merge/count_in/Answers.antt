use Rattle.std.proofs.Common.{◌&&◌, ◌∙◌, sym, rules, tests}
use Rattle.std.specs.Prelude.{nat_eq}
use Rattle.std.specs.FinMap as map
use Rattle.std.proofs.lemmas.Iterator.Consumers.{count_from_yields_List, YieldsList-at, YieldsList-from_filter, YieldsList-from_rest}
use Rattle.land_acts.proofs.EntryCounts.{count_of_kept}
use Rattle.land_acts.specs.Mutations.Merging.{is_same_entry}
use Rattle.land_acts.proofs.mutations.merge.count_in.Goals as goal

pub returns : goal.returns
returns c =
    let entries = map.entries c.args.slice.now.rrrs in
    count_from_yields_List c.filter.result _ c.count.ensures.ran (YieldsList-from_filter _ (λ e. nat_eq e.1.unit c.args.unit && is_same_entry c.args.it.now e.1) (YieldsList-at c.filter.ensures.source (YieldsList-from_rest entries c.iter.ensures.rest)) c.filter.ensures.closure (λ x r q k. search (rules, tests)))
    ∙ sym (count_of_kept (λ e. nat_eq e.1.unit c.args.unit) (λ e. e.1) (is_same_entry c.args.it.now) entries)
