use Rattle.std.proofs.Common.{◌∙◌, sym, rules, tests}
use Rattle.std.specs.Prelude.{filter, nat_eq}
use Rattle.std.specs.FinMap as map
use Rattle.std.proofs.lemmas.List.Folds.{list_all-map}
use Rattle.std.proofs.lemmas.Iterator.Consumers.{YieldsList-at, YieldsList-from_filter, YieldsList-from_rest}
use Rattle.std.proofs.lemmas.Iterator.Search.{all_from_yields_List}
use Rattle.land_acts.specs.Mutations.Merging.{count_in}
use Rattle.land_acts.specs.Mutations.Subdividing.{list_entries_of}
use Rattle.land_acts.proofs.mutations.merge.occur_equally_often.Goals as goal

pub returns : goal.returns
returns c =
    let slice = c.args.slice.now in
    let entries = map.entries slice.rrrs in
    let listed = filter (λ e. nat_eq e.1.unit c.args.listed) entries in
    all_from_yields_List (λ e. nat_eq (count_in (list_entries_of slice c.args.unit) e.1) (count_in (list_entries_of slice c.args.other) e.1)) _ _ _ c.all.ensures.ran (YieldsList-from_filter _ (λ e. nat_eq e.1.unit c.args.listed) (YieldsList-at c.filter.ensures.source (YieldsList-from_rest entries c.iter.ensures.rest)) c.filter.ensures.closure (λ x r q k. search (rules, tests))) (λ x r q k. search (rules, tests))
    ∙ sym (list_all-map (λ e. nat_eq (count_in (list_entries_of slice c.args.unit) e) (count_in (list_entries_of slice c.args.other) e)) (λ e. e.1) listed)
