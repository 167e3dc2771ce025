use Rattle.std.proofs.Common.{rules, ◌∙◌, ap, not, nat_eq}
use Rattle.std.specs.List.{list_all}
use Rattle.land_tables_validity.proofs.MandateParties.{agents_begin, mandates_refer, principals_begin}
use Rattle.land_tables_validity.proofs.mandates.mandates_refs_exist.Goals as goal

pub are_single_parties-requires-whole : goal.are_single_parties-requires-whole
are_single_parties-requires-whole c =
    let nonempty = principals_begin c.args.moments.now c.args.history.now c.requires.intervals in
    search rules

pub are_single_parties-requires-2-whole : goal.are_single_parties-requires-2-whole
are_single_parties-requires-2-whole c =
    let nonempty = agents_begin c.args.moments.now c.args.history.now c.requires.intervals in
    search rules

pub returns : goal.returns
returns c =
    let others = c.are_of_others-others.ensures ∙ ap (list_all (λ v. not (nat_eq v.what.principal v.what.agent))) c.as_slice.ensures in
    mandates_refer c.args.moments.now c.args.history.now c.requires.intervals c.requires.in_time
    c.in_ok-principals.principals c.in_ok-agents.agents c.are_of_others-others.result c.in_ok-principals.ensures c.in_ok-agents.ensures others
