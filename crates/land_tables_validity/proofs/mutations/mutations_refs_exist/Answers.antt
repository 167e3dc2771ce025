use Rattle.std.proofs.Common.{rules, ◌∙◌, ap}
use Rattle.std.specs.List.{list_all}
use Rattle.land_core.specs.Contents.{is_well_formed_content}
use Rattle.land_tables_history.proofs.Proper.{all_proper}
use Rattle.land_tables_validity.proofs.Covers.{pieces_begin}
use Rattle.land_tables_validity.proofs.MutationReferences.{mutations_refer}
use Rattle.land_tables_validity.proofs.mutations.mutations_refs_exist.Goals as goal

pub all_exist-requires-whole : goal.all_exist-requires-whole
all_exist-requires-whole c =
    let h = c.args.history.now in
    let p = all_proper c.args.moments.now h c.requires.intervals in
    let nonempty =
    pieces_begin c.args.moments.now (λ e. e.0) h.parties (λ e. e.1.lodger) h.mutations p.parties.intervals p.mutations.intervals in
    search rules

pub all_exist-requires-2-whole : goal.all_exist-requires-2-whole
all_exist-requires-2-whole c =
    let h = c.args.history.now in
    let p = all_proper c.args.moments.now h c.requires.intervals in
    let nonempty =
    pieces_begin c.args.moments.now (λ e. e.0) h.sources (λ e. e.1.source) h.mutations p.sources.intervals p.mutations.intervals in
    search rules

pub returns : goal.returns
returns c =
    let contents = c.are_well_formed-contents.ensures ∙ ap (list_all (λ v. is_well_formed_content v.what.1.content)) c.as_slice.ensures in
    mutations_refer c.args.moments.now c.args.history.now c.requires.intervals c.requires.in_time
    c.in_ok-lodgers.lodgers c.in_ok-sources.sources c.are_well_formed-contents.result c.in_ok-lodgers.ensures c.in_ok-sources.ensures contents
