use Rattle.std.proofs.Common.{◌≡◌, ◌↔◌, ◌∙◌, ap, subst, sym, Bool, true, map as map_list}
use Rattle.land_core.specs.Soundness.{has_reused_reference}
use Rattle.land_tables_validity.proofs.LodgingsApart.{all_lodged_begin, references_apart}
use Rattle.land_tables_validity.specs.Lodgings.{lodging_span}
use Rattle.land_tables_validity.specs.Never.{Never}
use Rattle.land_tables_validity.proofs.unique_references.are_references_unique.Goals as goal

pub are_apart-requires : goal.are_apart-requires
are_apart-requires c =
    all_lodged_begin c.args.moments.now c.args.history.now c.requires c.in_ok-spans.spans.items
    (c.in_ok-spans.ensures ∙ ap (map_list lodging_span) c.as_slice.ensures)

pub returns : goal.returns
returns c =
    subst (λ (b : Bool). (b ≡ true) ↔ Never has_reused_reference c.args.moments.now c.args.history.now) (sym c.are_apart.ensures.pairs)
    (references_apart c.args.moments.now c.args.history.now c.requires c.in_ok-spans.spans.items
    (c.in_ok-spans.ensures ∙ ap (map_list lodging_span) c.as_slice.ensures))
