use Rattle.std.proofs.Common.{◌≡◌, ◌↔◌, ◌∙◌, ap, subst, sym, Bool, List, true}
use Rattle.std.specs.List.{list_all}
use Rattle.std.specs.Prelude.{int_lt}
use Rattle.land_core.specs.Soundness.{has_clash}
use Rattle.land_tables_history.proofs.Proper.{all_proper}
use Rattle.land_tables_validity.proofs.EntriesApart.{entries_apart}
use Rattle.land_tables_validity.proofs.VersionsApart.{where_begun}
use Rattle.land_tables_validity.specs.ApartSpans.{spans_where}
use Rattle.land_tables_validity.specs.Never.{Never}
use Rattle.land_tables_validity.specs.Places.{entry_place}
use Rattle.land_tables_validity.specs.declared.duplicate_rights.Place.{Place}
use Rattle.land_tables_history.specs.declared.sweeps.apart.Span.{Span}
use Rattle.land_tables_validity.proofs.duplicate_rights.have_no_duplicate_rights.Goals as goal

pub are_apart-requires : goal.are_apart-requires
are_apart-requires c =
    subst (λ (l : List (Span Place)). list_all (λ x. int_lt x.since x.until) l ≡ true)
    (sym (c.in_ok-spans.ensures ∙ ap (spans_where (λ e. entry_place e.1)) c.as_slice.ensures))
    (where_begun c.args.moments.now (λ e. entry_place e.1) c.args.history.now.rrrs
    (all_proper c.args.moments.now c.args.history.now c.requires).rrrs.intervals)

pub returns : goal.returns
returns c =
    subst (λ (b : Bool). (b ≡ true) ↔ Never has_clash c.args.moments.now c.args.history.now) (sym c.are_apart.ensures.pairs)
    (entries_apart c.args.moments.now c.args.history.now c.requires c.in_ok-spans.spans.items
    (c.in_ok-spans.ensures ∙ ap (spans_where (λ e. entry_place e.1)) c.as_slice.ensures))
