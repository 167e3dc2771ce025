use Rattle.std.proofs.Common.{◌≡◌, ◌∙◌, ap, subst, sym, List, true}
use Rattle.std.specs.List.{list_all}
use Rattle.std.specs.Prelude.{ℕ, int_lt}
use Rattle.land_tables_history.proofs.SpanOrders.{apart_by_spans, pair_cmp, spans_begin}
use Rattle.land_tables_history.specs.Sweeps.Apart as sweep
use Rattle.land_tables_history.specs.declared.sweeps.apart.Span.{Span}
use Rattle.land_tables_history.proofs.spans.are_apart.Goals as goal

pub are_apart-requires : goal.are_apart-requires
are_apart-requires g c =
    subst (λ (l : List (Span (ℕ × ℕ))). list_all (λ x. int_lt x.since x.until) l ≡ true) (sym c.in_ok-spans.ensures) (spans_begin g.X.Keyed.key_of c.args.versions.now c.requires)

pub returns : goal.returns
returns g c =
    c.are_apart.ensures.pairs ∙ ap (sweep.are_apart pair_cmp) c.in_ok-spans.ensures
    ∙ apart_by_spans g.X.Keyed.same_key g.X.Keyed.key_of g.met.X.Keyed.by_pairs c.args.versions.now
