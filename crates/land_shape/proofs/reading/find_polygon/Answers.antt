use Rattle.std.proofs.Common.{sym, ap, ◌∙◌, Option}
use Rattle.std.specs.Option.{option_map}
use Rattle.land_shape.specs.declared.polygon.WrittenPolygon.{WrittenPolygon}
use Rattle.land_shape.specs.Reader.{polygon_of, written_polygon}
use Rattle.land_shape.specs.Tokens.{tokens_of}
use Rattle.land_shape.proofs.PolygonLemmas.{polygon_means}
use Rattle.land_shape.proofs.JudgeLemmas.{no_polygon}
use Rattle.land_shape.proofs.reading.find_polygon.Goals as goal

pub returns-in-Some-clause-polygon : goal.returns-in-Some-clause-polygon
returns-in-Some-clause-polygon c =
    polygon_means (tokens_of c.args.text.now) (written_polygon c.in-Some.polygon)
    (sym (c.in_ok-polygon.ensures ∙ ap polygon_of (c.deref.ensures.value ∙ c.in_ok-tokens.ensures))
    ∙ ap (λ (o : Option WrittenPolygon). option_map written_polygon o) c.in-Some.is)

pub returns-clause-fault : goal.returns-clause-fault
returns-clause-fault c _ =
    no_polygon c.args.text.now
    (sym (c.in_ok-polygon.ensures ∙ ap polygon_of (c.deref.ensures.value ∙ c.in_ok-tokens.ensures))
    ∙ ap (λ (o : Option WrittenPolygon). option_map written_polygon o) c.in-None.is)
