use Rattle.std.proofs.Common.{◌≡◌, ◌++◌, ◌∷◌, [], ap, sym, ◌∙◌, arith, false, Option, Bool, subst}
use Rattle.std.proofs.lemmas.Grind.{common_steps}
use Rattle.std.specs.Option.{option_to_list}
use Rattle.land_shape.specs.Faults.{SomeOf, HasManyWords}
use Rattle.land_shape.specs.Grammar.{Rings, Points, body, IsPolygonBody}
use Rattle.land_shape.specs.Reader.{written_polygon}
use Rattle.land_shape.specs.Steps.{IsFull}
use Rattle.land_shape.proofs.SomeLemmas.{not_both}
use Rattle.land_shape.proofs.ListingLemmas.{only_ring, two_words_each}
use Rattle.land_shape.proofs.plain.plain_ring.Goals as goal

pub returns : goal.returns
returns c =
    let ring = c.unwrap-ring.result in
    let only : c.in-Body.rings.items ≡ ring ∷ [] = only_ring c.in-Body.rings.items c.pop.new.self.items ring
    (c.pop.ensures.items ∙ ap (λ (o : Option Points). c.pop.new.self.items ++ option_to_list o) c.unwrap-ring.ensures)
    (let l = c.len.ensures in let n = c.if-len-gt1.false in grind (arith, common_steps)) in
    let is : written_polygon c.args.polygon ≡ body false (ring ∷ []) = ap written_polygon c.in-Body.is ∙ ap (λ (rs : Rings). body c.in-Body.tagged rs) only
    ∙ ap (λ (t : Bool). body t (ring ∷ [])) c.if-tagged.false in
    let full : IsPolygonBody (ring ∷ []) = subst IsFull is c.requires in
    (is, two_words_each ring full.1.0.1 (λ h. not_both (c.has_long_point.ensures.1 (subst (SomeOf HasManyWords) (sym c.points.ensures) h)) c.if-has_long_point.false))
