use Rattle.std.proofs.Common.{◌≡◌, false, ◌-◌, ◌∙◌, length, take, drop, ap, sym, subst, List}
use Rattle.land_shape.specs.Place.{Place}
use Rattle.land_shape.specs.Simple.{place_of, places}
use Rattle.land_shape.specs.Walks.{is_before, walk, IsAscendingBy}
use Rattle.std.specs.List.{AllByRecursion}
use Rattle.land_shape.proofs.NearLemmas.{rest_places, rises_rest, taken_places, near}
use Rattle.land_shape.proofs.Order.{before_of}
use Rattle.land_shape.proofs.walking.corners_near.Goals as goal

pub count_before-end-requires : goal.count_before-end-requires
count_before-end-requires c =
    let s = c.count_before-start.result in
    subst (λ (ps : List Place). IsAscendingBy is_before ps) (sym (rest_places c.args.corners.now s)) (rises_rest is_before s (places c.args.corners.now) c.requires.rise)

pub returns : goal.returns
returns c =
    let s = c.count_before-start.result in let e = c.count_before-end.result in
    let ps = c.args.corners.now in let t = place_of c.args.edge.to in let a = place_of c.args.edge.from in
    let others : AllByRecursion (λ p. is_before p t ≡ false) (drop e (drop s (places ps)))
    = subst (λ (qs : List Place). AllByRecursion (λ p. is_before p t ≡ false) (drop e qs)) (rest_places ps s) c.count_before-end.ensures.others in
    ap (walk a t) (taken_places (take (length ps - s) (drop s ps)) e ∙ ap (take e) (rest_places ps s))
    ∙ near a t (places ps) s e (before_of a t c.requires.up) c.count_before-start.ensures.before others
