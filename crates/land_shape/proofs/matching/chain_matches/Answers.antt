use Rattle.std.proofs.Common.{◌≡◌, ◌++◌, sym, subst, List}
use Rattle.land_shape.specs.Edges.{edges}
use Rattle.land_shape.specs.Matching.{Match, places_of, edges_of}
use Rattle.land_shape.specs.Place.{Place}
use Rattle.land_shape.specs.Simple.{places}
use Rattle.land_shape.specs.Walks.{IsOneOf}
use Rattle.land_shape.proofs.Balance.{same_ways, one_way}
use Rattle.land_shape.proofs.CornerLemmas.{through}
use Rattle.land_shape.proofs.matching.chain_matches.Goals as goal

pub returns : goal.returns
unfolding Match
returns c =
    let listed = places_of (c.args.rings.now ++ c.args.others.now) in
    let sorted = places c.sorted_points-corners.result.items in
    let ours = edges_of c.args.rings.now in let theirs = edges_of c.args.others.now in
    let forth : edges c.in_ok-forth.forth.items ≡ one_way sorted ours theirs
    = rw (c.deref.ensures.value, c.deref-2.ensures.value, c.deref-3.ensures.value, c.in_ok-ours.ensures, c.in_ok-theirs.ensures) at c.in_ok-forth.ensures in
    let back : edges c.in_ok-back.back.items ≡ one_way sorted theirs ours
    = rw (c.deref-4.ensures.value, c.deref-5.ensures.value, c.deref-6.ensures.value, c.in_ok-ours.ensures, c.in_ok-theirs.ensures) at c.in_ok-back.ensures in
    through (rw (forth, back) at c.have_same_edges.ensures)
    (same_ways listed sorted c.sorted_points-corners.ensures.rise
    (λ q m. c.sorted_points-corners.ensures.all q (subst (λ (ps : List Place). IsOneOf q ps) (sym c.in_ok-corners_of.ensures) m))
    (λ q m. subst (λ (ps : List Place). IsOneOf q ps) c.in_ok-corners_of.ensures (c.sorted_points-corners.ensures.alone q m))
    ours theirs)
