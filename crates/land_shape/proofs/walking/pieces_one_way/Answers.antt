use Rattle.std.proofs.Common.{◌≡◌, ◌∙◌, ap, map}
use Rattle.land_shape.specs.Edges.{edges}
use Rattle.land_shape.specs.Matching.{reversed_edge}
use Rattle.land_shape.specs.Simple.{places}
use Rattle.land_shape.specs.Walks.{walks}
use Rattle.land_shape.proofs.Balance.{walks-append}
use Rattle.land_shape.proofs.walking.pieces_one_way.Goals as goal

pub returns : goal.returns
returns c =
    let corners = places c.args.corners.now in let ours = edges c.args.ours.now in let theirs = edges c.args.theirs.now in
    let first : edges c.in_ok-all.all.items ≡ walks corners ours = rw c.new.ensures.items at c.in_ok-all.ensures in
    let back : edges c.deref.result.now ≡ map reversed_edge theirs = ap edges c.deref.ensures.value ∙ c.in_ok-back.ensures in
    rw (walks-append corners ours (map reversed_edge theirs)) (rw (first, back) at c.with_walks-2.ensures)
