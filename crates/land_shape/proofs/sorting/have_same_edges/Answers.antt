use Rattle.std.proofs.Common.{◌≡◌, ◌∙◌, sym}
use Rattle.std.specs.Cmp.Derive.Mapped.{pointwise-map}
use Rattle.std.specs.Cmp.Lexicographic.{pointwise}
use Rattle.land_shape.specs.Edges.{edge_of, edges}
use Rattle.land_shape.specs.Matching.{is_same_edge}
use Rattle.land_shape.proofs.SameEdges.{same_lists}
use Rattle.land_shape.proofs.sorting.have_same_edges.Goals as goal

pub returns : goal.returns
returns c =
    let xs = c.sorted_edges.result.items in let ys = c.sorted_edges-2.result.items in
    let e : c.eq.result ≡ pointwise is_same_edge (edges xs) (edges ys) = c.eq.ensures ∙ sym (pointwise-map edge_of is_same_edge xs ys) in
    rw e (same_lists (edges c.args.list.items) (edges c.args.other.items) (edges xs) (edges ys)
    c.sorted_edges.ensures.rise c.sorted_edges-2.ensures.rise c.sorted_edges.ensures.same c.sorted_edges-2.ensures.same)
