-- Lemmas: lists contain each edge equally often if and only if they are equal once sorted
use Rattle.std.proofs.Common.{◌≡◌, ◌↔◌, true, false, List, refl, sym, ◌∙◌, inl, inr, subst, IsTrue}
use Rattle.std.specs.Cmp.Lexicographic.{pointwise, pointwise_decides}
use Rattle.land_shape.specs.Matching.{is_same_edge, count_of}
use Rattle.land_shape.specs.Place.{Edge}
use Rattle.land_shape.specs.Walks.{HaveSameEdges, IsAscendingBy, edge_before}
use Rattle.land_shape.proofs.Balance.{as_times}
use Rattle.land_shape.proofs.MatchingLaw.{same_edge_is, same_edge_itself}
use Rattle.land_shape.proofs.Order.{one_edge_before, of_edge_before}
use Rattle.land_shape.proofs.SortLemmas.{one_sorted}
use Rattle.land_shape.proofs.WalkLemmas.{clash}

level : (e f : Edge) → edge_before e f ≡ false → edge_before f e ≡ false → e ≡ f
level e f h k = elim (one_edge_before e f) as (λ o. e ≡ f) [
  | inl l ↦ clash (e ≡ f) (edge_before e f) (of_edge_before e f l) h
  | inr o ↦ elim o as (λ o. e ≡ f) [ inl s ↦ s | inr g ↦ clash (e ≡ f) (edge_before f e) (of_edge_before f e g) k ]
]

decided : (e f : Edge) → (is_same_edge e f ≡ true → e ≡ f) × (e ≡ f → is_same_edge e f ≡ true)
decided e f = (same_edge_is e f, λ s. subst (λ (g : Edge). is_same_edge e g ≡ true) s (same_edge_itself e))

pub same_lists : (es fs sorted others : List Edge) → IsAscendingBy edge_before sorted → IsAscendingBy edge_before others
    → HaveSameEdges sorted es → HaveSameEdges others fs → IsTrue (pointwise is_same_edge sorted others) ↔ HaveSameEdges es fs
same_lists es fs sorted others up vp he hf =
    let decides : (pointwise is_same_edge sorted others ≡ true → sorted ≡ others) × (sorted ≡ others → pointwise is_same_edge sorted others ≡ true)
    = pointwise_decides decided sorted others in (
      λ t e. let s : sorted ≡ others = decides.0 t in sym (he e) ∙ subst (λ (gs : List Edge). count_of e sorted ≡ count_of e gs) s refl ∙ hf e,
      λ h. decides.1 (one_sorted is_same_edge same_edge_is same_edge_itself edge_before level sorted others up vp (as_times sorted others (λ e. he e ∙ h e ∙ sym (hf e)))),
    )
