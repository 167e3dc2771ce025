-- Lemmas on the pieces of an edge that leads to a later place: a chain of places along it, for any order of
-- the cuts
use Rattle.std.proofs.Common.{◌≡◌, true, false, cond, List, [], ◌∷◌, ◌⊎◌, inl, inr, refl, sym, ap, ◌∙◌, subst}
use Rattle.land_shape.specs.Matching.{lies_inside, cut_at, pieces}
use Rattle.land_shape.specs.Place.{Place, Edge, path_edges}
use Rattle.land_shape.specs.Walks.{IsOneOf}
use Rattle.land_shape.proofs.Betweenness.{edge, On, on_part, on_whole, on_start, on_end, inside_of, inside_on, inside_after, inside_before}
use Rattle.land_shape.proofs.Order.{Before, never_itself, before_all, one_before}
use Rattle.land_shape.proofs.Tallies.{either_way}

-- the places after the first of a chain, with one more if it lies inside a piece
abbrev pub after : Place → Place → List Place → List Place
after p a [] = []
after p a (b ∷ c) = cond (lies_inside p (edge a b)) (p ∷ b ∷ after p b c) (b ∷ after p b c)

abbrev pub afters : List Place → Place → List Place → List Place
afters [] a c = c
afters (p ∷ ps) a c = afters ps a (after p a c)

cut_path : (p a : Place) (c : List Place) → cut_at p (path_edges (a ∷ c)) ≡ path_edges (a ∷ after p a c)
cut_path p a [] = refl
cut_path p a (b ∷ c) =
    either_way (lies_inside p (edge a b))
    (λ yes. rw yes (ap (λ (es : List Edge). edge a p ∷ edge p b ∷ es) (cut_path p b c)))
    (λ no. rw no (ap (λ (es : List Edge). edge a b ∷ es) (cut_path p b c)))

pub pieces_path : (ps : List Place) (a : Place) (c : List Place) → pieces ps (path_edges (a ∷ c)) ≡ path_edges (a ∷ afters ps a c)
pieces_path [] a c = refl
pieces_path (p ∷ ps) a c = ap (pieces ps) (cut_path p a c) ∙ pieces_path ps a (after p a c)

module _ (f t : Place) (up : Before f t) where
  -- the places from a on are increasing along the edge from f to t, and the last is t
  abbrev pub Chain : Place → List Place → Type 0
  Chain a [] = a ≡ t
  Chain a (b ∷ c) = Before a b × On f t b × Chain b c

  up_to_end : (a p : Place) (c : List Place) → Chain a c → Before p a → Before p t
  up_to_end a p [] h pa = subst (λ (q : Place). Before p q) h pa
  up_to_end a p (b ∷ c) h pa = up_to_end b p c h.2 (before_all p a b pa h.0)

  pub chain_after : (p a : Place) (c : List Place) → On f t a → Chain a c → Chain a (after p a c)
  chain_after p a [] on h = h
  chain_after p a (b ∷ c) on h =
      either_way (lies_inside p (edge a b))
      (λ yes. rw yes (
        inside_after a b p h.0 yes,
        on_whole f t a b p h.0 on h.1 (inside_on a b p yes),
        (inside_before a b p h.0 yes, h.1, chain_after p b c h.1 h.2),
      ))
      (λ no. rw no (h.0, h.1, chain_after p b c h.1 h.2))

  -- a place on the line, between a place of the chain and its end
  abbrev pub IsAhead : Place → Place → Type 0
  IsAhead a q = On f t q × Before a q × Before q t

  further : (a b q : Place) → Before a b → IsAhead b q → IsAhead a q
  further a b q ab h = (h.0, before_all a b q ab h.1, h.2)

  abbrev pub IsNew : Place → Place → Place → Type 0
  IsNew p a q = (q ≡ p) × IsAhead a q

  ahead_of_piece : (p a b : Place) (c : List Place) → On f t a → Chain a (b ∷ c) → lies_inside p (edge a b) ≡ true → IsAhead a p
  ahead_of_piece p a b c on h within =
      let pb = inside_before a b p h.0 within in (
        on_whole f t a b p h.0 on h.1 (inside_on a b p within),
        inside_after a b p h.0 within,
        up_to_end b p c h.2 pb,
      )

  from_after : (p a q : Place) (c : List Place) → On f t a → Chain a c → IsOneOf q (after p a c) → IsOneOf q c ⊎ IsNew p a q
  from_after p a q [] on h m = absurd m
  from_after p a q (b ∷ c) on h m =
      let later : IsOneOf q (b ∷ after p b c) → IsOneOf q (b ∷ c) ⊎ IsNew p a q
      = λ (n : IsOneOf q (b ∷ after p b c)). elim n as (λ n. IsOneOf q (b ∷ c) ⊎ IsNew p a q) [
        | inl e ↦ inl (inl e)
        | inr k ↦ elim (from_after p b q c h.1 h.2 k) as (λ k. IsOneOf q (b ∷ c) ⊎ IsNew p a q) [
          | inl o ↦ inl (inr o)
          | inr w ↦ inr (w.0, further a b q h.0 w.1)
        ]
      ] in
      either_way (lies_inside p (edge a b))
      (λ yes. let n : IsOneOf q (p ∷ b ∷ after p b c) = rw yes at m in
      elim n as (λ n. IsOneOf q (b ∷ c) ⊎ IsNew p a q) [
        | inl e ↦ inr (e, subst (λ (r : Place). IsAhead a r) (sym e) (ahead_of_piece p a b c on h yes))
        | inr k ↦ later k
      ])
      (λ no. let n : IsOneOf q (b ∷ after p b c) = rw no at m in later n)

  into_after : (p a : Place) (c : List Place) → On f t a → Chain a c → IsAhead a p → IsOneOf p (after p a c)
  into_after p a [] on h ahead = absurd (never_itself p (before_all p a p (subst (λ (q : Place). Before p q) (sym h) ahead.2) ahead.1))
  into_after p a (b ∷ c) on h ahead =
      either_way (lies_inside p (edge a b))
      (λ yes. rw yes (inl refl))
      (λ no. rw no (elim (one_before p b) as (λ o. IsOneOf p (b ∷ after p b c)) [
        | inl l ↦ (let y = inside_of a b p h.0 (on_part f t a b p up on h.1 ahead.0) ahead.1 l in let z : true ≡ false = sym y ∙ no in cc z)
        | inr o ↦ elim o as (λ o. IsOneOf p (b ∷ after p b c)) [
          | inl e ↦ inl e
          | inr g ↦ inr (into_after p b c h.1 h.2 (ahead.0, g, ahead.2))
        ]
      ]))

  stays : (p a q : Place) (c : List Place) → IsOneOf q c → IsOneOf q (after p a c)
  stays p a q [] m = m
  stays p a q (b ∷ c) m =
      let later : IsOneOf q (b ∷ after p b c) = elim m as (λ m. IsOneOf q (b ∷ after p b c)) [ inl e ↦ inl e | inr n ↦ inr (stays p b q c n) ] in
      either_way (lies_inside p (edge a b)) (λ yes. rw yes (inr later)) (λ no. rw no later)

  pub chain_afters : (ps : List Place) (a : Place) (c : List Place) → On f t a → Chain a c → Chain a (afters ps a c)
  chain_afters [] a c on h = h
  chain_afters (p ∷ ps) a c on h = chain_afters ps a (after p a c) on (chain_after p a c on h)

  all_stay : (ps : List Place) (a q : Place) (c : List Place) → IsOneOf q c → IsOneOf q (afters ps a c)
  all_stay [] a q c m = m
  all_stay (p ∷ ps) a q c m = all_stay ps a q (after p a c) (stays p a q c m)

  from_afters : (ps : List Place) (a q : Place) (c : List Place) → On f t a → Chain a c → IsOneOf q (afters ps a c)
      → IsOneOf q c ⊎ (IsOneOf q ps × IsAhead a q)
  from_afters [] a q c on h m = inl m
  from_afters (p ∷ ps) a q c on h m =
      elim (from_afters ps a q (after p a c) on (chain_after p a c on h) m) as (λ o. IsOneOf q c ⊎ (IsOneOf q (p ∷ ps) × IsAhead a q)) [
        | inl o ↦ elim (from_after p a q c on h o) as (λ o. IsOneOf q c ⊎ (IsOneOf q (p ∷ ps) × IsAhead a q)) [
          | inl k ↦ inl k
          | inr w ↦ inr (inl w.0, w.1)
        ]
        | inr w ↦ inr (inr w.0, w.1)
      ]

  into_afters : (ps : List Place) (a q : Place) (c : List Place) → On f t a → Chain a c → IsOneOf q ps → IsAhead a q → IsOneOf q (afters ps a c)
  into_afters [] a q c on h m ahead = absurd m
  into_afters (p ∷ ps) a q c on h m ahead =
      elim m as (λ m. IsOneOf q (afters ps a (after p a c))) [
        | inl e ↦ all_stay ps a q (after p a c) (subst (λ (r : Place). IsOneOf q (after r a c)) e (into_after q a c on h ahead))
        | inr n ↦ into_afters ps a q (after p a c) on (chain_after p a c on h) n ahead
      ]

  -- all of one chain are in another that was cut at those places too
  pub cut_alike : (ps qs : List Place) (a q : Place) (c : List Place) → On f t a → Chain a c → ((r : Place) → IsOneOf r ps → IsOneOf r qs)
      → IsOneOf q (afters ps a c) → IsOneOf q (afters qs a c)
  cut_alike ps qs a q c on h all m =
      elim (from_afters ps a q c on h m) as (λ o. IsOneOf q (afters qs a c)) [
        | inl k ↦ all_stay qs a q c k
        | inr w ↦ into_afters qs a q c on h (all q w.0) w.1
      ]

  -- each later place of a chain comes after each earlier one
  chain_rises : (a q : Place) (c : List Place) → Chain a c → IsOneOf q c → Before a q
  chain_rises a q [] h m = absurd m
  chain_rises a q (b ∷ c) h m = elim m as (λ m. Before a q) [
    | inl e ↦ subst (λ (r : Place). Before a r) (sym e) h.0
    | inr n ↦ before_all a b q h.0 (chain_rises b q c h.2 n)
  ]

  drop_first : (a b : Place) (c d : List Place) → Chain a (b ∷ c) → ((q : Place) → IsOneOf q (b ∷ c) → IsOneOf q (b ∷ d)) → (q : Place) → IsOneOf q c → IsOneOf q d
  drop_first a b c d h all q m = elim (all q (inr m)) as (λ o. IsOneOf q d) [
    | inl e ↦ absurd (never_itself b (subst (λ (r : Place). Before b r) e (chain_rises b q c h.2 m)))
    | inr n ↦ n
  ]

  same_first : (a b d : Place) (c g : List Place) → Chain a (b ∷ c) → Chain a (d ∷ g) → IsOneOf b (d ∷ g) → IsOneOf d (b ∷ c) → b ≡ d
  same_first a b d c g h k m n = elim m as (λ m. b ≡ d) [
    | inl e ↦ e
    | inr m' ↦ elim n as (λ n. b ≡ d) [
      | inl e ↦ sym e
      | inr n' ↦ absurd (never_itself b (before_all b d b (chain_rises b d c h.2 n') (chain_rises d b g k.2 m')))
    ]
  ]

  -- chains with the same places are one
  pub one_chain : (a : Place) (c d : List Place) → Chain a c → Chain a d
      → ((q : Place) → IsOneOf q c → IsOneOf q d) → ((q : Place) → IsOneOf q d → IsOneOf q c) → c ≡ d
  one_chain a [] [] h k to from = refl
  one_chain a [] (d ∷ g) h k to from = absurd (from d (inl refl))
  one_chain a (b ∷ c) [] h k to from = absurd (to b (inl refl))
  one_chain a (b ∷ c) (d ∷ g) h k to from =
      let e : b ≡ d = same_first a b d c g h k (to b (inl refl)) (from d (inl refl)) in
      let k' : Chain a (b ∷ g) = subst (λ (r : Place). Chain a (r ∷ g)) (sym e) k in
      let to' : (q : Place) → IsOneOf q (b ∷ c) → IsOneOf q (b ∷ g) = subst (λ (r : Place). (q : Place) → IsOneOf q (b ∷ c) → IsOneOf q (r ∷ g)) (sym e) to in
      let from' : (q : Place) → IsOneOf q (b ∷ g) → IsOneOf q (b ∷ c) = subst (λ (r : Place). (q : Place) → IsOneOf q (r ∷ g) → IsOneOf q (b ∷ c)) (sym e) from in
      ap (λ (r : List Place). b ∷ r) (one_chain b c g h.2 k'.2 (drop_first a b c g h to') (drop_first a b g c k' from'))
      ∙ ap (λ (r : Place). r ∷ g) e

-- the pieces of an edge that leads to a later place depend only on the set of places
pub same_pieces : (f t : Place) → Before f t → (ps qs : List Place)
    → ((q : Place) → IsOneOf q ps → IsOneOf q qs) → ((q : Place) → IsOneOf q qs → IsOneOf q ps)
    → pieces ps (edge f t ∷ []) ≡ pieces qs (edge f t ∷ [])
same_pieces f t up ps qs to from =
    let start : Chain f t up f (t ∷ []) = (up, on_last, refl) in
    let e : afters ps f (t ∷ []) ≡ afters qs f (t ∷ [])
    = one_chain f t up f (afters ps f (t ∷ [])) (afters qs f (t ∷ [])) (chain_afters f t up ps f (t ∷ []) on_first start) (chain_afters f t up qs f (t ∷ []) on_first start)
    (λ q m. cut_alike f t up ps qs f q (t ∷ []) on_first start to m)
    (λ q m. cut_alike f t up qs ps f q (t ∷ []) on_first start from m) in
    pieces_path ps f (t ∷ []) ∙ ap (λ (c : List Place). path_edges (f ∷ c)) e ∙ sym (pieces_path qs f (t ∷ []))
  where
    on_first : On f t f
    on_first = on_start f t

    on_last : On f t t
    on_last = on_end f t
