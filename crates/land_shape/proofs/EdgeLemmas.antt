-- Lists of edges and of rings, a part at a time
use Rattle.std.proofs.Common.{◌≡◌, List, [], ◌∷◌, ◌++◌, refl, sym, ap, ◌∙◌, append_assoc}
use Rattle.land_shape.specs.Matching.{places_of}
use Rattle.land_shape.specs.Place.{Place}

pub places_of-append : (rings others : List (List Place)) → places_of (rings ++ others) ≡ places_of rings ++ places_of others
places_of-append [] others = refl
places_of-append (ring ∷ rings) others = ap (λ (ps : List Place). ring ++ ps) (places_of-append rings others) ∙ sym (append_assoc ring (places_of rings) (places_of others))
