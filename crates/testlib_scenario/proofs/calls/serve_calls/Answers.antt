use Rattle.std.proofs.Common.{◌≡◌, ◌∙◌, ◌++◌, List, ap, arith, length, map, sym, take}
use Rattle.std.proofs.lemmas.List.{length-map, take-append-le, take_all}
use Rattle.testlib_scenario.proofs.calls.serve_calls.Goals as goal

-- the first items of a list are those before its others
first_items : {A B : Type 0} (f : A → B) (xs : List A) (rest all : List B) → all ≡ map f xs ++ rest → map f xs ≡ take (length xs) all
first_items f xs rest all is =
    sym (ap (take (length xs)) is ∙ take-append-le (length xs) (map f xs) rest (omega (arith, length-map xs f))
    ∙ take_all (length xs) (map f xs) (omega (arith, length-map xs f)))

-- the connections that were served are the first of those that come
pub returns : goal.returns
returns c =
    let served = c.serve_connections.ensures.served tt in
    (served.0, served.5, first_items (λ x. x.bytes) served.0 _ _ served.4)
