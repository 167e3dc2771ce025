use Rattle.std.proofs.Common.{◌∙◌, ℕ, suc, List, [], ◌∷◌, get_or, arith, Fits, w8}
use Rattle.land_wire.specs.Routes.Table.{AreBytes}
use Rattle.land_wire.proofs.routes.route.find_route.Goals as goal

bytes : (p : List ℕ) → ((i : ℕ) → Fits w8 (get_or p i 0)) → AreBytes p
bytes [] h = tt
bytes (b ∷ p) h = let first = h 0 in (omega (arith, first), bytes p (λ i. h (suc i)))

pub returns-in-Ok : goal.returns-in-Ok
returns-in-Ok c =
    let all = c.requires c.args.path.now (bytes _ c.type_inv.path) in
    let named = rw c.in-Ok.ensures.found at all in
    let at = rw c.as_bytes.ensures.value at c.route_at.ensures in
    at ∙ named

pub returns-in-Err : goal.returns-in-Err
returns-in-Err c =
    let all = c.requires c.args.path.now (bytes _ c.type_inv.path) in
    rw c.in-Err.ensures.missing at all
