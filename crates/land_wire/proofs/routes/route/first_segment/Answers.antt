use Rattle.std.proofs.Common.{◌≡◌, ◌∙◌, ℕ, List, [], ◌∷◌, take, length, ap, sym, refl, cond, true, false, Bool, ◌==◌, arith}
use Rattle.std.proofs.lemmas.List.{take_all}
use Rattle.land_wire.specs.Routes.{before_slash}
use Rattle.land_wire.proofs.routes.route.first_segment.Goals as goal

taken : (p : List ℕ) → take (length (before_slash p)) p ≡ before_slash p
taken [] = refl
taken (b ∷ p) = by (b == 47) (taken p)
  where
    by : (v : Bool) → take (length (before_slash p)) p ≡ before_slash p → take (length (cond v [] (b ∷ before_slash p))) (b ∷ p) ≡ cond v [] (b ∷ before_slash p)
    by true e = refl
    by false e = ap (λ q. b ∷ q) e

pub returns-then-at-path : goal.returns-then-at-path
returns-then-at-path c = cc (taken c.args.path.now, c.find_slash-at.ensures.count)

pub returns-else-at-path : goal.returns-else-at-path
returns-else-at-path c =
    let whole = take_all (length (before_slash c.args.path.now)) c.args.path.now (omega (arith, c.find_slash-at.ensures.count)) in
    sym whole ∙ taken c.args.path.now
