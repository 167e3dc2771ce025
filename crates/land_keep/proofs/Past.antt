-- Lemmas: a change leaves the register before its stamp unchanged and applies from its stamp.
use Rattle.std.proofs.Common.{◌≡◌, true, false, cond, [], ◌∷◌, ◌++◌, Option, Some, None, refl, ap, ◌∙◌, arith}
use Rattle.std.specs.Prelude.{ℤ, ◌<ℤ◌, ◌≤ℤ◌, int_le, fold, unwrap_or, if◌then◌else◌}
use Rattle.std.specs.Option.{option_map}
use Rattle.std.proofs.lemmas.Int.{ints}
use Rattle.land_core.specs.Changes.{after}
use Rattle.land_core.specs.Register.{empty_register}
use Rattle.land_keep.specs.Laws.{PastStays, ChangeApplies}
use Rattle.land_keep.specs.Timeline.{Timeline, register_at, version_at, last_register}
use Rattle.land_keep.specs.declared.timeline.Version.{Version}

found_last : (t : ℤ) (found : Option Version) (vs : Timeline) (w : Version)
    → fold (λ found v. if int_le v.stamp t then Some v else found) found (vs ++ w ∷ [])
    ≡ cond (int_le w.stamp t) (Some w) (fold (λ found v. if int_le v.stamp t then Some v else found) found vs)
found_last t found [] w = refl
found_last t found (v ∷ vs) w = found_last t (cond (int_le v.stamp t) (Some v) found) vs w

not_before : (t stamp : ℤ) → t <ℤ stamp → int_le stamp t ≡ false
not_before t stamp less = grind (arith, ints)

before_stays : (tl : Timeline) (w : Version) (t : ℤ) → t <ℤ w.stamp → register_at (tl ++ w ∷ []) t ≡ register_at tl t
before_stays tl w t less =
    ap (λ (o : Option Version). unwrap_or (option_map (λ (v : Version). v.register) o) empty_register)
    (found_last t None tl w ∙ ap (λ b. cond b (Some w) (version_at tl t)) (not_before t w.stamp less))

pub past_stays : PastStays
past_stays tl change stamp t less = before_stays tl (record { stamp = stamp; register = after change (last_register tl) }) t less

not_after : (t stamp : ℤ) → stamp ≤ℤ t → int_le stamp t ≡ true
not_after t stamp less = grind (arith, ints)

from_stamp : (tl : Timeline) (w : Version) (t : ℤ) → w.stamp ≤ℤ t → register_at (tl ++ w ∷ []) t ≡ w.register
from_stamp tl w t less =
    ap (λ (o : Option Version). unwrap_or (option_map (λ (v : Version). v.register) o) empty_register)
    (found_last t None tl w ∙ ap (λ b. cond b (Some w) (version_at tl t)) (not_after t w.stamp less))

pub change_stands : ChangeApplies
change_stands tl change stamp t less = from_stamp tl (record { stamp = stamp; register = after change (last_register tl) }) t less
