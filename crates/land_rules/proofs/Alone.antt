-- Without mandates, a relation of the circle of a party is a relation of the party itself.
use Rattle.std.proofs.Common.{◌≡◌, ℕ, Bool, ap, ◌∙◌}
use Rattle.std.specs.Prelude.{nat_eq}
use Rattle.std.specs.FinMap as map
use Rattle.std.specs.List.{list_any}
use Rattle.land_core.proofs.Booleans.{or_nothing}
use Rattle.land_core.specs.declared.register.Register.{Register}
use Rattle.land_core.specs.declared.rrr.RrrRecord.{RrrRecord}
use Rattle.land_rules.proofs.InCircles.{alone, told_together}
use Rattle.land_rules.specs.Circles.{circle_of, is_group_of, is_held_by, is_in_circle, is_name_of, is_visible_to_circle}
use Rattle.land_rules.specs.Relations.{holds_under_name, is_holder, is_member_of, is_visible_to_holder}

module _ (at : Register) (none : at.mandates ≡ map.empty) (party : ℕ) where
  -- a condition that a member of the circle satisfies
  one_alone : (passes : ℕ → Bool) → list_any passes (circle_of at party) ≡ passes party
  one_alone passes = ap (list_any passes) (alone at party none) ∙ or_nothing (passes party)

  pub in_circle_alone : (number : ℕ) → is_in_circle at party number ≡ nat_eq number party
  in_circle_alone number = one_alone (nat_eq number)

  pub group_alone : (group : ℕ) → is_group_of at (circle_of at party) group ≡ is_member_of at party group
  group_alone group = one_alone (λ p. is_member_of at p group)

  pub name_alone : (named : ℕ) → is_name_of at (circle_of at party) named ≡ holds_under_name at party named
  name_alone named = one_alone (λ p. holds_under_name at p named)

  pub held_alone : (unit : ℕ) → is_held_by at (circle_of at party) unit ≡ is_holder at party unit
  held_alone unit = one_alone (λ p. is_holder at p unit)

  pub told_alone : (e : RrrRecord) → is_visible_to_circle at (circle_of at party) e ≡ is_visible_to_holder at party e
  told_alone e = told_together at (circle_of at party) e ∙ one_alone (λ p. is_visible_to_holder at p e)
