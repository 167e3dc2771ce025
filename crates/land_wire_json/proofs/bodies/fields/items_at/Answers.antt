use Rattle.std.proofs.Common.{◌≡◌, suc, List, [], ◌∷◌, length, refl, ap, arith}
use Rattle.std.proofs.lemmas.Grind.{common_steps}
use Rattle.land_wire_json.proofs.bodies.fields.items_at.Goals.{in_default-via-in-Some+then-least-len+else-len-most, in_default-via-in-Some+else-least-len, in_default-via-in_default}
use Rattle.land_wire_json.specs.Bodies.Fields.{items_at, item_count}
use Rattle.serde_json.specs.View.{items_view}
use Rattle.serde_json.specs.declared.value.Value.{Value}
use Rattle.land_wire_json.proofs.bodies.fields.items_at.Goals as goal

count : (values : List Value) → item_count (items_view values) ≡ length values
count [] = refl
count (value ∷ values) = ap suc (count values)

pub returns-in-Some : goal.returns-in-Some
unfolding items_at
returns-in-Some c = grind (arith, common_steps, count c.in-Some.items.now.items)

pub returns-in_default : goal.returns-in_default
unfolding items_at
returns-in_default c =
    elim c.in_default.branch [
      | in_default-via-in-Some+then-least-len+else-len-most w ↦ grind (arith, common_steps, count w.in-Some.items.now.items)
      | in_default-via-in-Some+else-least-len w ↦ grind (arith, common_steps, count w.in-Some.items.now.items)
      | in_default-via-in_default w ↦ grind (arith, common_steps)
    ]
