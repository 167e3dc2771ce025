use Rattle.std.proofs.Common.{◌≡◌, ℕ, List, [], ◌∷◌, map, refl, ap, ◌&&◌, String, string_bytes}
use Rattle.std.specs.declared.alloc.Global.{Global}
use Rattle.std.specs.List.{list_all}
use Rattle.land_wire_json.specs.Bodies.Fields.{has_only, is_listed_name}
use Rattle.serde_json.specs.View.{members_view}
use Rattle.serde_json.specs.declared.value.Value.{Value}
use Rattle.land_wire_json.proofs.bodies.fields.has_only.Goals as goal

by_keys : (names : List (List ℕ)) (members : List (String Global × Value))
    → list_all (λ key. is_listed_name names (string_bytes key)) (map (λ m. m.0) members) ≡ has_only names (members_view members)
by_keys names [] = refl
by_keys names (m ∷ ms) = ap (λ b. is_listed_name names (string_bytes m.0) && b) (by_keys names ms)

pub returns : goal.returns
returns c = let e = by_keys (map (λ n. n.now) c.args.names.now) c.args.members.now.entries in cc (c.has_keys_among.ensures, e)
