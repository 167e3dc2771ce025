-- Steps of a sequence of writes, and the tokens that they write.
use Rattle.std.proofs.Common.{◌≡◌, ℕ, List, [], ◌∷◌, ◌++◌, Option, Some, None, refl, ap, append_assoc, ◌∙◌}
use Rattle.std.specs.Prelude.{Result, OnOk}
use Rattle.std.proofs.lemmas.Result.{on_ok_weaker}
use Rattle.json.specs.Token.{Token, end_object}
use Rattle.json.specs.Tree.{members_tokens}
use Rattle.land_wire_json.specs.Texts.Fields.{member_tokens, value_data, fields_tokens, fields_before, unit_tokens}
use Rattle.land_wire_json.specs.declared.texts.fields.Field.{Field}
use Rattle.land_wire_json.specs.Texts.Subdivisions.{name_members}
use Rattle.serde_json.specs.Written.{members_outline}

-- the effect of the last step, if it succeeds, and its consequence
pub then : {A E P Q : Type 0} (r : Result A E) → OnOk r P → (P → Q) → OnOk r Q
then r h f = on_ok_weaker r f h

-- the end of a part, with the name of its unit
pub part_ends : (name : Option (List ℕ)) → unit_tokens name ++ end_object ∷ [] ≡ members_tokens (members_outline (name_members name))
part_ends None = refl
part_ends (Some name) = refl

-- fields, and the tokens after them
pub joined : (fields : List Field) (rest : List Token) → fields_tokens fields ++ rest ≡ fields_before fields rest
joined [] rest = refl
joined (field ∷ fields) rest =
    let one = member_tokens field.0.now (value_data field.1) in
    append_assoc one (fields_tokens fields) rest ∙ ap (λ (ts : List Token). one ++ ts) (joined fields rest)
