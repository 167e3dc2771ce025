-- Acts, from their words in paths and the JSON of their bodies.
use Rattle.std.specs.Prelude.{ℕ, List, Result, Ok}
use Rattle.land_core.specs.declared.act.Act.{Act}
use Rattle.land_core.specs.declared.act.Act.TheVariants as act
use Rattle.land_wire.specs.declared.routes.act_word.ActWord.{ActWord}
use Rattle.land_wire.specs.declared.routes.act_word.ActWord.TheVariants as word
use Rattle.land_wire_json.specs.Bodies.Fields.{value_in}
use Rattle.land_wire_json.specs.Bodies.Mutations.{decision_of, lodging_of}
use Rattle.land_wire_json.specs.Bodies.Parties.{enrol_of, group_of, regroup_of, grant_of, mandate_of}
use Rattle.land_wire_json.specs.Bodies.Parties.{withdrawal_of}
use Rattle.land_wire_json.specs.Bodies.Units.{unit_of, burden_of, lift_of}
use Rattle.land_wire_json.specs.Bodies.WireFaults.{◌>>=◌}
use Rattle.land_wire_json.specs.declared.bodies.content_kind.ContentKind.{ContentKind}
use Rattle.land_wire_json.specs.declared.bodies.content_kind.ContentKind.TheVariants as content
use Rattle.land_wire_json.specs.declared.bodies.wire_fault.WireFault.{WireFault}
use Rattle.serde_json.specs.Data.{Data}

-- the lodging of a mutation
abbrev pub lodging_act : ContentKind → Data → Result Act WireFault
lodging_act kind value = lodging_of kind value >>= λ it. Ok (act.Lodge it)

-- the act of a word: five words lodge a mutation each, and each other word has its own act
abbrev pub act_of : ActWord → Data → Result Act WireFault
act_of word.Enrol value = enrol_of value >>= λ it. Ok (act.Enrol it)
act_of word.Group value = group_of value >>= λ it. Ok (act.Group it)
act_of word.Regroup value = regroup_of value >>= λ it. Ok (act.Regroup it)
act_of word.Grant value = grant_of value >>= λ it. Ok (act.Grant it)
act_of word.Revoke value = grant_of value >>= λ it. Ok (act.Revoke it)
act_of word.Mandate value = mandate_of value >>= λ it. Ok (act.Mandate it)
act_of word.Withdraw value = withdrawal_of value >>= λ it. Ok (act.Withdraw it)
act_of word.Register value = unit_of value >>= λ it. Ok (act.Register it)
act_of word.Burden value = burden_of value >>= λ it. Ok (act.Burden it)
act_of word.Lift value = lift_of value >>= λ it. Ok (act.Lift it)
act_of word.Transfer value = lodging_act content.Transfer value
act_of word.Subdivision value = lodging_act content.Subdivision value
act_of word.Merger value = lodging_act content.Merger value
act_of word.Mortgage value = lodging_act content.Mortgage value
act_of word.Discharge value = lodging_act content.Discharge value
act_of word.Approve value = decision_of value >>= λ it. Ok (act.Approve it)
act_of word.Refuse value = decision_of value >>= λ it. Ok (act.Refuse it)

-- the act of a body: fault 130 if the body is not JSON, then the faults of its fields
abbrev pub act_in : ActWord → (body : List ℕ) → Result Act WireFault
act_in which body = value_in body >>= λ value. act_of which value
