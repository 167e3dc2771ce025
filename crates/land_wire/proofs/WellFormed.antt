-- Each request that was read is within the limits of its fields.
use Rattle.std.proofs.Common.{◌≡◌, ℕ, List, true, Result, Ok, Err, refl, IfOk}
use Rattle.land_core.specs.Acts.{is_well_formed, is_well_formed_ask, is_well_formed_request}
use Rattle.land_core.specs.declared.act.Act.{Act}
use Rattle.land_core.specs.declared.act.Act.TheVariants as act
use Rattle.land_core.specs.declared.ask.Ask.{Ask}
use Rattle.land_core.specs.declared.ask.Request.{Request}
use Rattle.land_core.specs.declared.caller.Caller.{Caller}
use Rattle.land_wire.specs.Acts.{act_in, act_of, lodging_act}
use Rattle.land_wire.specs.Laws.{ReadingsAreWellFormed}
use Rattle.land_wire.specs.Numbers.{number_in_text}
use Rattle.land_wire.specs.Queries.{no_query, at_in}
use Rattle.land_wire.specs.Reading.{require_method, ask_of, parts_reading, reading_by, require_resource}
use Rattle.land_wire.specs.Routes.{Resource, list, view, sheet, act as act_path}
use Rattle.land_wire.specs.Routes.Targets.{path_of, query_of}
use Rattle.land_wire.specs.declared.routes.act_word.ActWord.{ActWord}
use Rattle.land_wire.specs.declared.routes.act_word.ActWord.TheVariants as word
use Rattle.land_wire_json.specs.Bodies.Fields.{value_in}
use Rattle.land_wire_json.specs.Bodies.Laws.{BodiesAreWellFormed}
use Rattle.land_wire_json.specs.Bodies.Mutations.{decision_of, lodging_of}
use Rattle.land_wire_json.specs.Bodies.Parties.{enrol_of, group_of, regroup_of, grant_of, mandate_of, withdrawal_of}
use Rattle.land_wire_json.specs.Bodies.Units.{unit_of, burden_of, lift_of}
use Rattle.land_wire_json.specs.Bodies.WireFaults.{◌>>=◌, Returns}
use Rattle.land_wire_json.specs.declared.bodies.content_kind.ContentKind.{ContentKind}
use Rattle.land_wire_json.specs.declared.bodies.content_kind.ContentKind.TheVariants as content
use Rattle.land_wire_json.specs.declared.bodies.wire_fault.WireFault.{WireFault}
use Rattle.serde_json.specs.Data.{Data}

-- the result has the property, if reading succeeds
record Ensures {A : Type 0} (P : A → Type 0) (r : Result A WireFault) : Type 0 where
  if_ok : IfOk r P

-- a property of each next value is a property of the whole
bind : {A B : Type 0} {P : B → Type 0} (r : Result A WireFault) {next : A → Result B WireFault}
    → ((a : A) → Ensures P (next a)) → Ensures P (r >>= next)
bind (Ok a) h = h a
bind (Err e) h = record { if_ok = tt }

-- likewise, from a property of the value before
bind_with : {A B : Type 0} {Q : A → Type 0} {P : B → Type 0} (r : Result A WireFault) {next : A → Result B WireFault}
    → Ensures Q r → ((a : A) → Q a → Ensures P (next a)) → Ensures P (r >>= next)
bind_with (Ok a) q h = h a q.if_ok
bind_with (Err e) q h = record { if_ok = tt }

-- the value is wrapped, by a law on the reading
wrapped : {A B : Type 0} {P : B → Type 0} (wrap : A → B) (r : Result A WireFault)
    → IfOk r (λ a. P (wrap a)) → Ensures P (r >>= λ a. Ok (wrap a))
wrapped wrap (Ok a) h = record { if_ok = h }
wrapped wrap (Err e) h = record { if_ok = tt }

abbrev MayBeDone : Act → Type 0
MayBeDone wanted = is_well_formed wanted ≡ true

abbrev MayBeAsked : Ask → Type 0
MayBeAsked asked = is_well_formed_ask asked ≡ true

abbrev MayBeRead : Request → Type 0
MayBeRead request = is_well_formed_request request ≡ true

lodging_act-well_formed : BodiesAreWellFormed → (kind : ContentKind) (value : Data) → Ensures MayBeDone (lodging_act kind value)
lodging_act-well_formed law kind value = wrapped act.Lodge (lodging_of kind value) (law.lodge kind value)

act_of-well_formed : BodiesAreWellFormed → (which : ActWord) (value : Data) → Ensures MayBeDone (act_of which value)
act_of-well_formed law word.Enrol value = wrapped act.Enrol (enrol_of value) (law.enrol value)
act_of-well_formed law word.Group value = wrapped act.Group (group_of value) (law.group value)
act_of-well_formed law word.Regroup value = wrapped act.Regroup (regroup_of value) (law.regroup value)
act_of-well_formed law word.Grant value = wrapped act.Grant (grant_of value) (law.grant value)
act_of-well_formed law word.Revoke value = wrapped act.Revoke (grant_of value) (law.revoke value)
act_of-well_formed law word.Mandate value = wrapped act.Mandate (mandate_of value) (law.mandate value)
act_of-well_formed law word.Withdraw value = wrapped act.Withdraw (withdrawal_of value) (law.withdraw value)
act_of-well_formed law word.Register value = wrapped act.Register (unit_of value) (law.register value)
act_of-well_formed law word.Burden value = wrapped act.Burden (burden_of value) (law.burden value)
act_of-well_formed law word.Lift value = wrapped act.Lift (lift_of value) (law.lift value)
act_of-well_formed law word.Transfer value = lodging_act-well_formed law content.Transfer value
act_of-well_formed law word.Subdivision value = lodging_act-well_formed law content.Subdivision value
act_of-well_formed law word.Merger value = lodging_act-well_formed law content.Merger value
act_of-well_formed law word.Mortgage value = lodging_act-well_formed law content.Mortgage value
act_of-well_formed law word.Discharge value = lodging_act-well_formed law content.Discharge value
act_of-well_formed law word.Approve value = wrapped act.Approve (decision_of value) (law.approve value)
act_of-well_formed law word.Refuse value = wrapped act.Refuse (decision_of value) (law.refuse value)

act_in-well_formed : BodiesAreWellFormed → (which : ActWord) (body : List ℕ) → Ensures MayBeDone (act_in which body)
act_in-well_formed law which body = bind (value_in body) (act_of-well_formed law which)

ask_of-well_formed : BodiesAreWellFormed → (resource : Resource) (query body : List ℕ) → Ensures MayBeAsked (ask_of resource query body)
ask_of-well_formed law (list kind) query body = bind (at_in query) (λ at. record { if_ok = refl })
ask_of-well_formed law (view kind part) query body = bind (number_in_text part) (λ number. bind (at_in query) (λ at. record { if_ok = refl }))
ask_of-well_formed law (sheet part) query body = bind (number_in_text part) (λ unit. bind (at_in query) (λ at. record { if_ok = refl }))
ask_of-well_formed law (act_path which) query body =
    bind (no_query query) (λ none. bind_with (act_in which body) (act_in-well_formed law which body) (λ wanted h. record { if_ok = h }))

read-well_formed : BodiesAreWellFormed → (method target : List ℕ) (asking : Result Caller WireFault) (body : List ℕ)
    → Ensures MayBeRead (reading_by method target asking body)
unfolding parts_reading
read-well_formed law method target asking body =
    bind (require_resource (path_of target)) (λ resource.
    bind (require_method resource method) (λ permit.
    bind asking (λ caller.
    bind_with (ask_of resource (query_of target) body) (ask_of-well_formed law resource (query_of target) body) (λ asked h. record { if_ok = h }))))

pub reading-well_formed : BodiesAreWellFormed → ReadingsAreWellFormed
reading-well_formed law method target asking body = (read-well_formed law method target asking body).if_ok

-- a property of the wanted value is a property of an equal value
pub of_given : (P : Request → Type 0) (found wanted : Result Request WireFault) → Returns (λ it. it) found wanted → IfOk wanted P → IfOk found P
of_given P (Ok it) wanted is h = rw is at h
of_given P (Err fault) wanted is h = tt
