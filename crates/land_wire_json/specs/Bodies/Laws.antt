-- Laws of reading, each stated with definitions only.
use Rattle.std.specs.Prelude.{◌≡◌, ℕ, List, true, Ok, IfOk}
use Rattle.land_core.specs.Acts.{is_well_formed}
use Rattle.land_core.specs.Contents.{is_well_formed_content}
use Rattle.land_core.specs.Words.{content_word}
use Rattle.land_core.specs.declared.act.Act.TheVariants as act
use Rattle.land_core.specs.declared.content.Content.{Content}
use Rattle.land_shape.specs.Faults.{IsOutlineAnswer}
use Rattle.land_wire_json.specs.Bodies.Mutations.{content_in, decision_of, lodging_of}
use Rattle.land_wire_json.specs.Bodies.Outlines.{outline_answer}
use Rattle.land_wire_json.specs.Bodies.Parties.{enrol_of, group_of, regroup_of, grant_of, mandate_of}
use Rattle.land_wire_json.specs.Bodies.Parties.{withdrawal_of}
use Rattle.land_wire_json.specs.Bodies.Stored.{IsStorable}
use Rattle.land_wire_json.specs.Bodies.Units.{unit_of, burden_of, lift_of}
use Rattle.land_wire_json.specs.Texts.Mutations.{content_text}
use Rattle.land_wire_json.specs.declared.bodies.content_kind.ContentKind.{ContentKind}
use Rattle.serde_json.specs.Data.{Data}

-- the answer for an outline's text is a ring that the text denotes, or the text's first fault
abbrev pub OutlinesAreAnswered : Type 0
OutlinesAreAnswered = (text : List ℕ) → IsOutlineAnswer text (outline_answer text)

-- the value read from a body is within the limits of its act
pub record BodiesAreWellFormed : Type 0 where
  pub enrol : (value : Data) → IfOk (enrol_of value) (λ it. is_well_formed (act.Enrol it) ≡ true)
  pub group : (value : Data) → IfOk (group_of value) (λ it. is_well_formed (act.Group it) ≡ true)
  pub regroup : (value : Data) → IfOk (regroup_of value) (λ it. is_well_formed (act.Regroup it) ≡ true)
  pub grant : (value : Data) → IfOk (grant_of value) (λ it. is_well_formed (act.Grant it) ≡ true)
  pub revoke : (value : Data) → IfOk (grant_of value) (λ it. is_well_formed (act.Revoke it) ≡ true)
  pub mandate : (value : Data) → IfOk (mandate_of value) (λ it. is_well_formed (act.Mandate it) ≡ true)
  pub withdraw : (value : Data) → IfOk (withdrawal_of value) (λ it. is_well_formed (act.Withdraw it) ≡ true)
  pub register : (value : Data) → IfOk (unit_of value) (λ it. is_well_formed (act.Register it) ≡ true)
  pub burden : (value : Data) → IfOk (burden_of value) (λ it. is_well_formed (act.Burden it) ≡ true)
  pub lift : (value : Data) → IfOk (lift_of value) (λ it. is_well_formed (act.Lift it) ≡ true)
  pub lodge : (which : ContentKind) (value : Data)
      → IfOk (lodging_of which value) (λ it. is_well_formed (act.Lodge it) ≡ true)
  pub approve : (value : Data) → IfOk (decision_of value) (λ it. is_well_formed (act.Approve it) ≡ true)
  pub refuse : (value : Data) → IfOk (decision_of value) (λ it. is_well_formed (act.Refuse it) ≡ true)

-- a content that was read is within its limits
abbrev pub ContentsAreWellFormed : Type 0
ContentsAreWellFormed =
    (word text : List ℕ) → IfOk (content_in word text) (λ it. is_well_formed_content it ≡ true)

-- reading the text of a content returns that content
abbrev pub ContentsRoundTrip : Type 0
ContentsRoundTrip = (it : Content) → IsStorable it → content_in (content_word it) (content_text it) ≡ Ok it
