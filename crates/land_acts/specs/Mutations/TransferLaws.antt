-- Laws on transfers, stated only over the definitions: the sum of the shares is preserved, and the receiver
-- has one right.
use Rattle.std.specs.Prelude.{◌≡◌, ℕ, ◌≤◌, false, Some, None, ℤ}
use Rattle.std.specs.FinMap as map
use Rattle.land_acts.specs.Mutations.Planning.{first_refusal_of}
use Rattle.land_acts.specs.Mutations.Transferring.{right_at, is_checked, move_change, transfer_refusals}
use Rattle.land_acts.specs.declared.mutations.transfer.HeldRight.{HeldRight}
use Rattle.land_core.specs.Changes.{after}
use Rattle.land_core.specs.Soundness.{IsSound}
use Rattle.land_core.specs.Units.{type_of, type_shares}
use Rattle.land_core.specs.declared.content.Transfer.{Transfer}
use Rattle.land_core.specs.declared.register.Register.{Register}
use Rattle.land_core.specs.declared.rrr.RightType.{RightType}
use Rattle.land_core.specs.declared.rrr.RrrRecord.{RrrRecord}
use Rattle.land_fraction.specs.Wholeness.{IsCommonMultiple, parts_of}

-- a transfer without refusal preserves the sum of the shares of the right's type in the unit: in parts whose
-- count is a common multiple of all denominators before and after, the shares have as many parts after as
-- before. In a unit that is not checked, the law assumes that the right's share is at most one, which holds
-- for every fraction; in a checked unit of a sound register it always is
abbrev pub TransfersKeepSums : Type 0
TransfersKeepSums = (r : Register) (source : ℕ) (it : Transfer) (from : HeldRight) (stamp : ℤ) (parts : ℕ)
    → IsSound r → first_refusal_of (transfer_refusals r it (Some stamp)) ≡ None
    → right_at r it.unit it.right ≡ Some from
    → (is_checked r it.unit ≡ false → from.share.numerator ≤ from.share.denominator)
    → IsCommonMultiple parts (type_shares r it.unit from.right_type)
    → IsCommonMultiple parts (type_shares (after (move_change r source it from) r) it.unit from.right_type)
    → parts_of parts (type_shares (after (move_change r source it from) r) it.unit from.right_type)
    ≡ parts_of parts (type_shares r it.unit from.right_type)

-- an entry is a right of this type that the party has in the unit
pub record IsRightOf (unit party : ℕ) (type : RightType) (entry : RrrRecord) : Type 0 where
  pub in_unit : entry.unit ≡ unit
  pub by_party : entry.party ≡ party
  pub of_type : type_of entry.class ≡ Some type

-- the party has exactly one right of this type in the unit
pub record HasOneRight (r : Register) (unit party : ℕ) (type : RightType) : Type 0 where
  pub number : ℕ
  pub entry : RrrRecord
  pub there : map.get r.rrrs number ≡ Some entry
  pub is_right : IsRightOf unit party type entry
  pub alone : (n : ℕ) (other : RrrRecord) → map.get r.rrrs n ≡ Some other → IsRightOf unit party type other
      → n ≡ number

-- after a transfer without refusal, the receiver has exactly one right of the type in the unit, whether it
-- had one before or not
abbrev pub ReceiversHaveOneRight : Type 0
ReceiversHaveOneRight = (r : Register) (source : ℕ) (it : Transfer) (from : HeldRight) (stamp : ℤ) → IsSound r
    → first_refusal_of (transfer_refusals r it (Some stamp)) ≡ None
    → right_at r it.unit it.right ≡ Some from
    → HasOneRight (after (move_change r source it from) r) it.unit it.receiver from.right_type
