-- Soundness in a readable form: conditions on the record of each number.
use Rattle.std.specs.Prelude.{ℕ, ◌≡◌, ◌≢◌, ◌<◌, ◌≤◌, ◌↔◌, true, false, List, [], length, Some}
use Rattle.std.specs.FinMap as map
use Rattle.std.specs.FinMap.{FinMap}
use Rattle.std.specs.Option.{IsSome}
use Rattle.std.specs.Ordering.{nat_cmp}
use Rattle.land_core.specs.Contents.{is_well_formed_content}
use Rattle.land_core.specs.Mandates.{has_mandate, mandate_between}
use Rattle.land_core.specs.Members.{Members}
use Rattle.land_core.specs.Numbers.{last_next}
use Rattle.land_core.specs.Register.{has_group, has_single_party, holds, is_single, shares_of}
use Rattle.land_core.specs.Soundness.{IsSound}
use Rattle.land_core.specs.Units.{parcel_count, rank_of, rrr_count, type_of, type_shares}
use Rattle.land_core.specs.declared.mutation.MutationRecord.{MutationRecord}
use Rattle.land_core.specs.declared.parcel.ParcelRecord.{ParcelRecord}
use Rattle.land_core.specs.declared.party.PartyRecord.{PartyRecord}
use Rattle.land_core.specs.declared.register.Register.{Register}
use Rattle.land_core.specs.declared.role.Role.{Role}
use Rattle.land_core.specs.declared.role.Role.TheVariants.{StateAdministrator}
use Rattle.land_core.specs.declared.rrr.RightType.{RightType}
use Rattle.land_core.specs.declared.rrr.RightType.TheVariants.{Ownership}
use Rattle.land_core.specs.declared.rrr.RrrRecord.{RrrRecord}
use Rattle.land_core.specs.declared.source.SourceRecord.{SourceRecord}
use Rattle.land_core.specs.declared.unit.UnitRecord.{UnitRecord}
use Rattle.land_fraction.specs.Ratio.{Ratio}
use Rattle.land_fraction.specs.Wholeness.{IsWhole}

-- a number in use is at least 1 and below the next one
pub record IsInUse (r : Register) (n : ℕ) : Type 0 where
  pub positive : 0 < n
  pub below : n < r.next

-- a map has a record of this number
abbrev pub HasRecord : {V : Type 0} → FinMap nat_cmp V → ℕ → Type 0
HasRecord m n = IsSome (map.get m n)

-- the unit and the source of a parcel exist
pub record ParcelRefers (r : Register) (parcel : ParcelRecord) : Type 0 where
  pub unit : HasRecord r.units parcel.unit
  pub source : HasRecord r.sources parcel.source

-- the unit, the party and the source of an entry exist
pub record EntryRefers (r : Register) (entry : RrrRecord) : Type 0 where
  pub unit : HasRecord r.units entry.unit
  pub party : HasRecord r.parties entry.party
  pub source : HasRecord r.sources entry.source

-- the lodger and the source of a mutation exist, and its content is within its limits
pub record MutationRefers (r : Register) (mutation : MutationRecord) : Type 0 where
  pub lodger : HasRecord r.parties mutation.lodger
  pub source : HasRecord r.sources mutation.source
  pub content : is_well_formed_content mutation.content ≡ true

-- a party with members is a group, and its members are single parties
pub record GroupRefers (r : Register) (group : ℕ) (members : Members) : Type 0 where
  pub grouped : has_group r group ≡ true
  pub single : (n : ℕ) (share : Ratio) → map.get members n ≡ Some share → has_single_party r n ≡ true

-- a mandate is between two different single parties
pub record MandateRefers (r : Register) (principal agent : ℕ) : Type 0 where
  pub principal_single : has_single_party r principal ≡ true
  pub agent_single : has_single_party r agent ≡ true
  pub apart : principal ≢ agent

-- there are 2 to 64 shares, and they sum to 1
pub record AreGroupShares (shares : List Ratio) : Type 0 where
  pub least : 2 ≤ length shares
  pub most : length shares ≤ 64
  pub whole : IsWhole shares

-- the unit has a parcel
pub record HasParcel (r : Register) (unit : ℕ) : Type 0 where
  pub number : ℕ
  pub parcel : ParcelRecord
  pub there : map.get r.parcels number ≡ Some parcel
  pub in_unit : parcel.unit ≡ unit

-- the unit has an entry that is an ownership
pub record HasOwner (r : Register) (unit : ℕ) : Type 0 where
  pub number : ℕ
  pub entry : RrrRecord
  pub there : map.get r.rrrs number ≡ Some entry
  pub in_unit : entry.unit ≡ unit
  pub owns : type_of entry.class ≡ Some Ownership

-- a unit has a parcel, an owner, at most 256 parcels and at most 256 entries; if it is checked, the shares of
-- each type of right that occurs sum to 1
pub record IsSoundUnit (r : Register) (n : ℕ) (unit : UnitRecord) : Type 0 where
  pub parcel : HasParcel r n
  pub owner : HasOwner r n
  pub parcels : parcel_count r n ≤ 256
  pub entries : rrr_count r n ≤ 256
  pub whole : unit.checked ≡ true → (type : RightType) → type_shares r n type ≢ []
      → IsWhole (type_shares r n type)

-- two entries of a unit are neither two rights of the same type and party nor two mortgages of the same rank
pub record GoTogether (e f : RrrRecord) : Type 0 where
  pub rights : (type : RightType) → e.party ≡ f.party → type_of e.class ≡ Some type
      → type_of f.class ≢ Some type
  pub ranks : (rank : ℕ) → rank_of e.class ≡ Some rank → rank_of f.class ≢ Some rank

-- the conditions of soundness on the record of each number
pub record IsSoundByNumber (r : Register) : Type 0 where
  pub room : r.next ≤ last_next
  pub numbers_of_parties : (n : ℕ) (party : PartyRecord) → map.get r.parties n ≡ Some party → IsInUse r n
  pub numbers_of_units : (n : ℕ) (unit : UnitRecord) → map.get r.units n ≡ Some unit → IsInUse r n
  pub numbers_of_parcels : (n : ℕ) (parcel : ParcelRecord) → map.get r.parcels n ≡ Some parcel → IsInUse r n
  pub numbers_of_entries : (n : ℕ) (entry : RrrRecord) → map.get r.rrrs n ≡ Some entry → IsInUse r n
  pub numbers_of_sources : (n : ℕ) (source : SourceRecord) → map.get r.sources n ≡ Some source → IsInUse r n
  pub numbers_of_mutations : (n : ℕ) (mutation : MutationRecord) → map.get r.mutations n ≡ Some mutation
      → IsInUse r n
  pub roles : (party : ℕ) (role : Role) → holds r party role ≡ true → has_single_party r party ≡ true
  pub members : (group : ℕ) (members : Members) → map.get r.members group ≡ Some members
      → GroupRefers r group members
  pub parcels : (n : ℕ) (parcel : ParcelRecord) → map.get r.parcels n ≡ Some parcel → ParcelRefers r parcel
  pub entries : (n : ℕ) (entry : RrrRecord) → map.get r.rrrs n ≡ Some entry → EntryRefers r entry
  pub mutations : (n : ℕ) (mutation : MutationRecord) → map.get r.mutations n ≡ Some mutation
      → MutationRefers r mutation
  pub mandates : (principal agent : ℕ) → has_mandate r.mandates (mandate_between principal agent) ≡ true
      → MandateRefers r principal agent
  pub groups : (n : ℕ) (party : PartyRecord) → map.get r.parties n ≡ Some party
      → is_single party.kind ≡ false → AreGroupShares (shares_of r n)
  pub units : (n : ℕ) (unit : UnitRecord) → map.get r.units n ≡ Some unit → IsSoundUnit r n unit
  pub pairs : (m n : ℕ) (e f : RrrRecord) → map.get r.rrrs m ≡ Some e → map.get r.rrrs n ≡ Some f → m ≢ n
      → e.unit ≡ f.unit → GoTogether e f
  pub ranks : (n : ℕ) (entry : RrrRecord) (rank : ℕ) → map.get r.rrrs n ≡ Some entry
      → rank_of entry.class ≡ Some rank → IsInUse r rank
  pub references : (m n : ℕ) (it other : MutationRecord) → map.get r.mutations m ≡ Some it
      → map.get r.mutations n ≡ Some other → m ≢ n → it.lodger ≡ other.lodger → it.reference ≢ other.reference
  pub administrator : (party : ℕ) × (holds r party StateAdministrator ≡ true)

-- a register is sound if and only if the conditions on lookups hold
abbrev pub SoundnessByNumber : Type 0
SoundnessByNumber = (r : Register) → IsSound r ↔ IsSoundByNumber r
