-- The limits within which a text determines its object: numbers that JSON represents exactly, shares that are
-- fractions, outlines that are outlines, moments that are not negative.
use Rattle.std.specs.Prelude.{ℕ, ℤ, pos, negsuc, ◌<◌, ◌^◌, ⊤}
use Rattle.std.specs.List.{AllByRecursion}
use Rattle.land_core.specs.declared.content.Content.{Content}
use Rattle.land_core.specs.declared.content.Content.TheVariants as content
use Rattle.land_core.specs.declared.content.Discharge.{Discharge}
use Rattle.land_core.specs.declared.content.Mortgage as wanted
use Rattle.land_core.specs.declared.content.Transfer.{Transfer}
use Rattle.land_core.specs.declared.member.Member.{Member}
use Rattle.land_core.specs.declared.merger.Merger.{Merger}
use Rattle.land_core.specs.declared.mutation.Mutation.{Mutation}
use Rattle.land_core.specs.declared.object.Object.{Object}
use Rattle.land_core.specs.declared.object.Object.TheVariants as shown
use Rattle.land_core.specs.declared.parcel.Parcel.{Parcel}
use Rattle.land_core.specs.declared.party.Party.{Party}
use Rattle.land_core.specs.declared.rrr.Class.{Class}
use Rattle.land_core.specs.declared.rrr.Class.TheVariants.{Right, Restriction, Responsibility, Mortgage}
use Rattle.land_core.specs.declared.rrr.Rrr.{Rrr}
use Rattle.land_core.specs.declared.subdivision.Part.{Part}
use Rattle.land_core.specs.declared.subdivision.Subdivision.{Subdivision}
use Rattle.land_fraction.specs.Ratio.{IsFraction}
use Rattle.land_shape.specs.Outline.{IsOutline}

-- below 2^64
abbrev pub FitsU64 : ℕ → Type 0
FitsU64 n = n < 2 ^ 64

-- a moment that is not negative and below 2^64
abbrev pub FitsU64Moment : ℤ → Type 0
FitsU64Moment (pos n) = FitsU64 n
FitsU64Moment (negsuc n) = ⊥

-- ---- contents of mutations

pub record IsTransferWithin (it : Transfer) : Type 0 where
  pub unit : FitsU64 it.unit
  pub right : FitsU64 it.right
  pub receiver : FitsU64 it.receiver
  pub share : IsFraction it.share

abbrev pub IsPartWithin : Part → Type 0
IsPartWithin part = IsOutline part.outline

pub record IsSubdivisionWithin (it : Subdivision) : Type 0 where
  pub unit : FitsU64 it.unit
  pub parcel : FitsU64 it.parcel
  pub first : IsOutline it.first.outline
  pub rest : AllByRecursion IsPartWithin it.rest

pub record IsMergerWithin (it : Merger) : Type 0 where
  pub unit : FitsU64 it.unit
  pub others : AllByRecursion FitsU64 it.others
  pub parcels : AllByRecursion FitsU64 it.parcels
  pub outline : IsOutline it.outline

pub record IsMortgageWithin (it : wanted.Mortgage) : Type 0 where
  pub unit : FitsU64 it.unit
  pub creditor : FitsU64 it.creditor
  pub amount : FitsU64 it.amount

pub record IsDischargeWithin (it : Discharge) : Type 0 where
  pub unit : FitsU64 it.unit
  pub mortgage : FitsU64 it.mortgage

abbrev pub IsContentWithin : Content → Type 0
IsContentWithin (content.Transfer it) = IsTransferWithin it
IsContentWithin (content.Subdivision it) = IsSubdivisionWithin it
IsContentWithin (content.Merger it) = IsMergerWithin it
IsContentWithin (content.Mortgage it) = IsMortgageWithin it
IsContentWithin (content.Discharge it) = IsDischargeWithin it

-- ---- objects

pub record IsMemberWithin (m : Member) : Type 0 where
  pub party : FitsU64 m.party
  pub share : IsFraction m.share

pub record IsPartyWithin (party : Party) : Type 0 where
  pub number : FitsU64 party.number
  pub members : AllByRecursion IsMemberWithin party.members

pub record IsParcelWithin (parcel : Parcel) : Type 0 where
  pub number : FitsU64 parcel.number
  pub unit : FitsU64 parcel.unit
  pub outline : IsOutline parcel.outline
  pub source : FitsU64 parcel.source

abbrev pub IsClassWithin : Class → Type 0
IsClassWithin (Right type share) = IsFraction share
IsClassWithin (Restriction words) = ⊤
IsClassWithin (Responsibility words) = ⊤
IsClassWithin (Mortgage amount currency rank) = FitsU64 amount × FitsU64 rank

pub record IsRrrWithin (entry : Rrr) : Type 0 where
  pub number : FitsU64 entry.number
  pub unit : FitsU64 entry.unit
  pub party : FitsU64 entry.party
  pub class : IsClassWithin entry.class
  pub source : FitsU64 entry.source

pub record IsMutationWithin (mutation : Mutation) : Type 0 where
  pub number : FitsU64 mutation.number
  pub lodger : FitsU64 mutation.lodger
  pub source : FitsU64 mutation.source
  pub lodged : FitsU64Moment mutation.lodged
  pub content : IsContentWithin mutation.content

abbrev pub IsObjectWithin : Object → Type 0
IsObjectWithin (shown.Party party) = IsPartyWithin party
IsObjectWithin (shown.Unit unit) = FitsU64 unit.number
IsObjectWithin (shown.Parcel parcel) = IsParcelWithin parcel
IsObjectWithin (shown.Rrr entry) = IsRrrWithin entry
IsObjectWithin (shown.Source source) = FitsU64 source.number
IsObjectWithin (shown.Mutation mutation) = IsMutationWithin mutation
