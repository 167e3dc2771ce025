-- Laws on callers and acts: which callers may make requests, about which times, and which roles may do which
-- acts. Each rule has two halves: what it denies, and that it denies nothing else.
use Rattle.std.specs.Prelude.{◌≡◌, ◌≢◌, ◌⊎◌, ℕ, ◌↔◌, Bool, true, false, not, ◌&&◌, ◌||◌, List, [], ◌∷◌, Some}
use Rattle.std.specs.Prelude.{None}
use Rattle.std.specs.List.{list_any}
use Rattle.std.specs.FinMap as map
use Rattle.land_core.specs.Grants.{grant_to}
use Rattle.land_core.specs.Register.{stands, holds}
use Rattle.land_core.specs.Role.{is_role}
use Rattle.land_core.specs.declared.act.Act.{Act}
use Rattle.land_core.specs.declared.act.Act.TheVariants as act
use Rattle.land_core.specs.declared.act.Lodging.{Lodging}
use Rattle.land_core.specs.declared.act.NewMandate.{NewMandate}
use Rattle.land_core.specs.declared.ask.Ask.{Ask}
use Rattle.land_core.specs.declared.ask.Ask.TheVariants as ask
use Rattle.land_core.specs.declared.caller.Caller.{Caller}
use Rattle.land_core.specs.declared.content.Content.{Content}
use Rattle.land_core.specs.declared.content.Content.TheVariants as content
use Rattle.land_core.specs.declared.content.Discharge.{Discharge}
use Rattle.land_core.specs.declared.content.Mortgage.{Mortgage}
use Rattle.land_core.specs.declared.content.Transfer.{Transfer}
use Rattle.land_core.specs.declared.kind.Kind.TheVariants as kind
use Rattle.land_core.specs.declared.mandates.Mandate.{Mandate}
use Rattle.land_core.specs.declared.merger.Merger.{Merger}
use Rattle.land_core.specs.declared.register.Register.{Register}
use Rattle.land_core.specs.declared.role.Role.{Role}
use Rattle.land_core.specs.declared.role.Role.TheVariants.{Citizen, Conveyancer, Notary, Bank}
use Rattle.land_core.specs.declared.role.Role.TheVariants.{CertifiedSurveyor, StateAdministrator}
use Rattle.land_core.specs.declared.rrr.RrrRecord.{RrrRecord}
use Rattle.land_core.specs.declared.subdivision.Subdivision.{Subdivision}
use Rattle.land_rules.specs.ActLaws.{approve_request, refuse_request}
use Rattle.land_rules.specs.Acts.{is_mandate_act}
use Rattle.land_rules.specs.Relations.{has_lodged, is_mortgage_class}
use Rattle.land_rules.specs.Rules.{verdict_of}
use Rattle.land_rules.specs.declared.verdict.Verdict.TheVariants.{Allowed, Denied}

-- ---- rules 1 to 3: callers, roles and times

-- rule 1 denies a request exactly if the caller is not a party of the register now, in any role and for any
-- time
abbrev pub UnregisteredCallersAreDenied : Type 0
UnregisteredCallersAreDenied = (now at : Register) (caller : Caller) (a : Ask) (past : Bool)
    → (verdict_of now at caller a past ≡ Denied 1) ↔ (map.get now.parties caller.party ≡ None)

-- whether the caller is a party of the register now and holds its role now
abbrev pub is_in_role : (now : Register) → Caller → Bool
is_in_role now caller = stands now kind.Party caller.party && holds now caller.party caller.role

-- the caller is a party of the register, and its role was never granted to it, or was revoked
pub record LacksRole (now : Register) (caller : Caller) : Type 0 where
  pub party : stands now kind.Party caller.party ≡ true
  pub no_grant : map.get now.roles (grant_to caller.party caller.role) ≡ None

-- rule 2 denies a request exactly if the caller exists and does not hold its role now. So only callers that
-- hold their role now are ever allowed anything; the roles at the requested time do not matter
pub record RoleIsHeld (now at : Register) (caller : Caller) (a : Ask) (past : Bool) : Type 0 where
  pub denied : (verdict_of now at caller a past ≡ Denied 2) ↔ LacksRole now caller
  pub allowed : verdict_of now at caller a past ≡ Allowed → is_in_role now caller ≡ true

-- the law on rule 2
abbrev pub RolesAreHeld : Type 0
RolesAreHeld = (now at : Register) (caller : Caller) (a : Ask) (past : Bool) → RoleIsHeld now at caller a past

-- whether the caller's role is one of these
abbrev pub has_role_among : List Role → Caller → Bool
has_role_among roles caller = list_any (is_role caller.role) roles

-- the roles that may request a past time
abbrev pub roles_with_past : List Role
roles_with_past = Citizen ∷ Notary ∷ StateAdministrator ∷ []

-- a caller that holds its role requests a past time, and its role may not
pub record RequestsClosedPast (now : Register) (caller : Caller) (past : Bool) : Type 0 where
  pub asker : is_in_role now caller ≡ true
  pub late : past ≡ true
  pub closed : has_role_among roles_with_past caller ≡ false

-- citizens, notaries and state administrators get the same verdict on the past as on the present. All other
-- roles are denied every request about the past: by rule 3 if they hold their role, and rule 3 denies nothing
-- else
pub record PastFollowsRole (now at : Register) (caller : Caller) (a : Ask) : Type 0 where
  pub as_now : has_role_among roles_with_past caller ≡ true
      → verdict_of now at caller a true ≡ verdict_of now at caller a false
  pub allowed : verdict_of now at caller a true ≡ Allowed → has_role_among roles_with_past caller ≡ true
  pub denied : (past : Bool)
      → (verdict_of now at caller a past ≡ Denied 3) ↔ RequestsClosedPast now caller past

-- the law on rule 3
abbrev pub ThreeRolesSeeOnlyThePresent : Type 0
ThreeRolesSeeOnlyThePresent = (now at : Register) (caller : Caller) (a : Ask)
    → PastFollowsRole now at caller a

-- ---- rules 4 to 7: acts that are reserved to some roles

-- whether a caller may make requests: it holds its role now, and requests the past only if its role may
abbrev pub may_make_request : (now : Register) → Caller → (past : Bool) → Bool
may_make_request now caller past = is_in_role now caller
    && (not past || has_role_among roles_with_past caller)

-- a caller that may make requests requests one of these acts, and its role is not one of these
pub record RequestsOutOfRole (these : Ask → Type 0) (roles : List Role) (now : Register) (caller : Caller)
    (a : Ask) (past : Bool) : Type 0 where
  pub asker : may_make_request now caller past ≡ true
  pub asked : these a
  pub other : has_role_among roles caller ≡ false

-- these acts are reserved to these roles: the rule denies them to a caller that may make requests in another
-- role; it denies nothing else; and none of these acts is ever allowed in another role
pub record IsReservedTo (roles : List Role) (rule : ℕ) (these : Ask → Type 0) (now at : Register)
    (caller : Caller) (a : Ask) (past : Bool) : Type 0 where
  pub denied : (verdict_of now at caller a past ≡ Denied rule) ↔ RequestsOutOfRole these roles now caller a
      past
  pub allowed : these a → verdict_of now at caller a past ≡ Allowed → has_role_among roles caller ≡ true

-- a caller that may make requests and has one of these roles is allowed each of these acts
abbrev pub IsAllowedTo : (roles : List Role) (these : Ask → Type 0) (now at : Register) → Caller → Ask
    → (past : Bool) → Type 0
IsAllowedTo roles these now at caller a past =
    may_make_request now caller past ≡ true → has_role_among roles caller ≡ true → these a
    → verdict_of now at caller a past ≡ Allowed

-- whether an act lodges a mutation
abbrev pub is_lodging_act : Act → Bool
is_lodging_act (act.Lodge it) = true
is_lodging_act other = false

-- the request is an act of the office: neither a lodging, nor an act on mandates
pub record IsOfficeRequest (a : Ask) : Type 0 where
  pub act : Act
  pub asked : a ≡ ask.Do act
  pub no_lodging : is_lodging_act act ≡ false
  pub no_mandate : is_mandate_act act ≡ false

-- the request is such an act, and not a decision on a mutation that the party lodged
pub record IsOfficeRequestForOthers (now : Register) (party : ℕ) (a : Ask) : Type 0 where
  pub office : IsOfficeRequest a
  pub others : (number : ℕ) → has_lodged now party number ≡ true
      → (a ≢ approve_request number) × (a ≢ refuse_request number)

-- rule 4: acts of the office are reserved to state administrators, and they are allowed all of them except
-- decisions on what they lodged
pub record OfficeActIsReserved (now at : Register) (caller : Caller) (a : Ask) (past : Bool) : Type 0 where
  pub left : IsReservedTo (StateAdministrator ∷ []) 4 IsOfficeRequest now at caller a past
  pub given : IsAllowedTo (StateAdministrator ∷ [])
      (IsOfficeRequestForOthers now caller.party) now at caller a past

-- the law on rule 4
abbrev pub OfficeActsAreForAdministrators : Type 0
OfficeActsAreForAdministrators =
    (now at : Register) (caller : Caller) (a : Ask) (past : Bool) → OfficeActIsReserved now at caller a past

-- the request lodges this content
pub record Lodges (c : Content) (a : Ask) : Type 0 where
  pub lodging : Lodging
  pub asked : a ≡ ask.Do (act.Lodge lodging)
  pub content : lodging.content ≡ c

-- the request lodges a transfer
abbrev pub LodgesTransfer : Ask → Type 0
LodgesTransfer a = (it : Transfer) × Lodges (content.Transfer it) a

-- rule 5: transfers are reserved to conveyancers and notaries, and both are allowed all of them
pub record TransferIsReserved (now at : Register) (caller : Caller) (a : Ask) (past : Bool) : Type 0 where
  pub left : IsReservedTo (Conveyancer ∷ Notary ∷ []) 5 LodgesTransfer now at caller a past
  pub given : IsAllowedTo (Conveyancer ∷ Notary ∷ []) LodgesTransfer now at caller a past

-- the law on rule 5
abbrev pub ConveyancersAndNotariesLodgeTransfers : Type 0
ConveyancersAndNotariesLodgeTransfers =
    (now at : Register) (caller : Caller) (a : Ask) (past : Bool) → TransferIsReserved now at caller a past

-- the request lodges a subdivision or a merger
abbrev pub LodgesSubdivisionOrMerger : Ask → Type 0
LodgesSubdivisionOrMerger a =
    ((it : Subdivision) × Lodges (content.Subdivision it) a) ⊎ ((it : Merger) × Lodges (content.Merger it) a)

-- rule 6: subdivisions and mergers are reserved to certified surveyors, and they are allowed all of them
pub record OutlinesAreReserved (now at : Register) (caller : Caller) (a : Ask) (past : Bool) : Type 0 where
  pub left : IsReservedTo (CertifiedSurveyor ∷ []) 6 LodgesSubdivisionOrMerger now at caller a past
  pub given : IsAllowedTo (CertifiedSurveyor ∷ []) LodgesSubdivisionOrMerger now at caller a past

-- the law on rule 6
abbrev pub SurveyorsLodgeSubdivisionsAndMergers : Type 0
SurveyorsLodgeSubdivisionsAndMergers =
    (now at : Register) (caller : Caller) (a : Ask) (past : Bool) → OutlinesAreReserved now at caller a past

-- the request lodges a mortgage or a discharge
abbrev pub LodgesMortgageOrDischarge : Ask → Type 0
LodgesMortgageOrDischarge a =
    ((it : Mortgage) × Lodges (content.Mortgage it) a) ⊎ ((it : Discharge) × Lodges (content.Discharge it) a)

-- rule 7: mortgages and discharges are reserved to banks and notaries, and notaries are allowed all of them,
-- for any creditor
pub record MortgagesAreReserved (now at : Register) (caller : Caller) (a : Ask) (past : Bool) : Type 0 where
  pub left : IsReservedTo (Bank ∷ Notary ∷ []) 7 LodgesMortgageOrDischarge now at caller a past
  pub given : IsAllowedTo (Notary ∷ []) LodgesMortgageOrDischarge now at caller a past

-- the law on rule 7
abbrev pub BanksAndNotariesLodgeMortgages : Type 0
BanksAndNotariesLodgeMortgages =
    (now at : Register) (caller : Caller) (a : Ask) (past : Bool) → MortgagesAreReserved now at caller a past

-- ---- rules 8 and 9: banks act only for themselves

-- whether the caller may make requests, and is in the role of bank
abbrev pub may_act_as_bank : (now : Register) → Caller → (past : Bool) → Bool
may_act_as_bank now caller past = may_make_request now caller past && has_role_among (Bank ∷ []) caller

-- the request lodges a mortgage of this creditor
pub record LodgesMortgage (creditor : ℕ) (a : Ask) : Type 0 where
  pub mortgage : Mortgage
  pub lodged : Lodges (content.Mortgage mortgage) a
  pub lender : mortgage.creditor ≡ creditor

-- a bank lodges a mortgage of another creditor
pub record LodgesMortgageOfOthers (now : Register) (caller : Caller) (a : Ask) (past : Bool) : Type 0 where
  pub bank : may_act_as_bank now caller past ≡ true
  pub creditor : ℕ
  pub lodged : LodgesMortgage creditor a
  pub other : creditor ≢ caller.party

-- rule 8: a bank is allowed the mortgages of which it is the creditor; the rule denies it those of other
-- creditors, and denies nothing else
pub record BankLodgesOwnMortgages (now at : Register) (caller : Caller) (a : Ask) (past : Bool) : Type 0 where
  pub own : may_act_as_bank now caller past ≡ true → LodgesMortgage caller.party a
      → verdict_of now at caller a past ≡ Allowed
  pub denied : (verdict_of now at caller a past ≡ Denied 8) ↔ LodgesMortgageOfOthers now caller a past

-- the law on rule 8
abbrev pub BanksLodgeTheirOwnMortgages : Type 0
BanksLodgeTheirOwnMortgages =
    (now at : Register) (caller : Caller) (a : Ask) (past : Bool)
    → BankLodgesOwnMortgages now at caller a past

-- the request lodges the discharge of the mortgage with this number
pub record LodgesDischarge (number : ℕ) (a : Ask) : Type 0 where
  pub discharge : Discharge
  pub lodged : Lodges (content.Discharge discharge) a
  pub ends : discharge.mortgage ≡ number

-- a mortgage exists at a number, and a party is its creditor
pub record HasMortgage (now : Register) (party number : ℕ) : Type 0 where
  pub entry : RrrRecord
  pub there : map.get now.rrrs number ≡ Some entry
  pub class : is_mortgage_class entry.class ≡ true
  pub creditor : entry.party ≡ party

-- a bank lodges a discharge, and has no mortgage at that number: there is no entry, the entry is not a
-- mortgage, or another party is the creditor
pub record DischargesOtherEntry (now : Register) (caller : Caller) (a : Ask) (past : Bool) : Type 0 where
  pub bank : may_act_as_bank now caller past ≡ true
  pub number : ℕ
  pub lodged : LodgesDischarge number a
  pub none : HasMortgage now caller.party number → ⊥

-- rule 9: a bank is allowed the discharges of the mortgages that it has now, on any unit; the rule denies it
-- every other discharge, and denies nothing else
pub record BankDischargesOwnMortgages (now at : Register) (caller : Caller) (a : Ask)
    (past : Bool) : Type 0 where
  pub own : (number : ℕ) → may_act_as_bank now caller past ≡ true → LodgesDischarge number a
      → HasMortgage now caller.party number
      → verdict_of now at caller a past ≡ Allowed
  pub denied : (verdict_of now at caller a past ≡ Denied 9) ↔ DischargesOtherEntry now caller a past

-- the law on rule 9
abbrev pub BanksDischargeTheirOwnMortgages : Type 0
BanksDischargeTheirOwnMortgages =
    (now at : Register) (caller : Caller) (a : Ask) (past : Bool)
    → BankDischargesOwnMortgages now at caller a past

-- ---- rules 28 and 29: citizens give mandates, and withdraw those of which they are the principal or the
-- agent

-- the request gives a mandate
abbrev pub GivesMandate : Ask → Type 0
GivesMandate a = (it : NewMandate) × (a ≡ ask.Do (act.Mandate it))

-- the request withdraws this mandate
abbrev pub WithdrawsMandate : Mandate → Ask → Type 0
WithdrawsMandate it a = a ≡ ask.Do (act.Withdraw it)

-- the request gives or withdraws a mandate
abbrev pub ActsOnMandate : Ask → Type 0
ActsOnMandate a = GivesMandate a ⊎ ((it : Mandate) × WithdrawsMandate it a)

-- a party is the principal or the agent of a mandate
abbrev pub IsPartyTo : (party : ℕ) → Mandate → Type 0
IsPartyTo party it = (it.principal ≡ party) ⊎ (it.agent ≡ party)

-- the request gives a mandate, or withdraws one of which the party is the principal or the agent
abbrev pub ActsOnOwnMandate : (party : ℕ) → Ask → Type 0
ActsOnOwnMandate party a = GivesMandate a ⊎ ((it : Mandate) × WithdrawsMandate it a × IsPartyTo party it)

-- a citizen that may make requests withdraws a mandate between others
pub record WithdrawsMandateOfOthers (now : Register) (caller : Caller) (a : Ask) (past : Bool) : Type 0 where
  pub asker : may_make_request now caller past ≡ true
  pub citizen : has_role_among (Citizen ∷ []) caller ≡ true
  pub mandate : Mandate
  pub asked : WithdrawsMandate mandate a
  pub others : IsPartyTo caller.party mandate → ⊥

-- rules 28 and 29: giving and withdrawing mandates is reserved to citizens. Each citizen is allowed to give a
-- mandate to any agent, and to withdraw a mandate of which it is the principal or the agent, even if the
-- mandate does not exist. Rule 29 denies other withdrawals to citizens, and denies nothing else
pub record MandatesAreReserved (now at : Register) (caller : Caller) (a : Ask) (past : Bool) : Type 0 where
  pub left : IsReservedTo (Citizen ∷ []) 28 ActsOnMandate now at caller a past
  pub given : IsAllowedTo (Citizen ∷ []) (ActsOnOwnMandate caller.party) now at caller a past
  pub denied : (verdict_of now at caller a past ≡ Denied 29) ↔ WithdrawsMandateOfOthers now caller a past

-- the law on rules 28 and 29
abbrev pub CitizensGiveMandates : Type 0
CitizensGiveMandates =
    (now at : Register) (caller : Caller) (a : Ask) (past : Bool) → MandatesAreReserved now at caller a past
