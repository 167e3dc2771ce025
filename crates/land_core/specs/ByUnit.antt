-- The parcels and the claims of each unit, as one pass over a register groups them.
use Rattle.std.specs.Prelude.{ℕ, ◌≡◌, Bool, false, not, ◌&&◌, ◌||◌, nat_eq, nat_lt, List, [], ◌∷◌, ◌++◌}
use Rattle.std.specs.Prelude.{length, Option, Some, None, unwrap_or, if◌then◌else◌}
use Rattle.std.specs.List.{filter_map, list_any}
use Rattle.std.specs.Ordering.{nat_cmp}
use Rattle.std.specs.BTreeMap.{get}
use Rattle.std.specs.FinMap as map
use Rattle.land_core.specs.Units.{is_type, are_whole_or_none}
use Rattle.land_core.specs.declared.parcel.ParcelRecord.{ParcelRecord}
use Rattle.land_core.specs.declared.register.Register.{Register}
use Rattle.land_core.specs.declared.rrr.Class.{Class}
use Rattle.land_core.specs.declared.rrr.Class.TheVariants as class
use Rattle.land_core.specs.declared.rrr.RightType.{RightType}
use Rattle.land_core.specs.declared.rrr.RightType.TheVariants.{Ownership, Lease, Usufruct}
use Rattle.land_core.specs.declared.rrr.RrrRecord.{RrrRecord}
use Rattle.land_core.specs.declared.soundness.by_unit.ByUnit.{ByUnit}
use Rattle.land_core.specs.declared.soundness.claim.Claim.{Claim}
use Rattle.land_core.specs.declared.soundness.claim.Claim.TheVariants.{Right, Mortgage, Other}
use Rattle.land_core.specs.declared.soundness.groups.Groups.{Groups}
use Rattle.land_fraction.specs.Ratio.{Ratio}

-- the items of a unit
abbrev pub under : {T : Type 0} → Groups T → (unit : ℕ) → List T
under groups unit = unwrap_or (get nat_cmp groups.lists unit) []

-- an item is appended to the list of a unit
abbrev pub IsAdded : {T : Type 0} → (old new : Groups T) → (unit : ℕ) → T → Type 0
IsAdded old new unit item = (q : ℕ)
    → under new q ≡ (if nat_eq unit q then under old q ++ item ∷ [] else under old q)

-- the claim of an entry, from its party and its class
abbrev pub claim_in : (party : ℕ) → Class → Claim
claim_in party (class.Right type share) = Right party type share
claim_in party (class.Restriction words) = Other
claim_in party (class.Responsibility words) = Other
claim_in party (class.Mortgage amount currency rank) = Mortgage rank

abbrev pub claim_of : RrrRecord → Claim
claim_of e = claim_in e.party e.class

-- the share of a right of a type
abbrev pub claimed_share : RightType → Claim → Option Ratio
claimed_share wanted (Right party type share) = if is_type type wanted then Some share else None
claimed_share wanted (Mortgage rank) = None
claimed_share wanted Other = None

-- whether it is a right of a type
abbrev pub is_claim_of : RightType → Claim → Bool
is_claim_of wanted (Right party type share) = is_type type wanted
is_claim_of wanted (Mortgage rank) = false
is_claim_of wanted Other = false

-- whether two claims clash in a unit
abbrev pub do_claims_clash : Claim → Claim → Bool
do_claims_clash (Right party type share) (Right other wanted part) = nat_eq party other && is_type type wanted
do_claims_clash (Right party type share) (Mortgage rank) = false
do_claims_clash (Right party type share) Other = false
do_claims_clash (Mortgage rank) (Right other wanted part) = false
do_claims_clash (Mortgage rank) (Mortgage other) = nat_eq rank other
do_claims_clash (Mortgage rank) Other = false
do_claims_clash Other claim = false

-- whether any two claims clash
abbrev pub have_clash : List Claim → Bool
have_clash [] = false
have_clash (claim ∷ claims) = list_any (do_claims_clash claim) claims || have_clash claims

-- the shares of the rights of a type
abbrev pub claimed_shares : RightType → List Claim → List Ratio
claimed_shares type claims = filter_map (claimed_share type) claims

abbrev pub are_claims_whole : List Claim → Bool
are_claims_whole claims =
    are_whole_or_none (claimed_shares Ownership claims)
    && are_whole_or_none (claimed_shares Lease claims)
    && are_whole_or_none (claimed_shares Usufruct claims)

-- the values of those entries that are in a unit
abbrev pub items_of_unit : {X Y : Type 0} → (place : X → ℕ) → (says : X → Y) → (unit : ℕ) → List X → List Y
items_of_unit place says unit xs = filter_map (λ x. if nat_eq (place x) unit then Some (says x) else None) xs

-- the numbers of the parcels of a unit, ascending
abbrev pub parcels_in : List (ℕ × ParcelRecord) → (unit : ℕ) → List ℕ
parcels_in entries unit = items_of_unit (λ e. e.1.unit) (λ e. e.0) unit entries

-- the claims of the entries of a unit, ordered by number
abbrev pub claims_in : List (ℕ × RrrRecord) → (unit : ℕ) → List Claim
claims_in entries unit = items_of_unit (λ e. e.1.unit) (λ e. claim_of e.1) unit entries

-- the groups contain, for each unit, its parcels and its claims
pub record IsByUnit (by_unit : ByUnit) (r : Register) : Type 0 where
  pub parcels : (unit : ℕ) → under by_unit.parcels unit ≡ parcels_in (map.entries r.parcels) unit
  pub claims : (unit : ℕ) → under by_unit.claims unit ≡ claims_in (map.entries r.rrrs) unit

-- a unit has no parcel or no owner
abbrev pub is_bare : ByUnit → (unit : ℕ) → Bool
is_bare by_unit unit = nat_eq (length (under by_unit.parcels unit)) 0
    || not (list_any (is_claim_of Ownership) (under by_unit.claims unit))

abbrev pub is_crowded : ByUnit → (unit : ℕ) → Bool
is_crowded by_unit unit = nat_lt 256 (length (under by_unit.parcels unit))
    || nat_lt 256 (length (under by_unit.claims unit))

abbrev pub lacks_whole_shares : ByUnit → (unit : ℕ) → Bool
lacks_whole_shares by_unit unit = not (are_claims_whole (under by_unit.claims unit))
