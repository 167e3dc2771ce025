-- Planning reads the same on a slice as on its register.
use Rattle.std.proofs.Common.{◌≡◌, ℕ, Bool, true, false, length, ◌||◌, ◌&&◌, not, Some, List, [], ◌∷◌, refl, sym, ap, ◌∙◌, subst}
use Rattle.std.specs.Prelude.{is_some, nat_eq, filter}
use Rattle.std.specs.Option.{option_map_or}
use Rattle.std.specs.List.{list_any, AllByRecursion}
use Rattle.std.specs.Cmp.{nat_cmp_total}
use Rattle.std.specs.FinMap as map
use Rattle.std.specs.FinMap.{nat_cmp-IsAntisymmetric}
use Rattle.std.proofs.lemmas.Bool.{false≢true, and_parts, eqb-true, or_left, or_right}
use Rattle.std.proofs.lemmas.Cmp.{nat_eq_equiv}
use Rattle.land_acts.proofs.EndedEntries.{filter_within}
use Rattle.land_acts.specs.FirstRights.{rights_list_party, lists_absent_party}
use Rattle.land_acts.specs.Lifting.{has_burden, is_burden_class}
use Rattle.land_acts.specs.Revoking.{has_other_administrator}
use Rattle.land_acts.specs.Sharing.{lists_party, lists_no_single_party}
use Rattle.land_acts.specs.Slices.{includes_party, includes_rrr, includes_unit, is_same_mandate, names_mandate, names_party, names_rrr, names_unit, slice_with}
use Rattle.land_acts.specs.declared.slice_parts.SliceParts.{SliceParts}
use Rattle.land_core.proofs.FiniteSets.{grants_total, exact_grants, mandates_total, exact_mandates}
use Rattle.land_core.proofs.Reflection.{get-entries_where, entries-entries_where, each_there, list_any-filter, list_any-map}
use Rattle.land_core.specs.Entries.{entries_where, has}
use Rattle.land_core.specs.Grants.{grants_in, has_grant, grant_to}
use Rattle.land_core.specs.Mandates.{has_mandate}
use Rattle.land_core.specs.Register.{has_single_party, has_group, holds, is_single}
use Rattle.land_core.specs.Role.{is_role}
use Rattle.land_core.specs.Units.{rrr_count}
use Rattle.land_core.specs.declared.act.Act.{Act}
use Rattle.land_core.specs.declared.act.Act.TheVariants as act
use Rattle.land_core.specs.declared.act.NewRight.{NewRight}
use Rattle.land_core.specs.declared.act.Regroup.{Regroup}
use Rattle.land_core.specs.declared.caller.Caller.{Caller}
use Rattle.land_core.specs.declared.mandates.Mandate.{Mandate}
use Rattle.land_core.specs.declared.member.Member.{Member}
use Rattle.land_core.specs.declared.register.Register.{Register}
use Rattle.land_core.specs.declared.role.Role.{Role}
use Rattle.land_core.specs.declared.role.Role.TheVariants.{StateAdministrator, Citizen, Conveyancer, Notary, Bank, CertifiedSurveyor}
use Rattle.land_core.specs.declared.roles.Grant.{Grant}

pub administrator_is : (role : Role) → is_role role StateAdministrator ≡ true → role ≡ StateAdministrator
administrator_is StateAdministrator h = refl
administrator_is Citizen h = absurd (false≢true h)
administrator_is Conveyancer h = absurd (false≢true h)
administrator_is Notary h = absurd (false≢true h)
administrator_is Bank h = absurd (false≢true h)
administrator_is CertifiedSurveyor h = absurd (false≢true h)

-- a regrouping refers to its group and its members
pub names_group : (r : Register) (it : Regroup) → names_party r (act.Regroup it) it.group ≡ true
names_group r it = ap (λ b. b || lists_party it.members it.group) (nat_eq_equiv.refl it.group)

pub names_members : (r : Register) (it : Regroup) (n : ℕ) → lists_party it.members n ≡ true → names_party r (act.Regroup it) n ≡ true
names_members r it n listed = or_right (nat_eq n it.group) (lists_party it.members n) listed

-- if a part is included, all that the act refers to is
pub party_included : (parts : SliceParts) (r : Register) (a : Act) (n : ℕ) → parts.parties ≡ true → names_party r a n ≡ true → includes_party parts r a n ≡ true
party_included parts r a n is named =
    or_left (parts.parties && names_party r a n) (parts.administrators && holds r n StateAdministrator) (ap (λ b. b && names_party r a n) is ∙ named)

pub administrator_included : (parts : SliceParts) (r : Register) (a : Act) (n : ℕ) → parts.administrators ≡ true → holds r n StateAdministrator ≡ true → includes_party parts r a n ≡ true
administrator_included parts r a n is held =
    or_right (parts.parties && names_party r a n) (parts.administrators && holds r n StateAdministrator) (ap (λ b. b && holds r n StateAdministrator) is ∙ held)

pub unit_included : (parts : SliceParts) (r : Register) (a : Act) (n : ℕ) → parts.units ≡ true → names_unit r a n ≡ true → includes_unit parts r a n ≡ true
unit_included parts r a n is named = ap (λ b. b && names_unit r a n) is ∙ named

module _ (parts : SliceParts) (r : Register) (caller : Caller) (a : Act) (parties : parts.parties ≡ true) where
  party_same : (n : ℕ) → names_party r a n ≡ true → map.get (slice_with parts r caller a).parties n ≡ map.get r.parties n
  party_same n named = get-entries_where nat_cmp_total nat_cmp-IsAntisymmetric _ r.parties n (λ v. party_included parts r a n parties named)

  pub single_same : (n : ℕ) → names_party r a n ≡ true → has_single_party (slice_with parts r caller a) n ≡ has_single_party r n
  single_same n named = ap (λ o. option_map_or (λ p. is_single p.kind) o false) (party_same n named)

  pub group_same : (n : ℕ) → names_party r a n ≡ true → has_group (slice_with parts r caller a) n ≡ has_group r n
  group_same n named = ap (λ o. option_map_or (λ p. not (is_single p.kind)) o false) (party_same n named)

  pub holds_same : parts.roles ≡ true → (n : ℕ) (role : Role) → names_party r a n ≡ true → holds (slice_with parts r caller a) n role ≡ holds r n role
  holds_same roles n role named =
      ap is_some (get-entries_where grants_total exact_grants _ r.roles (grant_to n role) (λ v. ap (λ b. b && includes_party parts r a n) roles ∙ party_included parts r a n parties named))

  pub stranger_same : (members : List Member) → ((n : ℕ) → lists_party members n ≡ true → names_party r a n ≡ true)
      → lists_no_single_party (slice_with parts r caller a) members ≡ lists_no_single_party r members
  stranger_same [] named = refl
  stranger_same (member ∷ members) named =
      ap (λ b. not b || lists_no_single_party (slice_with parts r caller a) members)
      (single_same member.party (named member.party (ap (λ b. b || lists_party members member.party) (nat_eq_equiv.refl member.party))))
      ∙ ap (λ b. not (has_single_party r member.party) || b)
      (stranger_same members (λ n listed. named n (or_right (nat_eq n member.party) (lists_party members n) listed)))

module _ (parts : SliceParts) (r : Register) (caller : Caller) (a : Act) (administrators : parts.administrators ≡ true) (roles : parts.roles ≡ true) where
  pub beside_same : (n : ℕ) → has_other_administrator (slice_with parts r caller a) n ≡ has_other_administrator r n
  unfolding grants_in
  beside_same n =
      let test : Grant → Bool = λ g. is_role g.role StateAdministrator && not (nat_eq g.party n) in
      list_any-map test (λ e. e.0) (map.entries (entries_where (λ g u. parts.roles && includes_party parts r a g.party) r.roles))
      ∙ ap (list_any (λ e. test e.0)) (entries-entries_where grants_total exact_grants (λ g u. parts.roles && includes_party parts r a g.party) r.roles)
      ∙ list_any-filter (λ e. test e.0) (λ e. parts.roles && includes_party parts r a e.0.party) (map.entries r.roles) (kept (map.entries r.roles) (each_there grants_total exact_grants r.roles))
      ∙ sym (list_any-map test (λ e. e.0) (map.entries r.roles))
    where
      kept : (es : List (Grant × Unit {0})) → AllByRecursion (λ e. map.get r.roles e.0 ≡ Some e.1) es
          → AllByRecursion (λ e. (is_role e.0.role StateAdministrator && not (nat_eq e.0.party n)) ≡ true → (parts.roles && includes_party parts r a e.0.party) ≡ true) es
      kept [] h = tt
      kept (e ∷ es) h = (
        λ passes. ap (λ b. b && includes_party parts r a e.0.party) roles ∙ administrator_included parts r a e.0.party administrators
            (subst (λ (role : Role). has_grant r.roles (grant_to e.0.party role) ≡ true) (administrator_is e.0.role (and_parts _ _ passes).0) (ap is_some h.0)),
        kept es h.1,
      )

-- the condition on the last state administrator, if all are included when the act ends that role
pub last_same : (parts : SliceParts) (r : Register) (caller : Caller) (a : Act) (it : Grant) → (is_role it.role StateAdministrator ≡ true → parts.administrators ≡ true) → parts.roles ≡ true
    → (is_role it.role StateAdministrator && not (has_other_administrator (slice_with parts r caller a) it.party)) ≡ (is_role it.role StateAdministrator && not (has_other_administrator r it.party))
last_same parts r caller a it administrators roles = by_role (is_role it.role StateAdministrator) refl
  where
    by_role : (b : Bool) → is_role it.role StateAdministrator ≡ b
        → (b && not (has_other_administrator (slice_with parts r caller a) it.party)) ≡ (b && not (has_other_administrator r it.party))
    by_role true is = ap not (beside_same parts r caller a (administrators is) roles it.party)
    by_role false is = refl

-- ---- mandates

-- a mandate equals itself
pub same_mandate : (it : Mandate) → is_same_mandate it it ≡ true
same_mandate it = ap (λ b. b && nat_eq it.agent it.agent) (nat_eq_equiv.refl it.principal) ∙ nat_eq_equiv.refl it.agent

module _ (parts : SliceParts) (r : Register) (caller : Caller) (a : Act) where
  pub mandated_same : (m : Mandate) → names_mandate caller a m ≡ true → has_mandate (slice_with parts r caller a).mandates m ≡ has_mandate r.mandates m
  mandated_same m named = ap is_some (get-entries_where mandates_total exact_mandates (λ k u. names_mandate caller a k) r.mandates m (λ u. named))

-- ---- units and entries

module _ (parts : SliceParts) (r : Register) (caller : Caller) (a : Act) (parties : parts.parties ≡ true) where
  pub stands_same : (n : ℕ) → names_party r a n ≡ true → has (slice_with parts r caller a).parties n ≡ has r.parties n
  stands_same n named = ap is_some (party_same parts r caller a parties n named)

  pub absent_same : (rights : List NewRight) → ((n : ℕ) → rights_list_party rights n ≡ true → names_party r a n ≡ true)
      → lists_absent_party (slice_with parts r caller a) rights ≡ lists_absent_party r rights
  absent_same [] named = refl
  absent_same (right ∷ rights) named =
      ap (λ b. not b || lists_absent_party (slice_with parts r caller a) rights)
      (stands_same right.party (named right.party (ap (λ b. b || rights_list_party rights right.party) (nat_eq_equiv.refl right.party))))
      ∙ ap (λ b. not (has r.parties right.party) || b)
      (absent_same rights (λ n listed. named n (or_right (nat_eq n right.party) (rights_list_party rights n) listed)))

module _ (parts : SliceParts) (r : Register) (caller : Caller) (a : Act) where
  pub unit_same : parts.units ≡ true → (n : ℕ) → names_unit r a n ≡ true → has (slice_with parts r caller a).units n ≡ has r.units n
  unit_same units n named = ap is_some (get-entries_where nat_cmp_total nat_cmp-IsAntisymmetric (λ k u. includes_unit parts r a k) r.units n (λ v. unit_included parts r a n units named))

  pub count_same : parts.units ≡ true → (unit : ℕ) → names_unit r a unit ≡ true → rrr_count (slice_with parts r caller a) unit ≡ rrr_count r unit
  count_same units unit named =
      ap (λ es. length (filter (λ e. nat_eq e.1.unit unit) es)) (entries-entries_where nat_cmp_total nat_cmp-IsAntisymmetric (λ n e. includes_rrr parts r a n e) r.rrrs)
      ∙ ap length (filter_within (λ e. nat_eq e.1.unit unit) (λ e. includes_rrr parts r a e.0 e.1)
      (λ e same. or_left (includes_unit parts r a e.1.unit) (names_rrr r a e.0) (unit_included parts r a e.1.unit units (subst (λ (n : ℕ). names_unit r a n ≡ true) (sym (eqb-true e.1.unit unit same)) named))) (map.entries r.rrrs))

  pub burden_same : (n : ℕ) → names_rrr r a n ≡ true → has_burden (slice_with parts r caller a) n ≡ has_burden r n
  burden_same n named =
      ap (λ o. option_map_or (λ e. is_burden_class e.class) o false)
      (get-entries_where nat_cmp_total nat_cmp-IsAntisymmetric (λ k e. includes_rrr parts r a k e) r.rrrs n (λ e. or_right (includes_unit parts r a e.unit) (names_rrr r a n) named))
