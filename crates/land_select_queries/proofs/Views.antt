-- The policy's decisions, by the current versions.
use Rattle.std.proofs.Common.{◌≡◌, ◌⊎◌, inl, inr, ℕ, ℤ, Bool, true, false, not, ◌&&◌, nat_eq, Some, refl, sym, subst}
use Rattle.std.proofs.lemmas.Bool.{false≢true}
use Rattle.std.proofs.lemmas.Bool.Decides.{Decides-and, Decides-eqb, Decides-like, Decides-or}
use Rattle.std.specs.Bool.{Decides}
use Rattle.std.specs.FinMap as map
use Rattle.land_core.specs.Entries.{has, some}
use Rattle.land_core.specs.Mutations.{is_undecided}
use Rattle.land_core.specs.Register.{is_member}
use Rattle.land_core.specs.Units.{is_right_of}
use Rattle.land_core.specs.declared.mutation.MutationRecord.{MutationRecord}
use Rattle.land_core.specs.declared.register.Register.{Register}
use Rattle.land_core.specs.declared.rrr.Class.{Class}
use Rattle.land_core.specs.declared.rrr.Class.TheVariants.{Right, Restriction, Responsibility, Mortgage}
use Rattle.land_core.specs.declared.rrr.RightType.TheVariants.{Ownership}
use Rattle.land_core.specs.declared.rrr.RrrRecord.{RrrRecord}
use Rattle.land_rules.specs.Relations.{holds_under_name, is_creditor_on, is_holder, has_pending_mutation_on, is_mortgage_class, is_owner, is_right, is_visible_to_creditor, is_visible_to_holder}
use Rattle.land_select_queries.proofs.Naming.{Joins, Names, member_decides, names_decides}
use Rattle.land_select_queries.proofs.Standing.{has_decides, some_decides, there}
use Rattle.land_select_queries.specs.Sights.Selections.{LodgedPending, Credits, Entry, HoldsItself, HoldsThrough, IsVisibleEntry, IsVisibleToCreditor, IsVisibleToHolder, IsCurrent, IsCurrentUnder, UnitOf}
use Rattle.land_tables_history.specs.History.{IsRegisterAt}
use Rattle.land_tables_history.specs.declared.history.History.{History}

-- the targets of references of entries, members and mutations exist
pub record Refers (r : Register) : Type 0 where
  pub unit : (n : ℕ) (e : RrrRecord) → map.get r.rrrs n ≡ Some e → has r.units e.unit ≡ true
  pub party : (n : ℕ) (e : RrrRecord) → map.get r.rrrs n ≡ Some e → has r.parties e.party ≡ true
  pub group : (group party : ℕ) → is_member r group party ≡ true → has r.parties group ≡ true
  pub member : (group party : ℕ) → is_member r group party ≡ true → has r.parties party ≡ true
  pub lodger : (n : ℕ) (m : MutationRecord) → map.get r.mutations n ≡ Some m → has r.parties m.lodger ≡ true

pub plain : (b : Bool) → Decides b (b ≡ true)
plain b = ((λ h. h), (λ h. h))

pub not_decides : (b : Bool) → Decides (not b) (b ≡ false)
not_decides true = ((λ h. absurd (false≢true h)), (λ h. sym h))
not_decides false = ((λ h. refl), (λ h. refl))

-- an ownership is a right
owned_is_right : (class : Class) → is_right_of Ownership class ≡ true → is_right class ≡ true
owned_is_right (Right type share) h = refl
owned_is_right (Restriction words) h = absurd (false≢true h)
owned_is_right (Responsibility words) h = absurd (false≢true h)
owned_is_right (Mortgage amount currency rank) h = absurd (false≢true h)

-- holding, itself or through a group
abbrev pub Holds : (t : ℤ) → History → (caller : ℕ) → Entry → Type 0
Holds t h caller e = HoldsItself t h caller e ⊎ HoldsThrough t h caller e

-- a right of some classes in a unit has a holder
abbrev pub HeldAs : (t : ℤ) → History → (caller : ℕ) → (Class → Bool) → (unit : ℕ) → Type 0
HeldAs t h caller is_of unit = (e : Entry) × Holds t h caller e × (is_of e.1.class ≡ true) × (e.1.unit ≡ unit)

-- an entry that a holder sees
abbrev pub ToldToHolder : (t : ℤ) → History → (caller : ℕ) → Entry → Type 0
ToldToHolder t h caller seen = IsVisibleEntry t h (HoldsItself t h caller) IsVisibleToHolder seen ⊎ IsVisibleEntry t h (HoldsThrough t h caller) IsVisibleToHolder seen

-- a pending mutation of a party refers to a unit
pub awaits_decides : (r : Register) (t : ℤ) (h : History) → IsRegisterAt t h r → (p unit : ℕ) → Decides (has_pending_mutation_on r p unit) (LodgedPending t h p unit)
awaits_decides r t h is p unit =
    Decides-like (has_pending_mutation_on r p unit)
    (λ it. record {
      mutation = it.0;
      mutation_stands = it.1;
      naming = it.2.1.0;
      naming_stands = it.2.1.1.0;
      named_by = it.2.1.1.1;
      lodger = it.2.0.1;
      undecided = it.2.0.0;
      named = it.2.1.2;
    })
    (λ it. (it.mutation, it.mutation_stands, ((it.undecided, it.lodger), (it.naming, (it.naming_stands, it.named_by), it.named))))
    (some_decides t h.mutations r.mutations is.mutations _ (λ e. ((is_undecided e.1 ≡ true) × (e.1.lodger ≡ p)) × Names t h e (λ k. k ≡ unit))
    (λ e stands. Decides-and _ _ (Decides-and _ _ (plain (is_undecided e.1)) (Decides-eqb e.1.lodger p)) (names_decides r t h is (λ k. nat_eq k unit) (λ k. k ≡ unit) (λ k. Decides-eqb k unit) e stands)))

module _ (r : Register) (t : ℤ) (h : History) (is : IsRegisterAt t h r) (refers : Refers r) (p : ℕ) where
  -- an existing entry has a unit and a party that exist; so do a group and its members, and a mutation and
  -- its lodger
  pub unit_exists : (e : Entry) → IsCurrent t h.rrrs e → IsCurrentUnder t h.units e.1.unit
  unit_exists e stands = (has_decides t h.units r.units is.units e.1.unit).0 (refers.unit e.0 e.1 (there t h.rrrs r.rrrs is.rrrs e stands))

  pub party_exists : (e : Entry) → IsCurrent t h.rrrs e → IsCurrentUnder t h.parties e.1.party
  party_exists e stands = (has_decides t h.parties r.parties is.parties e.1.party).0 (refers.party e.0 e.1 (there t h.rrrs r.rrrs is.rrrs e stands))

  pub group_stands : (group party : ℕ) → Joins t h group party → IsCurrentUnder t h.parties group
  group_stands group party joins = (has_decides t h.parties r.parties is.parties group).0 (refers.group group party ((member_decides r t h is group party).1 joins))

  pub member_stands : (group party : ℕ) → Joins t h group party → IsCurrentUnder t h.parties party
  member_stands group party joins = (has_decides t h.parties r.parties is.parties party).0 (refers.member group party ((member_decides r t h is group party).1 joins))

  pub lodger_stands : (e : ℕ × MutationRecord) → IsCurrent t h.mutations e → IsCurrentUnder t h.parties e.1.lodger
  lodger_stands e stands = (has_decides t h.parties r.parties is.parties e.1.lodger).0 (refers.lodger e.0 e.1 (there t h.mutations r.mutations is.mutations e stands))

  -- ---- holders

  abbrev HasName : Entry → Type 0
  HasName e = (e.1.party ≡ p) ⊎ Joins t h e.1.party p

  name_decides : (e : Entry) → Decides (holds_under_name r p e.1.party) (HasName e)
  name_decides e = Decides-or _ _ (Decides-eqb e.1.party p) (member_decides r t h is e.1.party p)

  holding : (e : Entry) → IsCurrent t h.rrrs e → is_right e.1.class ≡ true → HasName e → Holds t h p e
  holding e stands right (inl itself) = inl (record { stands = stands; party = itself; class = right })
  holding e stands right (inr joins) = inr (record { joined = joins.0; joined_stands = joins.1; stands = stands; group = sym joins.2; member = joins.3; class = right })

  pub held_stands : (e : Entry) → Holds t h p e → IsCurrent t h.rrrs e
  held_stands e (inl it) = it.stands
  held_stands e (inr it) = it.stands

  pub held_right : (e : Entry) → Holds t h p e → is_right e.1.class ≡ true
  held_right e (inl it) = it.class
  held_right e (inr it) = it.class

  name_of : (e : Entry) → Holds t h p e → HasName e
  name_of e (inl it) = inl it.party
  name_of e (inr it) = inr (it.joined, it.joined_stands, sym it.group, it.member)

  held_decides : (is_of : Class → Bool) → ((class : Class) → is_of class ≡ true → is_right class ≡ true) → (unit : ℕ)
      → Decides (has r.units unit && some (λ n e. nat_eq e.unit unit && is_of e.class && holds_under_name r p e.party) r.rrrs) (HeldAs t h p is_of unit)
  held_decides is_of right unit =
      Decides-like (has r.units unit && some (λ n e. nat_eq e.unit unit && is_of e.class && holds_under_name r p e.party) r.rrrs)
      (λ it. (it.1.0, holding it.1.0 it.1.1 (right it.1.0.1.class it.1.2.0.1) it.1.2.1, it.1.2.0.1, it.1.2.0.0))
      (λ it.
      let stands = held_stands it.0 it.1 in
      (subst (IsCurrentUnder t h.units) it.3 (unit_exists it.0 stands), (it.0, stands, ((it.3, it.2), name_of it.0 it.1))))
      (Decides-and _ _ (has_decides t h.units r.units is.units unit)
      (some_decides t h.rrrs r.rrrs is.rrrs (λ n e. nat_eq e.unit unit && is_of e.class && holds_under_name r p e.party) (λ e. ((e.1.unit ≡ unit) × (is_of e.1.class ≡ true)) × HasName e)
      (λ e stands. Decides-and _ _ (Decides-and _ _ (Decides-eqb e.1.unit unit) (plain (is_of e.1.class))) (name_decides e))))

  pub holder_decides : (unit : ℕ) → Decides (is_holder r p unit) (HeldAs t h p is_right unit)
  holder_decides unit = held_decides is_right (λ class it. it) unit

  pub owner_decides : (unit : ℕ) → Decides (is_owner r p unit) (HeldAs t h p (is_right_of Ownership) unit)
  owner_decides unit = held_decides (is_right_of Ownership) owned_is_right unit

  telling : (seen held : Entry) → IsCurrent t h.rrrs seen → Holds t h p held → held.1.unit ≡ seen.1.unit → IsVisibleToHolder held seen → ToldToHolder t h p seen
  telling seen held stands (inl interest) unit yields = inl (record { held = held; interest = interest; stands = stands; unit = sym unit; yields = yields })
  telling seen held stands (inr interest) unit yields = inr (record { held = held; interest = interest; stands = stands; unit = sym unit; yields = yields })

  abbrev MayBeTold : Entry → Type 0
  MayBeTold seen = HeldAs t h p is_right seen.1.unit × ((is_mortgage_class seen.1.class ≡ false) ⊎ HeldAs t h p (is_right_of Ownership) seen.1.unit)

  tell : (seen : Entry) → IsCurrent t h.rrrs seen → MayBeTold seen → ToldToHolder t h p seen
  tell seen stands (held, inl none) = telling seen held.0 stands held.1 held.3 (inl none)
  tell seen stands (held, inr own) = telling seen own.0 stands own.1 own.3 (inr own.2)

  told_by : (seen held : Entry) → Holds t h p held → seen.1.unit ≡ held.1.unit → IsVisibleToHolder held seen → MayBeTold seen
  told_by seen held holds unit (inl none) = ((held, holds, held_right held holds, sym unit), inl none)
  told_by seen held holds unit (inr own) = ((held, holds, held_right held holds, sym unit), inr (held, holds, own, sym unit))

  told : (seen : Entry) → ToldToHolder t h p seen → MayBeTold seen
  told seen (inl it) = told_by seen it.held (inl it.interest) it.unit it.yields
  told seen (inr it) = told_by seen it.held (inr it.interest) it.unit it.yields

  pub told_to_holder_decides : (seen : Entry) → IsCurrent t h.rrrs seen → Decides (is_visible_to_holder r p seen.1) (ToldToHolder t h p seen)
  told_to_holder_decides seen stands =
      Decides-like (is_visible_to_holder r p seen.1) (tell seen stands) (told seen)
      (Decides-and _ _ (holder_decides seen.1.unit) (Decides-or _ _ (not_decides (is_mortgage_class seen.1.class)) (owner_decides seen.1.unit)))

  -- ---- creditors

  pub creditor_decides : (unit : ℕ) → Decides (is_creditor_on r p unit) (UnitOf (Credits t h p) unit)
  creditor_decides unit =
      Decides-like (is_creditor_on r p unit)
      (λ it. (it.1.0, record { stands = it.1.1; party = it.1.2.1; class = it.1.2.0.1 }, it.1.2.0.0))
      (λ it. (subst (IsCurrentUnder t h.units) it.2 (unit_exists it.0 it.1.stands), (it.0, it.1.stands, ((it.2, it.1.class), it.1.party))))
      (Decides-and _ _ (has_decides t h.units r.units is.units unit)
      (some_decides t h.rrrs r.rrrs is.rrrs (λ n e. nat_eq e.unit unit && is_mortgage_class e.class && nat_eq e.party p) (λ e. ((e.1.unit ≡ unit) × (is_mortgage_class e.1.class ≡ true)) × (e.1.party ≡ p))
      (λ e stands. Decides-and _ _ (Decides-and _ _ (Decides-eqb e.1.unit unit) (plain (is_mortgage_class e.1.class))) (Decides-eqb e.1.party p))))

  pub told_to_creditor_decides : (seen : Entry) → Decides (is_visible_to_creditor p seen.1) (IsVisibleToCreditor p seen)
  told_to_creditor_decides seen = Decides-or _ _ (not_decides (is_mortgage_class seen.1.class)) (Decides-eqb seen.1.party p)

  -- ---- lodgers

  pub lodger_decides : (unit : ℕ) → Decides (has_pending_mutation_on r p unit) (LodgedPending t h p unit)
  lodger_decides unit = awaits_decides r t h is p unit
