-- The sight of a role for a kind, without mandates, is what its selections return.
use Rattle.std.proofs.Common.{◌≡◌, ◌⊎◌, inl, inr, ℕ, ℤ, Bool, true, false, cond, not, ◌&&◌, ◌||◌, nat_eq, List, refl, sym, ap, ap₂, subst, ◌∙◌}
use Rattle.std.proofs.lemmas.Bool.{false≢true}
use Rattle.std.proofs.lemmas.Bool.Decides.{Decides-and, Decides-at, Decides-eqb, Decides-like, Decides-or}
use Rattle.std.specs.Bool.{Decides}
use Rattle.std.specs.FinMap as map
use Rattle.std.specs.FinMap.{FinMap}
use Rattle.std.specs.Option.{option_map_or}
use Rattle.std.specs.Ordering.{nat_cmp}
use Rattle.land_core.specs.Entries.{has, some}
use Rattle.land_core.specs.declared.caller.Caller.{Caller}
use Rattle.land_core.specs.declared.kind.Kind.{Kind}
use Rattle.land_core.specs.declared.kind.Kind.TheVariants as kind
use Rattle.land_core.specs.declared.register.Register.{Register}
use Rattle.land_core.specs.declared.role.Role.{Role}
use Rattle.land_core.specs.declared.role.Role.TheVariants.{Citizen, Conveyancer, Notary, Bank, CertifiedSurveyor, StateAdministrator}
use Rattle.land_core.specs.declared.rrr.RrrRecord.{RrrRecord}
use Rattle.land_rules.proofs.Alone.{group_alone, held_alone, in_circle_alone, told_alone}
use Rattle.land_rules.specs.CircleLaws.{without_mandates}
use Rattle.land_rules.specs.Circles.{circle_of, is_held_by, is_visible_to_circle, names_held_by}
use Rattle.land_rules.specs.Relations.{has_lodged, is_creditor_on, is_holder, has_pending_mutation_on, is_lodger_of, is_member_of, is_right, is_visible_to_holder}
use Rattle.land_rules.specs.Rules.{is_allowed, is_party_in_sight, is_rrr_in_sight, is_visible_to_bank, is_visible_to_conveyancer, sees}
use Rattle.land_rules.specs.declared.verdict.Verdict.TheVariants.{Allowed, Denied}
use Rattle.land_select_queries.proofs.Naming.{Joins, Names, member_decides, named_by, names_decides}
use Rattle.land_select_queries.proofs.Standing.{at_decides, has_decides, one_stands, some_decides}
use Rattle.land_select_queries.proofs.Views.{HeldAs, Holds, Refers, ToldToHolder, creditor_decides, group_stands, held_right, held_stands, holder_decides, lodger_decides, party_exists, told_to_creditor_decides, told_to_holder_decides, unit_exists}
use Rattle.land_select_queries.specs.Sights.{AnySelects, selections_of}
use Rattle.land_select_queries.specs.Sights.Selections.{LodgedPending, Credits, Entry, EntryOf, HoldsItself, HoldsThrough, IsPendingEntry, IsReferenceTo, IsVisibleEntry, IsVisibleToCreditor, IsVisibleToHolder, PartyOf, IsCurrent, IsCurrentUnder, selects}
use Rattle.land_select_queries.specs.declared.sights.selection.Selection.TheVariants as selection
use Rattle.land_tables_history.specs.History.{IsRegisterAt}
use Rattle.land_tables_history.specs.Standing.{IsPartAt}
use Rattle.land_tables_history.specs.declared.history.History.{History}
use Rattle.land_tables_history.specs.declared.naming.Naming.{Naming}
use Rattle.land_tables_history.specs.declared.version.Version.{Version}

-- a role's rule and the last rule together allow what passes both
passes_both : (a b : Bool) (k : ℕ) → is_allowed (cond (not a) (Denied k) (cond (not b) (Denied 27) Allowed)) ≡ (a && b)
passes_both true true k = refl
passes_both true false k = refl
passes_both false b k = refl

both_pass : {P : Type 0} (a b : Bool) (k : ℕ) → Decides (a && b) P → Decides (is_allowed (cond (not a) (Denied k) (cond (not b) (Denied 27) Allowed))) P
both_pass a b k = Decides-at _ (a && b) (passes_both a b k)

-- one selection, or none
one_decides : {P : Type 0} (b : Bool) → Decides b P → Decides b (P ⊎ ⊥)
one_decides b = Decides-like b inl (λ it. elim it [ inl p ↦ p | inr none ↦ absurd none ])

none_decides : Decides false ⊥
none_decides = ((λ e. absurd (false≢true e)), (λ none. absurd none))

-- two selections of one form
module _ {X : Type 0} (A B Y : X → Type 0) where
  apart : (x : X) → A x ⊎ B x → Y x → ((x : X) × A x × Y x) ⊎ (((x : X) × B x × Y x) ⊎ ⊥)
  apart x (inl a) y = inl (x, a, y)
  apart x (inr b) y = inr (inl (x, b, y))

  together : ((x : X) × A x × Y x) ⊎ (((x : X) × B x × Y x) ⊎ ⊥) → (x : X) × (A x ⊎ B x) × Y x
  together (inl it) = (it.0, inl it.1, it.2)
  together (inr (inl it)) = (it.0, inr it.1, it.2)
  together (inr (inr none)) = absurd none

-- all objects of a kind
all_decides : {V : Type 0} (t : ℤ) (versions : List (Version (ℕ × V))) (m : FinMap nat_cmp V) → IsPartAt t versions m → (n : ℕ)
    → Decides (is_allowed (cond (not (has m n)) (Denied 27) Allowed)) (IsCurrentUnder t versions n ⊎ ⊥)
all_decides t versions m is n = one_decides _ (Decides-at _ (has m n) (passes (has m n)) (has_decides t versions m is n))
  where
    passes : (b : Bool) → is_allowed (cond (not b) (Denied 27) Allowed) ≡ b
    passes true = refl
    passes false = refl

module _ (r : Register) (t : ℤ) (h : History) (is : IsRegisterAt t h r) (refers : Refers r) (p : ℕ) where
  -- the same register without mandates: there the circle of a citizen is only the citizen
  abbrev pub single : Register
  single = without_mandates r

  -- ---- units

  pub held_units : (n : ℕ) → Decides (is_holder r p n && has r.units n) (AnySelects (selections_of Citizen kind.Unit) t h p n)
  held_units n =
      Decides-like (is_holder r p n && has r.units n)
      (λ it. apart (HoldsItself t h p) (HoldsThrough t h p) (λ e. e.1.unit ≡ n) it.0.0 it.0.1 it.0.3)
      (λ some. let it = together (HoldsItself t h p) (HoldsThrough t h p) (λ e. e.1.unit ≡ n) some in
      ((it.0, it.1, held_right r t h is refers p it.0 it.1, it.2), subst (IsCurrentUnder t h.units) it.2 (unit_exists r t h is refers p it.0 (held_stands r t h is refers p it.0 it.1))))
      (Decides-and _ _ (holder_decides r t h is refers p n) (has_decides t h.units r.units is.units n))

  pub credit_units : (n : ℕ) → Decides (is_creditor_on r p n && has r.units n) (AnySelects (selections_of Bank kind.Unit) t h p n)
  credit_units n =
      one_decides (is_creditor_on r p n && has r.units n)
      (Decides-like (is_creditor_on r p n && has r.units n) (λ it. it.0)
      (λ it. (it, subst (IsCurrentUnder t h.units) it.2 (unit_exists r t h is refers p it.0 it.1.stands)))
      (Decides-and _ _ (creditor_decides r t h is refers p n) (has_decides t h.units r.units is.units n)))

  pub lodged_units : (n : ℕ) → Decides (has_pending_mutation_on r p n && has r.units n) (AnySelects (selections_of Conveyancer kind.Unit) t h p n)
  lodged_units n =
      one_decides (has_pending_mutation_on r p n && has r.units n)
      (Decides-like (has_pending_mutation_on r p n && has r.units n)
      (λ it. (it.1.0, it.1.1, subst (LodgedPending t h p) (sym it.1.2) it.0, it.1.2))
      (λ it. (subst (LodgedPending t h p) it.3 it.2, (it.0, it.1, it.3)))
      (Decides-and _ _ (lodger_decides r t h is refers p n) (has_decides t h.units r.units is.units n)))

  -- ---- entries

  -- the visible entries among the current ones
  module _ (yields : RrrRecord → Bool) (P : Entry → Type 0) (stand : (e : Entry) → P e → IsCurrent t h.rrrs e) (each : (e : Entry) → IsCurrent t h.rrrs e → Decides (yields e.1) (P e)) where
    pub entries : (n : ℕ) → Decides (option_map_or yields (map.get r.rrrs n) false && has r.rrrs n) (EntryOf P n)
    entries n =
        Decides-like (option_map_or yields (map.get r.rrrs n) false && has r.rrrs n) (λ it. (it.0.0, it.0.1.1, it.0.2))
        (λ it. let stands = stand it.0 it.1 in ((it.0, (stands, it.1), it.2), (it.0, stands, it.2)))
        (Decides-and _ _ (at_decides t h.rrrs r.rrrs is.rrrs yields P each n) (has_decides t h.rrrs r.rrrs is.rrrs n))

  -- the parties of visible entries
  pub parties : (seen : ℕ → Bool) (P : Entry → Type 0) → ((e : Entry) → P e → IsCurrent t h.rrrs e) → ((n : ℕ) → Decides (seen n) (EntryOf P n)) → (q : ℕ)
      → Decides (some (λ n e. nat_eq e.party q && seen n) r.rrrs) (PartyOf P q)
  parties seen P stand each q =
      Decides-like (some (λ n e. nat_eq e.party q && seen n) r.rrrs)
      (λ it.
      let shown = it.2.1 in
      let same : shown.0.1 ≡ it.0.1 = one_stands t h.rrrs r.rrrs is.rrrs shown.0 it.0 (stand shown.0 shown.1) it.1 shown.2 in
      (shown.0, shown.1, ap (λ (e : RrrRecord). e.party) same ∙ it.2.0))
      (λ it. (it.0, stand it.0 it.1, (it.2, (it.0, it.1, refl))))
      (some_decides t h.rrrs r.rrrs is.rrrs (λ n e. nat_eq e.party q && seen n) (λ e. (e.1.party ≡ q) × EntryOf P e.0) (λ e stands. Decides-and _ _ (Decides-eqb e.1.party q) (each e.0)))

  abbrev pub citizen : Caller
  citizen = record { party = p; role = Citizen }

  abbrev pub bank : Caller
  bank = record { party = p; role = Bank }

  abbrev pub conveyancer : Caller
  conveyancer = record { party = p; role = Conveyancer }

  -- ---- a citizen

  abbrev pub ToHolder : Entry → Type 0
  ToHolder = ToldToHolder t h p

  pub holder_stands : (e : Entry) → ToHolder e → IsCurrent t h.rrrs e
  holder_stands e (inl it) = it.stands
  holder_stands e (inr it) = it.stands

  pub entries_of_holder : (n : ℕ) → Decides (is_rrr_in_sight single citizen n) (EntryOf ToHolder n)
  entries_of_holder n = both_pass _ (has r.rrrs n) 12 (entries (is_visible_to_circle single (circle_of single p)) ToHolder holder_stands told n)
    where
      told : (e : Entry) → IsCurrent t h.rrrs e → Decides (is_visible_to_circle single (circle_of single p) e.1) (ToHolder e)
      told e stands = Decides-at _ (is_visible_to_holder r p e.1) (told_alone single refl p e.1) (told_to_holder_decides r t h is refers p e stands)

  -- ---- a bank

  abbrev pub ToBank : Entry → Type 0
  ToBank = IsVisibleEntry t h (Credits t h p) (λ held. IsVisibleToCreditor p)

  bank_told : (e : Entry) → IsCurrent t h.rrrs e → Decides (is_visible_to_bank r bank e.1) (ToBank e)
  bank_told e stands =
      Decides-like (is_visible_to_bank r bank e.1)
      (λ it. elim it.0 [
        | inl by ↦ record { held = by.0; interest = by.1; stands = stands; unit = sym by.2; yields = it.1 }
        | inr none ↦ absurd none
      ])
      (λ it. (inl (it.held, it.interest, sym it.unit), it.yields))
      (Decides-and _ _ (both_pass (is_creditor_on r p e.1.unit) (has r.units e.1.unit) 15 (credit_units e.1.unit)) (told_to_creditor_decides r t h is refers p e))

  pub entries_of_bank : (n : ℕ) → Decides (is_rrr_in_sight r bank n) (EntryOf ToBank n)
  entries_of_bank n = both_pass _ (has r.rrrs n) 16 (entries (is_visible_to_bank r bank) ToBank (λ e it. it.stands) bank_told n)

  -- ---- a conveyancer

  abbrev pub ToConveyancer : Entry → Type 0
  ToConveyancer = IsPendingEntry t h p

  conveyancer_told : (e : Entry) → IsCurrent t h.rrrs e → Decides (is_visible_to_conveyancer r conveyancer e.1) (ToConveyancer e)
  conveyancer_told e stands =
      Decides-like (is_visible_to_conveyancer r conveyancer e.1)
      (λ it. elim it [
        | inl by ↦ record { awaits = subst (LodgedPending t h p) by.3 by.2; stands = stands }
        | inr none ↦ absurd none
      ])
      (λ it. let unit = unit_exists r t h is refers p e it.stands in inl (unit.0, unit.1, subst (LodgedPending t h p) (sym unit.2) it.awaits, unit.2))
      (both_pass (has_pending_mutation_on r p e.1.unit) (has r.units e.1.unit) 19 (lodged_units e.1.unit))

  pub entries_of_conveyancer : (n : ℕ) → Decides (is_rrr_in_sight r conveyancer n) (EntryOf ToConveyancer n)
  entries_of_conveyancer n = both_pass _ (has r.rrrs n) 20 (entries (is_visible_to_conveyancer r conveyancer) ToConveyancer (λ e it. it.stands) conveyancer_told n)

  -- ---- parties

  -- itself, and the parties of visible objects
  itself_and : (in_sight : Bool) (P : Entry → Type 0) → ((e : Entry) → P e → IsCurrent t h.rrrs e) → (n : ℕ) → Decides in_sight (PartyOf P n)
      → Decides ((nat_eq n p || in_sight) && has r.parties n) (selects selection.Itself t h p n ⊎ (PartyOf P n ⊎ ⊥))
  itself_and in_sight P stand n seen =
      Decides-like ((nat_eq n p || in_sight) && has r.parties n)
      (λ it. elim it.0 [
        | inl same ↦ inl (it.1.0, it.1.1, it.1.2 ∙ same, it.1.2)
        | inr by ↦ inr (inl by)
      ])
      (λ some. elim some [
        | inl it ↦ (inl (sym it.3 ∙ it.2), (it.0, it.1, it.3))
        | inr others ↦ elim others [
          | inl by ↦ (inr by, subst (IsCurrentUnder t h.parties) by.2 (party_exists r t h is refers p by.0 (stand by.0 by.1)))
          | inr none ↦ absurd none
        ]
      ])
      (Decides-and _ _ (Decides-or _ _ (Decides-eqb n p) seen) (has_decides t h.parties r.parties is.parties n))

  pub parties_of_citizen : (n : ℕ) → Decides ((nat_eq n p || is_member_of r p n || is_party_in_sight single citizen n) && has r.parties n) (AnySelects (selections_of Citizen kind.Party) t h p n)
  parties_of_citizen n =
      Decides-like ((nat_eq n p || is_member_of r p n || is_party_in_sight single citizen n) && has r.parties n) forth back
      (Decides-and _ _ (Decides-or _ _ (Decides-or _ _ (Decides-eqb n p) (member_decides r t h is n p)) (parties (is_rrr_in_sight single citizen) ToHolder holder_stands entries_of_holder n))
      (has_decides t h.parties r.parties is.parties n))
    where
      forth : (((n ≡ p) ⊎ Joins t h n p) ⊎ PartyOf ToHolder n) × IsCurrentUnder t h.parties n → AnySelects (selections_of Citizen kind.Party) t h p n
      forth (inl (inl same), it) = inl (it.0, it.1, it.2 ∙ same, it.2)
      forth (inl (inr joins), it) = inr (inl (joins.0, joins.1, joins.3, joins.2))
      forth (inr by, it) =
          inr (inr (apart (IsVisibleEntry t h (HoldsItself t h p) IsVisibleToHolder) (IsVisibleEntry t h (HoldsThrough t h p) IsVisibleToHolder) (λ e. e.1.party ≡ n) by.0 by.1 by.2))

      back : AnySelects (selections_of Citizen kind.Party) t h p n → (((n ≡ p) ⊎ Joins t h n p) ⊎ PartyOf ToHolder n) × IsCurrentUnder t h.parties n
      back (inl it) = (inl (inl (sym it.3 ∙ it.2)), (it.0, it.1, it.3))
      back (inr (inl it)) = let joins : Joins t h n p = (it.0, it.1, it.3, it.2) in (inl (inr joins), group_stands r t h is refers p n p joins)
      back (inr (inr told)) =
          let by = together (IsVisibleEntry t h (HoldsItself t h p) IsVisibleToHolder) (IsVisibleEntry t h (HoldsThrough t h p) IsVisibleToHolder) (λ e. e.1.party ≡ n) told in
          (inr by, subst (IsCurrentUnder t h.parties) by.2 (party_exists r t h is refers p by.0 (holder_stands by.0 by.1)))

  only_itself : (n : ℕ) → Decides (nat_eq n p && has r.parties n) (AnySelects (selections_of CertifiedSurveyor kind.Party) t h p n)
  only_itself n =
      one_decides (nat_eq n p && has r.parties n)
      (Decides-like (nat_eq n p && has r.parties n) (λ it. (it.1.0, it.1.1, it.1.2 ∙ it.0, it.1.2)) (λ it. (sym it.3 ∙ it.2, (it.0, it.1, it.3)))
      (Decides-and _ _ (Decides-eqb n p) (has_decides t h.parties r.parties is.parties n)))

  -- ---- mutations

  lodgings : (n : ℕ) → Decides (has_lodged r p n && has r.mutations n) (selects selection.ItsLodgings t h p n ⊎ ⊥)
  lodgings n =
      one_decides (has_lodged r p n && has r.mutations n)
      (Decides-like (has_lodged r p n && has r.mutations n) (λ it. (it.0.0, it.0.1.0, it.0.1.1, it.0.2)) (λ it. ((it.0, (it.1, it.2), it.3), (it.0, it.1, it.3)))
      (Decides-and _ _ (at_decides t h.mutations r.mutations is.mutations (is_lodger_of p) (λ e. e.1.lodger ≡ p) (λ e stands. Decides-eqb e.1.lodger p) n)
      (has_decides t h.mutations r.mutations is.mutations n)))

  abbrev NamedByHolding : Naming → Type 0
  NamedByHolding n = IsReferenceTo t h (HoldsItself t h p) n ⊎ IsReferenceTo t h (HoldsThrough t h p) n

  named_mutations : (n : ℕ) → Decides (option_map_or (names_held_by single (circle_of single p)) (map.get r.mutations n) false && has r.mutations n) (AnySelects (selections_of Citizen kind.Mutation) t h p n)
  named_mutations n =
      Decides-like (option_map_or (names_held_by single (circle_of single p)) (map.get r.mutations n) false && has r.mutations n)
      (λ it.
      let naming = it.0.1.1 in
      apart (IsReferenceTo t h (HoldsItself t h p)) (IsReferenceTo t h (HoldsThrough t h p)) (λ k. k.mutation ≡ n) naming.0
      (name naming.0 naming.1.0 naming.2.0 naming.2.1 naming.2.3) (naming.1.1 ∙ it.0.2))
      (λ some.
      let it = together (IsReferenceTo t h (HoldsItself t h p)) (IsReferenceTo t h (HoldsThrough t h p)) (λ k. k.mutation ≡ n) some in
      let stands = named_stands it.0 it.1 in
      let by = named_by r t h is it.0 stands in
      let number : by.0.0 ≡ n = sym by.2 ∙ it.2 in
      ((by.0, (by.1, (it.0, (stands, by.2), named_held it.0 it.1)), number), (by.0, by.1, number)))
      (Decides-and _ _ (at_decides t h.mutations r.mutations is.mutations (names_held_by single (circle_of single p)) (λ e. Names t h e (HeldAs t h p is_right))
      (names_decides r t h is (is_held_by single (circle_of single p)) (HeldAs t h p is_right) held) n) (has_decides t h.mutations r.mutations is.mutations n))
    where
      held : (unit : ℕ) → Decides (is_held_by single (circle_of single p) unit) (HeldAs t h p is_right unit)
      held unit = Decides-at _ (is_holder r p unit) (held_alone single refl p unit) (holder_decides r t h is refers p unit)

      name : (k : Naming) → IsCurrent t h.namings k → (held : Entry) → Holds t h p held → held.1.unit ≡ k.unit → NamedByHolding k
      name k stands held (inl interest) unit = inl (record { held = held; interest = interest; stands = stands; unit = sym unit })
      name k stands held (inr interest) unit = inr (record { held = held; interest = interest; stands = stands; unit = sym unit })

      named_stands : (k : Naming) → NamedByHolding k → IsCurrent t h.namings k
      named_stands k (inl it) = it.stands
      named_stands k (inr it) = it.stands

      named_held : (k : Naming) → NamedByHolding k → HeldAs t h p is_right k.unit
      named_held k (inl it) = (it.held, inl it.interest, it.interest.class, sym it.unit)
      named_held k (inr it) = (it.held, inr it.interest, it.interest.class, sym it.unit)

  -- ---- all roles and kinds, without mandates

  pub sight : (role : Role) (k : Kind) (n : ℕ) → Decides (sees single (record { party = p; role = role }) k n) (AnySelects (selections_of role k) t h p n)
  sight Citizen kind.Party n =
      both_pass _ (has r.parties n) 13
      (Decides-at _ ((nat_eq n p || is_member_of r p n || is_party_in_sight single citizen n) && has r.parties n)
      (ap₂ (λ a b. (a || b || is_party_in_sight single citizen n) && has r.parties n) (in_circle_alone single refl p n) (group_alone single refl p n)) (parties_of_citizen n))
  sight Citizen kind.Unit n =
      both_pass _ (has r.units n) 11 (Decides-at _ (is_holder r p n && has r.units n) (ap (λ b. b && has r.units n) (held_alone single refl p n)) (held_units n))
  sight Citizen kind.Parcel n = all_decides t h.parcels r.parcels is.parcels n
  sight Citizen kind.Rrr n =
      Decides-like (is_rrr_in_sight single citizen n)
      (λ it. apart (IsVisibleEntry t h (HoldsItself t h p) IsVisibleToHolder) (IsVisibleEntry t h (HoldsThrough t h p) IsVisibleToHolder) (λ e. e.0 ≡ n) it.0 it.1 it.2)
      (together (IsVisibleEntry t h (HoldsItself t h p) IsVisibleToHolder) (IsVisibleEntry t h (HoldsThrough t h p) IsVisibleToHolder) (λ e. e.0 ≡ n)) (entries_of_holder n)
  sight Citizen kind.Source n = none_decides
  sight Citizen kind.Mutation n = both_pass _ (has r.mutations n) 14 (named_mutations n)
  sight Conveyancer kind.Party n =
      both_pass _ (has r.parties n) 21
      (itself_and (is_party_in_sight r conveyancer n) ToConveyancer (λ e it. it.stands) n (parties (is_rrr_in_sight r conveyancer) ToConveyancer (λ e it. it.stands) entries_of_conveyancer n))
  sight Conveyancer kind.Unit n = both_pass _ (has r.units n) 19 (lodged_units n)
  sight Conveyancer kind.Parcel n = all_decides t h.parcels r.parcels is.parcels n
  sight Conveyancer kind.Rrr n = one_decides _ (entries_of_conveyancer n)
  sight Conveyancer kind.Source n = none_decides
  sight Conveyancer kind.Mutation n = both_pass _ (has r.mutations n) 22 (lodgings n)
  sight Notary kind.Party n = all_decides t h.parties r.parties is.parties n
  sight Notary kind.Unit n = all_decides t h.units r.units is.units n
  sight Notary kind.Parcel n = all_decides t h.parcels r.parcels is.parcels n
  sight Notary kind.Rrr n = all_decides t h.rrrs r.rrrs is.rrrs n
  sight Notary kind.Source n = all_decides t h.sources r.sources is.sources n
  sight Notary kind.Mutation n = all_decides t h.mutations r.mutations is.mutations n
  sight Bank kind.Party n =
      both_pass _ (has r.parties n) 17 (itself_and (is_party_in_sight r bank n) ToBank (λ e it. it.stands) n (parties (is_rrr_in_sight r bank) ToBank (λ e it. it.stands) entries_of_bank n))
  sight Bank kind.Unit n = both_pass _ (has r.units n) 15 (credit_units n)
  sight Bank kind.Parcel n = all_decides t h.parcels r.parcels is.parcels n
  sight Bank kind.Rrr n = one_decides _ (entries_of_bank n)
  sight Bank kind.Source n = none_decides
  sight Bank kind.Mutation n = both_pass _ (has r.mutations n) 18 (lodgings n)
  sight CertifiedSurveyor kind.Party n = both_pass _ (has r.parties n) 24 (only_itself n)
  sight CertifiedSurveyor kind.Unit n = none_decides
  sight CertifiedSurveyor kind.Parcel n = all_decides t h.parcels r.parcels is.parcels n
  sight CertifiedSurveyor kind.Rrr n = none_decides
  sight CertifiedSurveyor kind.Source n = none_decides
  sight CertifiedSurveyor kind.Mutation n = both_pass _ (has r.mutations n) 25 (lodgings n)
  sight StateAdministrator kind.Party n = all_decides t h.parties r.parties is.parties n
  sight StateAdministrator kind.Unit n = all_decides t h.units r.units is.units n
  sight StateAdministrator kind.Parcel n = all_decides t h.parcels r.parcels is.parcels n
  sight StateAdministrator kind.Rrr n = all_decides t h.rrrs r.rrrs is.rrrs n
  sight StateAdministrator kind.Source n = all_decides t h.sources r.sources is.sources n
  sight StateAdministrator kind.Mutation n = all_decides t h.mutations r.mutations is.mutations n
