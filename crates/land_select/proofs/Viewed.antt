-- Lookups and queries return the parts of a unit's view.
use Rattle.std.proofs.Common.{◌≡◌, ◌&&◌, ◌∙◌, ℕ, ℤ, Bool, true, false, nat_eq, cond, List, [], ◌∷◌, filter, map as map_list, None, Some, Option, is_some, refl, sym, ap, ap₂, inl, inr}
use Rattle.std.specs.Cmp.{nat_cmp_total}
use Rattle.std.specs.FinMap as map
use Rattle.std.specs.FinMap.{FinMap, nat_cmp-IsAntisymmetric}
use Rattle.std.specs.List.{Contains, list_any}
use Rattle.std.specs.Ordering.{nat_cmp}
use Rattle.std.specs.Option.{option_map}
use Rattle.land_core.proofs.Reflection.{entries-entries_where}
use Rattle.land_core.specs.Entries.{entries_where, with_entries}
use Rattle.land_core.specs.Laws.{SoundnessByNumber}
use Rattle.land_core.specs.Register.{unit_at}
use Rattle.land_core.specs.declared.caller.Caller.{Caller}
use Rattle.land_core.specs.declared.kind.Kind.TheVariants.{Rrr}
use Rattle.land_core.specs.declared.parcel.ParcelRecord.{ParcelRecord}
use Rattle.land_core.specs.declared.register.Register.{Register}
use Rattle.land_core.specs.declared.rrr.RrrRecord.{RrrRecord}
use Rattle.land_core.specs.declared.unit.Unit.{Unit as UnitShown}
use Rattle.land_core.specs.declared.unit.UnitRecord.{UnitRecord}
use Rattle.land_keep.specs.Sheets.{visible_entries, parcels_at, numbered_parcel, view_at}
use Rattle.land_rules.specs.Denials.Sight.{FullSightShowsAll, sees_all}
use Rattle.land_rules.specs.Laws.{SeenListsAreExact}
use Rattle.land_rules.specs.Laws.{IsSoundOrNothing}
use Rattle.land_rules.specs.Rules.{seen_of, sees}
use Rattle.land_select.specs.Views.{AgreesWithRegister, visible_rrrs, view_at_moment, view_from}
use Rattle.land_select_queries.proofs.Containing.{first, later}
use Rattle.land_select_queries.proofs.Standing.{entry_there}
use Rattle.land_select_queries.specs.Joins.Sight.{IsSight}
use Rattle.land_select_queries.specs.Lookups.Parts.{ReadsPart}
use Rattle.land_tables.proofs.Members.{no_members, sound_members}
use Rattle.land_tables_history.specs.Groups.{HaveMembers}
use Rattle.sqlite_trees.specs.Tree.{Trees}

-- no group is empty in a register that is sound or empty
pub have_members : SoundnessByNumber → (r : Register) → IsSoundOrNothing r → HaveMembers r.members
have_members look_ups r (inl sound) = sound_members look_ups r sound
have_members look_ups r (inr none) = rw none no_members

-- so a part of it is a fact of it
pub part_shown : SoundnessByNumber → {T : Type 0} (part : Register → T) (t : ℤ) (db : Trees) (it : T) → ReadsPart part t db it → AgreesWithRegister part t db it
part_shown look_ups part t db it is moments h held r premise stands = is moments h held r (have_members look_ups r premise) stands

-- the parcels of a unit
pub parcels_are : (r : Register) (unit : ℕ) (found : FinMap nat_cmp ParcelRecord) → found ≡ entries_where (λ n p. nat_eq p.unit unit) r.parcels → map_list (λ e. numbered_parcel e.0 e.1) (map.entries found) ≡ parcels_at r unit
parcels_are r unit found is =
    ap (λ m. map_list (λ e. numbered_parcel e.0 e.1) (map.entries m)) is ∙ ap (map_list (λ e. numbered_parcel e.0 e.1)) (entries-entries_where nat_cmp_total nat_cmp-IsAntisymmetric (λ n p. nat_eq p.unit unit) r.parcels)

-- ---- entries

module _ {X : Type 0} where
  pub twice : (p q : X → Bool) (xs : List X) → filter p (filter q xs) ≡ filter (λ x. q x && p x) xs
  twice p q [] = refl
  twice p q (x ∷ xs) = go (q x) (twice p q xs)
    where
      go : (b : Bool) → filter p (filter q xs) ≡ filter (λ x. q x && p x) xs → filter p (cond b (x ∷ filter q xs) (filter q xs)) ≡ cond (b && p x) (x ∷ filter (λ x. q x && p x) xs) (filter (λ x. q x && p x) xs)
      go true rest = ap (λ l. cond (p x) (x ∷ l) l) rest
      go false rest = rest

  alike : (p q : X → Bool) → ((x : X) → p x ≡ q x) → (xs : List X) → filter p xs ≡ filter q xs
  alike p q same [] = refl
  alike p q same (x ∷ xs) = ap₂ (λ b rest. cond b (x ∷ rest) rest) (same x) (alike p q same xs)

  -- so it is for tests that agree on the contents of the list
  pub agreed : (p q : X → Bool) (xs : List X) → ((x : X) → Contains xs x → p x ≡ q x) → filter p xs ≡ filter q xs
  agreed p q [] same = refl
  agreed p q (x ∷ xs) same = ap₂ (λ b rest. cond b (x ∷ rest) rest) (same x (first x xs)) (agreed p q xs (λ y among. same y (later x xs y among)))

both_true : (a b : Bool) → b ≡ true → a ≡ (a && b)
both_true true b is = sym is
both_true false b is = refl

-- a caller that sees all entries sees those of a unit
pub all_in_sight : FullSightShowsAll → (r : Register) (caller : Caller) (unit : ℕ) → sees_all caller.role Rrr ≡ true → entries_where (λ n e. nat_eq e.unit unit) r.rrrs ≡ visible_rrrs r caller unit
all_in_sight law r caller unit all =
    ap (with_entries (map.empty {R = nat_cmp}))
    (agreed (λ e. nat_eq e.1.unit unit) (λ e. nat_eq e.1.unit unit && sees r caller Rrr e.0) (map.entries r.rrrs)
    (λ e among. both_true (nat_eq e.1.unit unit) (sees r caller Rrr e.0) (law r caller Rrr e.0 all ∙ ap is_some (entry_there r.rrrs e among))))

-- the entries of a unit that are in the list are visible
pub listed_in_sight : SeenListsAreExact → (r : Register) (caller : Caller) (unit : ℕ) (listed : List ℕ) → listed ≡ seen_of r caller Rrr
    → entries_where (λ n e. list_any (nat_eq n) listed) (entries_where (λ n e. nat_eq e.unit unit) r.rrrs) ≡ visible_rrrs r caller unit
listed_in_sight exact r caller unit listed are =
    ap (with_entries (map.empty {R = nat_cmp}))
    (ap (filter (λ e. list_any (nat_eq e.0) listed)) (entries-entries_where nat_cmp_total nat_cmp-IsAntisymmetric (λ n e. nat_eq e.unit unit) r.rrrs)
    ∙ twice (λ e. list_any (nat_eq e.0) listed) (λ e. nat_eq e.1.unit unit) (map.entries r.rrrs)
    ∙ alike (λ e. nat_eq e.1.unit unit && list_any (nat_eq e.0) listed) (λ e. nat_eq e.1.unit unit && sees r caller Rrr e.0)
    (λ e. ap (λ b. nat_eq e.1.unit unit && b) (ap (list_any (nat_eq e.0)) are ∙ (exact r caller Rrr).exact e.0)) (map.entries r.rrrs))

-- the entries of a unit, and the numbers of all entries that the caller sees
abbrev pub AreListed : (t : ℤ) → Trees → Caller → (unit : ℕ) → FinMap nat_cmp RrrRecord → List ℕ → Type 0
AreListed t db caller unit entries listed = ReadsPart (λ r. entries_where (λ n e. nat_eq e.unit unit) r.rrrs) t db entries × IsSight caller Rrr t db listed

-- ---- the view

composed : (r : Register) (caller : Caller) (unit : ℕ) (t : ℤ) (o : Option UnitRecord) → option_map (view_from r caller unit t) o
    ≡ option_map (λ u. record { unit = u; parcels = parcels_at r unit; rrrs = visible_entries r caller unit; at = t }) (option_map (λ u. record { number = unit; name = u.name; checked = u.checked }) o)
composed r caller unit t None = refl
composed r caller unit t (Some u) = refl

-- the view is that of the existing unit, or `None`
pub view_is : (r : Register) (caller : Caller) (unit : ℕ) (t : ℤ) (o : Option UnitRecord) → o ≡ map.get r.units unit → option_map (view_from r caller unit t) o ≡ view_at r caller unit t
view_is r caller unit t o is =
    composed r caller unit t o
    ∙ ap (λ o. option_map (λ u. record { unit = u; parcels = parcels_at r unit; rrrs = visible_entries r caller unit; at = t }) (option_map (λ u. record { number = unit; name = u.name; checked = u.checked }) o)) is

-- a view with another time
pub renamed : (r : Register) (caller : Caller) (unit : ℕ) (t u : ℤ) → view_at_moment t (view_at r caller unit u) ≡ view_at r caller unit t
renamed r caller unit t u = go (unit_at r unit)
  where
    go : (o : Option UnitShown) → view_at_moment t (option_map (λ w. record { unit = w; parcels = parcels_at r unit; rrrs = visible_entries r caller unit; at = u }) o)
        ≡ option_map (λ w. record { unit = w; parcels = parcels_at r unit; rrrs = visible_entries r caller unit; at = t }) o
    go None = refl
    go (Some w) = refl
