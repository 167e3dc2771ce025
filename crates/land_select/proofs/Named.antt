-- Entries with the names of their parties, which are read for the whole unit.
use Rattle.std.proofs.Common.{◌≡◌, ◌↔◌, ◌&&◌, ◌∙◌, inl, inr, ℕ, Bool, true, false, nat_eq, if◌then◌else◌, List, [], ◌∷◌, filter, map as map_list, None, Some, Option, refl, sym, ap, ap₂, true≢false}
use Rattle.std.proofs.lemmas.Bool.Decides.{Decides-eqb}
use Rattle.std.specs.Cmp.{nat_cmp_total}
use Rattle.std.specs.FinMap as map
use Rattle.std.specs.FinMap.{FinMap, nat_cmp-IsAntisymmetric}
use Rattle.std.specs.List.{Contains}
use Rattle.std.specs.Option.{option_map_or}
use Rattle.std.specs.Ordering.{nat_cmp}
use Rattle.std.proofs.lemmas.Bool.{and_parts}
use Rattle.land_core.proofs.Reflection.{entries-entries_where, some_at}
use Rattle.land_core.specs.declared.caller.Caller.{Caller}
use Rattle.land_core.specs.declared.kind.Kind.TheVariants.{Rrr}
use Rattle.land_core.specs.declared.party.PartyRecord.{PartyRecord}
use Rattle.land_core.specs.declared.register.Register.{Register}
use Rattle.land_core.specs.declared.rrr.RrrRecord.{RrrRecord}
use Rattle.land_keep.specs.Sheets.{visible_entries, name_at, named_rrr}
use Rattle.land_rules.specs.Rules.{sees}
use Rattle.land_select.specs.Views.{visible_rrrs, name_among, named_among, with_name}
use Rattle.land_select_queries.proofs.Containing.{first, first_or_later, in_nothing, later}
use Rattle.land_select_queries.proofs.Records.{passes_filter}
use Rattle.land_select_queries.proofs.Standing.{entry_there}
use Rattle.land_select_queries.specs.Lookups.Parties.{has_entry_in}
use Rattle.land_tables_history.specs.declared.version.Version.{Version}

abbrev PartyVersion : Type 0
PartyVersion = Version (ℕ × PartyRecord)

abbrev what_of : PartyVersion → ℕ × PartyRecord
what_of v = v.what

-- a party that is not in a list has no name in it
none_among : (parties : List PartyVersion) (number : ℕ) → ((party : ℕ × PartyRecord) → Contains (map_list what_of parties) party → party.0 ≡ number → ⊥) → name_among parties number ≡ []
none_among [] number absent = refl
none_among (v ∷ vs) number absent =
    go (nat_eq v.what.0 number) refl (none_among vs number (λ party among. absent party (later v.what (map_list what_of vs) party among)))
  where
    go : (b : Bool) → nat_eq v.what.0 number ≡ b → name_among vs number ≡ [] → (if b then v.what.1.name else name_among vs number) ≡ []
    go true is rest = absurd (absent v.what (first v.what (map_list what_of vs)) ((Decides-eqb v.what.0 number).0 is))
    go false is rest = rest

-- a party in a list has its own name, if all versions of its number are its own
one_among : (parties : List PartyVersion) (number : ℕ) (it : PartyRecord) → Contains (map_list what_of parties) (number, it)
    → ((party : ℕ × PartyRecord) → Contains (map_list what_of parties) party → party.0 ≡ number → party.1 ≡ it) → name_among parties number ≡ it.name
one_among [] number it among all = absurd (in_nothing (number, it) among)
one_among (v ∷ vs) number it among all =
    go (nat_eq v.what.0 number) refl (λ more. one_among vs number it more (λ party there. all party (later v.what (map_list what_of vs) party there)))
  where
    go : (b : Bool) → nat_eq v.what.0 number ≡ b → (Contains (map_list what_of vs) (number, it) → name_among vs number ≡ it.name)
        → (if b then v.what.1.name else name_among vs number) ≡ it.name
    go true is rest = ap (λ (p : PartyRecord). p.name) (all v.what (first v.what (map_list what_of vs)) ((Decides-eqb v.what.0 number).0 is))
    go false is rest = elim (first_or_later v.what (map_list what_of vs) (number, it) among) [
      | inl same ↦ absurd (true≢false (sym ((Decides-eqb v.what.0 number).1 (ap (λ (p : ℕ × PartyRecord). p.0) same)) ∙ is))
      | inr more ↦ rest more
    ]

one_value : {V : Type 0} {x y : V} → Some x ≡ Some y → x ≡ y
one_value e = cc

none_there : {V : Type 0} {x : V} → None ≡ Some x → ⊥
none_there e = cc

module _ (r : Register) (unit : ℕ) (parties : List PartyVersion)
    (all : (party : ℕ × PartyRecord) → Contains (map_list what_of parties) party ↔ ((has_entry_in r unit party.0 ≡ true) × (map.get r.parties party.0 ≡ Some party.1))) where
  -- the party of an entry of the unit has its name of the register
  name_is : (e : ℕ × RrrRecord) → Contains (map.entries r.rrrs) e → e.1.unit ≡ unit → name_among parties e.1.party ≡ name_at r e.1.party
  name_is e among same = go (map.get r.parties e.1.party) refl
    where
      passes : (nat_eq e.1.unit unit && nat_eq e.1.party e.1.party) ≡ true
      passes = ap₂ (λ a b. a && b) ((Decides-eqb e.1.unit unit).1 same) ((Decides-eqb e.1.party e.1.party).1 refl)

      has_one : has_entry_in r unit e.1.party ≡ true
      has_one = some_at nat_cmp_total nat_cmp-IsAntisymmetric (λ n x. nat_eq x.unit unit && nat_eq x.party e.1.party) r.rrrs e.0 e.1 (entry_there r.rrrs e among) passes

      go : (o : Option PartyRecord) → map.get r.parties e.1.party ≡ o → name_among parties e.1.party ≡ option_map_or (λ (p : PartyRecord). p.name) (map.get r.parties e.1.party) []
      go None got =
          none_among parties e.1.party (λ party there is. none_there (sym got ∙ ap (map.get r.parties) (sym is) ∙ ((all party).0 there).1))
          ∙ sym (ap (λ o. option_map_or (λ (p : PartyRecord). p.name) o []) got)
      go (Some it) got =
          one_among parties e.1.party it ((all (e.1.party, it)).1 (has_one, got)) (λ party there is. one_value (sym ((all party).0 there).1 ∙ ap (map.get r.parties) is ∙ got))
          ∙ sym (ap (λ o. option_map_or (λ (p : PartyRecord). p.name) o []) got)

same_mapped : {X Y : Type 0} (f g : X → Y) (xs : List X) → ((x : X) → Contains xs x → f x ≡ g x) → map_list f xs ≡ map_list g xs
same_mapped f g [] same = refl
same_mapped f g (x ∷ xs) same = ap₂ (λ a b. a ∷ b) (same x (first x xs)) (same_mapped f g xs (λ y among. same y (later x xs y among)))

-- an entry of the unit that the caller sees
abbrev is_seen : Register → Caller → (unit : ℕ) → ℕ × RrrRecord → Bool
is_seen r caller unit e = nat_eq e.1.unit unit && sees r caller Rrr e.0

-- so the visible entries with names are those of the title sheet
pub named_in_sight : (r : Register) (caller : Caller) (unit : ℕ) (entries : FinMap nat_cmp RrrRecord) (parties : List PartyVersion) → entries ≡ visible_rrrs r caller unit
    → ((party : ℕ × PartyRecord) → Contains (map_list what_of parties) party ↔ ((has_entry_in r unit party.0 ≡ true) × (map.get r.parties party.0 ≡ Some party.1)))
    → named_among parties (map.entries entries) ≡ visible_entries r caller unit
named_in_sight r caller unit entries parties are all =
    ap (λ m. named_among parties (map.entries m)) are ∙ ap (named_among parties) (entries-entries_where nat_cmp_total nat_cmp-IsAntisymmetric (λ n e. nat_eq e.unit unit && sees r caller Rrr n) r.rrrs)
    ∙ same_mapped (λ (e : ℕ × RrrRecord). with_name e.0 e.1 (name_among parties e.1.party)) (λ e. named_rrr r e.0 e.1) (filter (is_seen r caller unit) (map.entries r.rrrs))
    (λ e among.
    let it = passes_filter (is_seen r caller unit) (map.entries r.rrrs) e among in
    let both = and_parts (nat_eq e.1.unit unit) (sees r caller Rrr e.0) it.1 in
    ap (with_name e.0 e.1) (name_is r unit parties all e it.0 ((Decides-eqb e.1.unit unit).0 both.0)))
