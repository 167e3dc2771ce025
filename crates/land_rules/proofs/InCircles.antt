-- The circle of a party, and the relations of its members.
use Rattle.std.proofs.Common.{◌≡◌, ℕ, Bool, true, false, ◌||◌, ◌&&◌, not, List, [], ◌∷◌, filter, map as map_list, Option, Some, None, is_some, refl, sym, ap, ◌∙◌}
use Rattle.std.specs.Prelude.{nat_eq}
use Rattle.std.specs.FinMap as map
use Rattle.std.specs.FinMap.{nat_cmp-IsAntisymmetric}
use Rattle.std.specs.List.{list_any}
use Rattle.std.specs.Cmp.{nat_cmp_total}
use Rattle.std.specs.Option.{option_map_or}
use Rattle.std.proofs.lemmas.Bool.{false≢true, and_parts, eqb-true}
use Rattle.std.proofs.lemmas.Cmp.{nat_eq_equiv}
use Rattle.land_core.proofs.Booleans.{same_tests}
use Rattle.land_core.proofs.FiniteMaps.{nothing_from_length}
use Rattle.land_core.proofs.FiniteSets.{exact_mandates, mandates_total}
use Rattle.land_core.proofs.Reflection.{list_any-map, some_at, some_passes}
use Rattle.land_core.specs.Contents.{refers_to_unit_where}
use Rattle.land_core.specs.Entries.{has, some}
use Rattle.land_core.specs.Mandates.{has_mandate, mandate_cmp, mandate_between, mandates_in}
use Rattle.land_core.specs.Members.{Members}
use Rattle.land_core.specs.Register.{stands}
use Rattle.land_core.specs.Units.{is_right_of}
use Rattle.land_core.specs.declared.content.Content.{Content}
use Rattle.land_core.specs.declared.content.Content.TheVariants as content
use Rattle.land_core.specs.declared.kind.Kind.TheVariants as kind
use Rattle.land_core.specs.declared.mandates.Mandate.{Mandate}
use Rattle.land_core.specs.declared.register.Register.{Register}
use Rattle.land_core.specs.declared.rrr.RightType.TheVariants.{Ownership}
use Rattle.land_core.specs.declared.rrr.RrrRecord.{RrrRecord}
use Rattle.land_rules.proofs.SightLaws.{owner_is_holder}
use Rattle.land_rules.proofs.SomeOf.{and_any, any_alike, any_and, any_either, any_implied, any_kept, any_none, any_or}
use Rattle.land_rules.specs.CircleLaws.{CirclesWithoutMandates, CirclesAreOfMandates}
use Rattle.land_rules.specs.Circles.{is_held_by, is_name_of, is_owned_by, is_visible_to_circle, principals_of}
use Rattle.land_rules.specs.Holdings.{has_member_among, is_name_among}
use Rattle.land_rules.specs.Relations.{holds_under_name, is_holder, is_member_of, is_mortgage_class, is_owner, is_right, is_visible_to_holder}

-- ---- principals

-- a principal satisfies a condition exactly if one does in a mandate that the party has
pub some_principal : (t : ℕ → Bool) (at : Register) (party : ℕ) → list_any t (principals_of at party) ≡ list_any (λ m. nat_eq m.agent party && t m.principal) (mandates_in at.mandates)
some_principal t at party =
    list_any-map t (λ (m : Mandate). m.principal) (filter (λ m. nat_eq m.agent party) (mandates_in at.mandates))
    ∙ any_kept (λ m. t m.principal) (λ m. nat_eq m.agent party) (mandates_in at.mandates)

-- a principal is a party that gave an existing mandate
abbrev is_of : (party number : ℕ) → Mandate → Unit {0} → Bool
is_of party number m u = nat_eq m.agent party && nat_eq number m.principal

held_there : (at : Register) (party number : ℕ) → list_any (λ e. is_of party number e.0 e.1) (map.entries at.mandates) ≡ has_mandate at.mandates (mandate_between number party)
held_there at party number = same_tests _ _ forth (back (map.get at.mandates (mandate_between number party)) refl)
  where
    forth : list_any (λ e. is_of party number e.0 e.1) (map.entries at.mandates) ≡ true → has_mandate at.mandates (mandate_between number party) ≡ true
    forth h =
        let it = some_passes mandates_total exact_mandates (is_of party number) at.mandates h in
        let parts = and_parts (nat_eq it.key.agent party) (nat_eq number it.key.principal) it.passes in
        let key : mandate_between number party ≡ it.key = ap (λ n. mandate_between n party) (eqb-true number it.key.principal parts.1) ∙ ap (mandate_between it.key.principal) (sym (eqb-true it.key.agent party parts.0)) in
        ap (λ m. has_mandate at.mandates m) key ∙ ap is_some it.there

    back : (found : Option (Unit {0})) → map.get at.mandates (mandate_between number party) ≡ found → has_mandate at.mandates (mandate_between number party) ≡ true
        → list_any (λ e. is_of party number e.0 e.1) (map.entries at.mandates) ≡ true
    back None is h = absurd (false≢true (sym (ap is_some is) ∙ h))
    back (Some u) is h =
        some_at mandates_total exact_mandates (is_of party number) at.mandates (mandate_between number party) u is
        (ap (λ b. b && nat_eq number number) (nat_eq_equiv.refl party) ∙ nat_eq_equiv.refl number)

pub is_principal : (at : Register) (party number : ℕ) → list_any (nat_eq number) (principals_of at party) ≡ has_mandate at.mandates (mandate_between number party)
unfolding mandates_in
is_principal at party number =
    some_principal (nat_eq number) at party
    ∙ list_any-map (λ (m : Mandate). nat_eq m.agent party && nat_eq number m.principal) (λ e. e.0) (map.entries at.mandates)
    ∙ held_there at party number

pub are_of_mandates : CirclesAreOfMandates
are_of_mandates at party number = ap (λ b. nat_eq number party || b) (is_principal at party number)

-- without mandates, a party has no principals
none_in : map.entries (map.empty {X = Unit {0}} {R = mandate_cmp}) ≡ []
none_in = nothing_from_length _ (sym (map.len-entries map.empty) ∙ map.len-empty mandate_cmp (Unit {0}))

pub no_principals : (at : Register) (party : ℕ) → at.mandates ≡ map.empty → principals_of at party ≡ []
unfolding mandates_in
no_principals at party none = ap (λ es. map_list (λ (m : Mandate). m.principal) (filter (λ m. nat_eq m.agent party) (map_list (λ e. e.0) es))) (ap map.entries none ∙ none_in)

pub alone : CirclesWithoutMandates
alone at party none = ap (λ ps. party ∷ ps) (no_principals at party none)

-- ---- relations of the members of a circle

implied : (a b : Bool) → (b ≡ true → a ≡ true) → (a && b) ≡ b
implied true b h = refl
implied false true h = h refl
implied false false h = refl

module _ (at : Register) (circle : List ℕ) where
  -- a circle sees an entry exactly if a member sees it as a holder
  pub told_together : (e : RrrRecord) → is_visible_to_circle at circle e ≡ list_any (λ p. is_visible_to_holder at p e) circle
  told_together e = by_class (is_mortgage_class e.class)
    where
      by_class : (m : Bool) → (is_held_by at circle e.unit && (not m || is_owned_by at circle e.unit)) ≡ list_any (λ p. is_holder at p e.unit && (not m || is_owner at p e.unit)) circle
      by_class false = any_and (λ p. is_holder at p e.unit) true circle
      by_class true =
          implied (is_held_by at circle e.unit) (is_owned_by at circle e.unit) (any_implied (λ p. is_holder at p e.unit) (λ p. is_owner at p e.unit) (λ p. owner_is_holder at p e.unit) circle)
          ∙ any_alike (λ p. is_owner at p e.unit) (λ p. is_holder at p e.unit && is_owner at p e.unit) (λ p. sym (implied (is_holder at p e.unit) (is_owner at p e.unit) (owner_is_holder at p e.unit))) circle

  pub named_together : (c : Content) → refers_to_unit_where (is_held_by at circle) c ≡ list_any (λ p. refers_to_unit_where (is_holder at p) c) circle
  named_together (content.Transfer it) = refl
  named_together (content.Subdivision it) = refl
  named_together (content.Merger it) =
      ap (λ b. is_held_by at circle it.unit || b) (any_either (λ u p. is_holder at p u) it.others circle)
      ∙ any_or (λ p. is_holder at p it.unit) (λ p. list_any (is_holder at p) it.others) circle
  named_together (content.Mortgage it) = refl
  named_together (content.Discharge it) = refl

  -- ---- relations by name

  by_names : (is_of : RrrRecord → Bool) (unit : ℕ) → list_any (λ p. stands at kind.Unit unit && some (λ n e. is_of e && holds_under_name at p e.party) at.rrrs) circle
      ≡ (stands at kind.Unit unit && some (λ n e. is_of e && is_name_of at circle e.party) at.rrrs)
  by_names is_of unit =
      sym (and_any (stands at kind.Unit unit) (λ p. some (λ n e. is_of e && holds_under_name at p e.party) at.rrrs) circle)
      ∙ ap (λ b. stands at kind.Unit unit && b)
      (any_either (λ p e. is_of e.1 && holds_under_name at p e.1.party) circle (map.entries at.rrrs)
      ∙ any_alike (λ e. list_any (λ p. is_of e.1 && holds_under_name at p e.1.party) circle) (λ e. is_of e.1 && is_name_of at circle e.1.party)
      (λ e. sym (and_any (is_of e.1) (λ p. holds_under_name at p e.1.party) circle)) (map.entries at.rrrs))

  pub held_by_names : (unit : ℕ) → is_held_by at circle unit ≡ (stands at kind.Unit unit && some (λ n e. nat_eq e.unit unit && is_right e.class && is_name_of at circle e.party) at.rrrs)
  held_by_names unit = by_names (λ e. nat_eq e.unit unit && is_right e.class) unit

  pub owned_by_names : (unit : ℕ) → is_owned_by at circle unit ≡ (stands at kind.Unit unit && some (λ n e. nat_eq e.unit unit && is_right_of Ownership e.class && is_name_of at circle e.party) at.rrrs)
  owned_by_names unit = by_names (λ e. nat_eq e.unit unit && is_right_of Ownership e.class) unit

  -- the names are the members of the circle, and the groups of which one of them is a member
  pub names_in_parts : (named : ℕ) → (list_any (nat_eq named) circle || list_any (λ p. is_member_of at p named) circle) ≡ is_name_of at circle named
  names_in_parts named = any_or (nat_eq named) (λ p. is_member_of at p named) circle

  -- a member is found among the members
  member_found : (members : Members) (p : ℕ) → some (λ party share. nat_eq party p) members ≡ has members p
  member_found members p = same_tests _ _ forth (back (map.get members p) refl)
    where
      forth : some (λ party share. nat_eq party p) members ≡ true → has members p ≡ true
      forth h =
          let it = some_passes nat_cmp_total nat_cmp-IsAntisymmetric (λ party share. nat_eq party p) members h in
          ap (has members) (sym (eqb-true it.key p it.passes)) ∙ ap is_some it.there

      back : (found : Option _) → map.get members p ≡ found → has members p ≡ true → some (λ party share. nat_eq party p) members ≡ true
      back None is h = absurd (false≢true (sym (ap is_some is) ∙ h))
      back (Some share) is h = some_at nat_cmp_total nat_cmp-IsAntisymmetric (λ party share. nat_eq party p) members p share is (nat_eq_equiv.refl p)

  members_among : (found : Option Members) → option_map_or (has_member_among (λ n. list_any (nat_eq n) circle)) found false ≡ list_any (λ p. option_map_or (λ members. has members p) found false) circle
  members_among None = sym (any_none circle)
  members_among (Some members) =
      any_either (λ e p. nat_eq e.0 p) (map.entries members) circle
      ∙ any_alike (λ p. some (λ party share. nat_eq party p) members) (λ p. has members p) (member_found members) circle

  pub names_among : (named : ℕ) → is_name_among at (λ n. list_any (nat_eq n) circle) named ≡ is_name_of at circle named
  names_among named = ap (λ b. list_any (nat_eq named) circle || b) (members_among (map.get at.members named)) ∙ names_in_parts named
