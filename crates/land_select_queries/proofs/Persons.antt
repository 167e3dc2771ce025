-- The object of a party needs only its record, its roles and its members.
use Rattle.std.proofs.Common.{◌≡◌, ℕ, Bool, nat_eq, cond, is_some, List, [], ◌∷◌, filter, None, Some, refl, ap, ap₂, ◌∙◌}
use Rattle.std.specs.Cmp.{nat_cmp_total, tied_itself}
use Rattle.std.specs.FinMap as map
use Rattle.std.specs.FinMap.{FinMap, nat_cmp-IsAntisymmetric}
use Rattle.std.specs.Option.{option_map, option_map_or}
use Rattle.std.specs.Ordering.{is_eq, nat_cmp}
use Rattle.std.proofs.lemmas.Cmp.{nat_eq_equiv}
use Rattle.land_core.proofs.FiniteSets.{exact_grants, grants_total}
use Rattle.land_core.proofs.Reflection.{get-entries_where}
use Rattle.land_core.specs.Entries.{entries_where}
use Rattle.land_core.specs.Grants.{Grants, grant_to, has_grant}
use Rattle.land_core.specs.Members.{Members, members_in}
use Rattle.land_core.specs.Register.{empty_register, object_at}
use Rattle.land_core.specs.Role.{all_roles}
use Rattle.land_core.specs.declared.kind.Kind.TheVariants as kinds
use Rattle.land_core.specs.declared.object.Object.TheVariants as object
use Rattle.land_core.specs.declared.party.PartyRecord.{PartyRecord}
use Rattle.land_core.specs.declared.register.Register.{Register}

filter_alike : {X : Type 0} (p q : X → Bool) → ((x : X) → p x ≡ q x) → (xs : List X) → filter p xs ≡ filter q xs
filter_alike p q same [] = refl
filter_alike p q same (x ∷ xs) = ap₂ (λ b rest. cond b (x ∷ rest) rest) (same x) (filter_alike p q same xs)

module _ (r : Register) (n : ℕ) where
  pub by_its_own : (found : PartyRecord) (roles : Grants) (members : FinMap nat_cmp Members) → roles ≡ entries_where (λ grant u. nat_eq grant.party n) r.roles → members ≡ entries_where (λ k ms. nat_eq k n) r.members
      → object_at (record empty_register { parties = map.insert map.empty n found; roles = roles; members = members }) kinds.Party n ≡ object_at (record r { parties = map.insert map.empty n found }) kinds.Party n
  by_its_own found roles members are_roles are_members =
      let group : map.get members n ≡ map.get r.members n = ap (λ m. map.get m n) are_members ∙ get-entries_where nat_cmp_total nat_cmp-IsAntisymmetric (λ k ms. nat_eq k n) r.members n (λ v. nat_eq_equiv.refl n) in
      let held : filter (λ role. has_grant roles (grant_to n role)) all_roles ≡ filter (λ role. has_grant r.roles (grant_to n role)) all_roles =
      filter_alike (λ role. has_grant roles (grant_to n role)) (λ role. has_grant r.roles (grant_to n role))
      (λ role. ap (λ g. has_grant g (grant_to n role)) are_roles ∙ ap is_some (get-entries_where grants_total exact_grants (λ grant u. nat_eq grant.party n) r.roles (grant_to n role) (λ v. nat_eq_equiv.refl n))) all_roles in
      ap₂ (λ ms held. option_map object.Party (option_map (λ p. record { number = n; kind = p.kind; name = p.name; members = option_map_or members_in ms []; roles = held }) (map.get (map.insert (map.empty {R = nat_cmp}) n found) n))) group held

  -- the object of an existing party
  pub as_it_stands : (found : PartyRecord) → Some found ≡ map.get r.parties n → object_at (record r { parties = map.insert map.empty n found }) kinds.Party n ≡ object_at r kinds.Party n
  as_it_stands found is =
      let got : map.get (map.insert (map.empty {R = nat_cmp}) n found) n ≡ map.get r.parties n = map.get-insert nat_cmp_total map.empty n found n ∙ ap (λ b. cond b (Some found) (map.get (map.empty {R = nat_cmp}) n)) (ap is_eq (tied_itself nat_cmp_total n)) ∙ is in
      ap (λ o. option_map object.Party (option_map (λ p. record { number = n; kind = p.kind; name = p.name; members = option_map_or members_in (map.get r.members n) []; roles = filter (λ role. has_grant r.roles (grant_to n role)) all_roles }) o)) got

  -- a party that does not exist has no object
  pub nobody_there : None ≡ map.get r.parties n → None ≡ object_at r kinds.Party n
  nobody_there is = ap (λ o. option_map object.Party (option_map (λ p. record { number = n; kind = p.kind; name = p.name; members = option_map_or members_in (map.get r.members n) []; roles = filter (λ role. has_grant r.roles (grant_to n role)) all_roles }) o)) is
