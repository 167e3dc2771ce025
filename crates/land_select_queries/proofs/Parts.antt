-- The decoded rows of a table are the matching part of the register's records, roles or groups.
use Rattle.std.proofs.Common.{◌≡◌, ℕ, ℤ, Bool, true, false, ◌&&◌, ◌++◌, cond, List, [], ◌∷◌, filter, flat_map, map, refl, sym, ap, subst, ◌∙◌, IsPermutation}
use Rattle.std.proofs.lemmas.List.Sorted.{IsPermutation-map, IsPermutation-trans}
use Rattle.std.specs.Cmp.{nat_cmp_total}
use Rattle.std.specs.FinMap as finite
use Rattle.std.specs.FinMap.{FinMap, nat_cmp-IsAntisymmetric}
use Rattle.std.specs.List.{Contains}
use Rattle.std.specs.Ordering.{nat_cmp}
use Rattle.land_core.proofs.FiniteSets.{exact_grants, exact_mandates, grants_total, mandates_total}
use Rattle.land_core.proofs.Reflection.{entries-entries_where}
use Rattle.land_core.specs.Entries.{entries_where}
use Rattle.land_core.specs.Grants.{Grants, grants_in}
use Rattle.land_core.specs.Mandates.{Mandates, mandates_in}
use Rattle.land_core.specs.Members.{Members, members_in}
use Rattle.land_core.specs.declared.mandates.Mandate.{Mandate}
use Rattle.land_core.specs.declared.member.Member.{Member}
use Rattle.land_core.specs.declared.roles.Grant.{Grant}
use Rattle.land_select_queries.proofs.Records.{passes_filter}
use Rattle.land_select_queries.proofs.Standing.{entry_found, entry_there}
use Rattle.land_tables_history.proofs.Permutations.{filter_permuted}
use Rattle.land_tables_history.specs.Groups.{AreGroupsAt, HaveMembers, group_members}
use Rattle.land_tables_history.specs.Standing.{AreMandatesAt, AreRolesAt, IsPartAt, is_current, current_values}
use Rattle.land_tables_history.specs.declared.group_member.GroupMember.{GroupMember}
use Rattle.land_tables_history.specs.declared.version.Version.{Version}

module _ {X : Type 0} (t : ℤ) (meant : X → Bool) where
  abbrev test : Version X → Bool
  test v = is_current t v && meant v.what

  abbrev whats : List (Version X) → List X
  whats vs = map (λ (v : Version X). v.what) vs

  -- all decoded versions are current
  kept_twice : (versions : List (Version X)) → current_values t (filter test versions) ≡ filter meant (current_values t versions)
  kept_twice [] = refl
  kept_twice (v ∷ vs) = go (is_current t v) (meant v.what) refl refl (kept_twice vs)
    where
      go : (a b : Bool) → is_current t v ≡ a → meant v.what ≡ b → current_values t (filter test vs) ≡ filter meant (current_values t vs)
          → whats (filter (is_current t) (cond (a && b) (v ∷ filter test vs) (filter test vs))) ≡ filter meant (whats (cond a (v ∷ filter (is_current t) vs) (filter (is_current t) vs)))
      go true true is says rest =
          ap (λ b. whats (cond b (v ∷ filter (is_current t) (filter test vs)) (filter (is_current t) (filter test vs)))) is ∙ ap (λ m. v.what ∷ m) rest
          ∙ sym (ap (λ b. cond b (v.what ∷ filter meant (current_values t vs)) (filter meant (current_values t vs))) says)
      go true false is says rest = rest ∙ sym (ap (λ b. cond b (v.what ∷ filter meant (current_values t vs)) (filter meant (current_values t vs))) says)
      go false b is says rest = rest

  -- if the current versions represent a part, the decoded ones represent its matching part
  pub stand_of : (versions : List (Version X)) (items : List X) → IsPermutation (current_values t versions) items
      → (found : List (Version X)) → IsPermutation found (filter (λ v. is_current t v && meant v.what) versions) → IsPermutation (current_values t found) (filter meant items)
  stand_of versions items part found are =
      IsPermutation-trans (current_values t found) (current_values t (filter test versions)) (filter meant items)
      (IsPermutation-map (λ (v : Version X). v.what) (filter (is_current t) found) (filter (is_current t) (filter test versions)) (filter_permuted (is_current t) found (filter test versions) are))
      (subst (λ m. IsPermutation m (filter meant items)) (sym (kept_twice versions)) (filter_permuted meant (current_values t versions) items part))

-- records
pub part_found : {V : Type 0} (t : ℤ) (p : ℕ → V → Bool) (versions : List (Version (ℕ × V))) (m : FinMap nat_cmp V) → IsPartAt t versions m
    → (found : List (Version (ℕ × V))) → IsPermutation found (filter (λ v. is_current t v && p v.what.0 v.what.1) versions) → IsPartAt t found (entries_where p m)
part_found t p versions m part found are =
    subst (IsPermutation (current_values t found)) (sym (entries-entries_where nat_cmp_total nat_cmp-IsAntisymmetric p m)) (stand_of t (λ e. p e.0 e.1) versions (finite.entries m) part found are)

-- roles

first_kept : {X : Type 0} (q : X → Bool) (es : List (X × Unit {0})) → map (λ e. e.0) (filter (λ e. q e.0) es) ≡ filter q (map (λ e. e.0) es)
first_kept q [] = refl
first_kept q (e ∷ es) = go (q e.0) (first_kept q es)
  where
    go : (b : Bool) → map (λ e. e.0) (filter (λ e. q e.0) es) ≡ filter q (map (λ e. e.0) es)
        → map (λ e. e.0) (cond b (e ∷ filter (λ e. q e.0) es) (filter (λ e. q e.0) es)) ≡ cond b (e.0 ∷ filter q (map (λ e. e.0) es)) (filter q (map (λ e. e.0) es))
    go true rest = ap (λ m. e.0 ∷ m) rest
    go false rest = rest

grants_kept : (q : Grant → Bool) (grants : Grants) → grants_in (entries_where (λ g u. q g) grants) ≡ filter q (grants_in grants)
unfolding grants_in
grants_kept q grants = ap (map (λ e. e.0)) (entries-entries_where grants_total exact_grants (λ g u. q g) grants) ∙ first_kept q (finite.entries grants)

pub roles_found : (t : ℤ) (q : Grant → Bool) (versions : List (Version Grant)) (grants : Grants) → AreRolesAt t versions grants
    → (found : List (Version Grant)) → IsPermutation found (filter (λ v. is_current t v && q v.what) versions) → AreRolesAt t found (entries_where (λ g u. q g) grants)
roles_found t q versions grants part found are =
    subst (IsPermutation (current_values t found)) (sym (grants_kept q grants)) (stand_of t q versions (grants_in grants) part found are)

-- mandates, likewise

mandates_kept : (q : Mandate → Bool) (mandates : Mandates) → mandates_in (entries_where (λ m u. q m) mandates) ≡ filter q (mandates_in mandates)
unfolding mandates_in
mandates_kept q mandates = ap (map (λ e. e.0)) (entries-entries_where mandates_total exact_mandates (λ m u. q m) mandates) ∙ first_kept q (finite.entries mandates)

pub mandates_found : (t : ℤ) (q : Mandate → Bool) (versions : List (Version Mandate)) (mandates : Mandates) → AreMandatesAt t versions mandates
    → (found : List (Version Mandate)) → IsPermutation found (filter (λ v. is_current t v && q v.what) versions) → AreMandatesAt t found (entries_where (λ m u. q m) mandates)
mandates_found t q versions mandates part found are =
    subst (IsPermutation (current_values t found)) (sym (mandates_kept q mandates)) (stand_of t q versions (mandates_in mandates) part found are)

-- groups

abbrev listed : ℕ × Members → List GroupMember
listed g = map (λ m. record { group = g.0; member = m }) (members_in g.1)

filter_append : {X : Type 0} (p : X → Bool) (xs ys : List X) → filter p (xs ++ ys) ≡ filter p xs ++ filter p ys
filter_append p [] ys = refl
filter_append p (x ∷ xs) ys = go (p x) (filter_append p xs ys)
  where
    go : (b : Bool) → filter p (xs ++ ys) ≡ filter p xs ++ filter p ys → cond b (x ∷ filter p (xs ++ ys)) (filter p (xs ++ ys)) ≡ cond b (x ∷ filter p xs) (filter p xs) ++ filter p ys
    go true h = ap (λ l. x ∷ l) h
    go false h = h

module _ (q : ℕ → Bool) where
  abbrev joins : GroupMember → Bool
  joins j = q j.group

  abbrev one_of : ℕ → Member → GroupMember
  one_of k m = record { group = k; member = m }

  all_or_none : (k : ℕ) (ms : List Member) → filter joins (map (one_of k) ms) ≡ cond (q k) (map (one_of k) ms) []
  all_or_none k [] = either (q k)
    where
      either : (b : Bool) → ◌≡◌ {A = List GroupMember} [] (cond b [] [])
      either true = refl
      either false = refl
  all_or_none k (m ∷ ms) = go (q k) (all_or_none k ms)
    where
      go : (b : Bool) → filter joins (map (one_of k) ms) ≡ cond b (map (one_of k) ms) []
          → cond b (one_of k m ∷ filter joins (map (one_of k) ms)) (filter joins (map (one_of k) ms)) ≡ cond b (one_of k m ∷ map (one_of k) ms) []
      go true h = ap (λ l. one_of k m ∷ l) h
      go false h = h

  groups_kept : (gs : List (ℕ × Members)) → filter joins (flat_map listed gs) ≡ flat_map listed (filter (λ g. q g.0) gs)
  groups_kept [] = refl
  groups_kept (g ∷ gs) =
      filter_append joins (listed g) (flat_map listed gs) ∙ ap (λ l. l ++ filter joins (flat_map listed gs)) (all_or_none g.0 (members_in g.1)) ∙ go (q g.0) (groups_kept gs)
    where
      go : (b : Bool) → filter joins (flat_map listed gs) ≡ flat_map listed (filter (λ g. q g.0) gs)
          → cond b (listed g) [] ++ filter joins (flat_map listed gs) ≡ flat_map listed (cond b (g ∷ filter (λ g. q g.0) gs) (filter (λ g. q g.0) gs))
      go true h = ap (λ l. listed g ++ l) h
      go false h = h

  pub groups_found : (t : ℤ) (versions : List (Version GroupMember)) (groups : FinMap nat_cmp Members) → AreGroupsAt t versions groups
      → (found : List (Version GroupMember)) → IsPermutation found (filter (λ v. is_current t v && q v.what.group) versions) → AreGroupsAt t found (entries_where (λ n members. q n) groups)
  groups_found t versions groups part found are =
      let all : filter joins (group_members groups) ≡ group_members (entries_where (λ n members. q n) groups) =
      groups_kept (finite.entries groups) ∙ ap (flat_map listed) (sym (entries-entries_where nat_cmp_total nat_cmp-IsAntisymmetric (λ n members. q n) groups)) in
      subst (IsPermutation (current_values t found)) all (stand_of t joins versions (group_members groups) part found are)

  -- the groups of a filtered map have their members
  pub still_have : (groups : FinMap nat_cmp Members) → HaveMembers groups → HaveMembers (entries_where (λ n members. q n) groups)
  still_have groups have group is =
      let there = entry_found (entries_where (λ n members. q n) groups) group finite.empty is in
      let among = subst (λ es. Contains es (group, finite.empty)) (entries-entries_where nat_cmp_total nat_cmp-IsAntisymmetric (λ n members. q n) groups) there in
      have group (entry_there groups (group, finite.empty) (passes_filter (λ e. q e.0) (finite.entries groups) (group, finite.empty) among).0)
