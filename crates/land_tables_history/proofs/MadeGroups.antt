-- Groups built from members have exactly these members.
use Rattle.std.proofs.Common.{◌≡◌, ℕ, Bool, true, false, cond, not, ◌==◌, List, [], ◌∷◌, ◌++◌, Option, Some, None, flat_map, map as map_list, refl, sym, ap, ◌∙◌, subst, arith, IsPermutation, append-nil}
use Rattle.std.proofs.lemmas.Bool.{and_parts, eqb-true, not-true, or_parts}
use Rattle.std.proofs.lemmas.Bool.Decides.{nat_tests}
use Rattle.std.proofs.lemmas.List.Sorted.{IsPermutation-append_left, IsPermutation-append_right, IsPermutation-map, IsPermutation-middle, IsPermutation-refl, IsPermutation-sym, IsPermutation-trans}
use Rattle.std.specs.Cmp.{nat_cmp_total}
use Rattle.std.specs.FinMap as map
use Rattle.std.specs.FinMap.{FinMap, find, is_sorted, nat_cmp-IsAntisymmetric, put}
use Rattle.std.specs.FinMap.Entries.{below_all, by_order}
use Rattle.std.specs.List.{AllByRecursion, list_any}
use Rattle.std.specs.Option.{option_map_or}
use Rattle.std.specs.Ordering.{eq_by_cmp, is_eq, is_lt, nat_cmp}
use Rattle.std.specs.declared.cmp.Ordering.{Ordering}
use Rattle.std.specs.declared.cmp.Ordering.TheVariants.{Less, Equal, Greater}
use Rattle.land_core.proofs.Booleans.{T_true, second_false}
use Rattle.land_core.specs.Entries.{are_distinct}
use Rattle.land_core.specs.Members.{Members, member_with_share, members_in}
use Rattle.land_core.specs.declared.member.Member.{Member}
use Rattle.land_fraction.specs.Ratio.{Ratio}
use Rattle.land_tables_history.proofs.Entered.{insert_new, no_entries}
use Rattle.land_tables_history.specs.Groups.{group_members, with_member, joined_members, members_of_group, with_members}
use Rattle.land_tables_history.specs.Intervals.{is_same_member}
use Rattle.land_tables_history.specs.declared.group_member.GroupMember.{GroupMember}

abbrev one_of : ℕ → Member → GroupMember
one_of group member = record { group = group; member = member }

-- the members of one group
abbrev listed : ℕ × Members → List GroupMember
listed g = map_list (one_of g.0) (members_in g.1)

-- the members of a group, empty if the group does not exist
abbrev pub or_none : Option Members → Members
or_none o = option_map_or (λ members. members) o map.empty

-- one more member of a group
seated : (g : ℕ) (old : Members) (p : ℕ) (s : Ratio) → map.get old p ≡ None → IsPermutation (listed (g, map.insert old p s)) (one_of g (member_with_share p s) ∷ listed (g, old))
seated g old p s none =
    IsPermutation-map (one_of g) (members_in (map.insert old p s)) (member_with_share p s ∷ members_in old)
    (IsPermutation-map (λ (e : ℕ × Ratio). member_with_share e.0 e.1) (map.entries (map.insert old p s)) ((p, s) ∷ map.entries old) (insert_new nat_cmp_total old p s none))

nobody : (g : ℕ) → listed (g, map.empty) ≡ []
nobody g = ap (λ es. map_list (one_of g) (map_list (λ (e : ℕ × Ratio). member_with_share e.0 e.1) es)) (no_entries nat_cmp Ratio)

between : (g k n : ℕ) → nat_cmp g k ≡ Less → is_lt (nat_cmp k n) ≡ true → eq_by_cmp nat_cmp g n ≡ false
between g k n less more = grind (arith, nat_tests)

-- no group has a number below all others
none_before : (g k : ℕ) (es : List (ℕ × Members)) → nat_cmp g k ≡ Less → below_all nat_cmp k es ≡ true → find nat_cmp g es ≡ None
none_before g k [] less below = refl
none_before g k (e ∷ es) less below =
    let parts = and_parts (is_lt (nat_cmp k e.0)) (below_all nat_cmp k es) below in
    ap (λ b. cond b (Some e.1) (find nat_cmp g es)) (between g k e.0 less parts.0) ∙ none_before g k es less parts.1

-- one more member of several groups
put_member : (g p : ℕ) (s : Ratio) (es : List (ℕ × Members)) (old : Members) → or_none (find nat_cmp g es) ≡ old → is_sorted nat_cmp es ≡ true → map.get old p ≡ None
    → IsPermutation (flat_map listed (put nat_cmp g (map.insert old p s) es)) (one_of g (member_with_share p s) ∷ flat_map listed es)
put_member g p s [] old is sorted none =
    subst (λ l. IsPermutation l (one_of g (member_with_share p s) ∷ [])) (sym (append-nil (listed (g, map.insert old p s))))
    (subst (λ l. IsPermutation (listed (g, map.insert old p s)) (one_of g (member_with_share p s) ∷ l)) (ap (λ m. listed (g, m)) (sym is) ∙ nobody g) (seated g old p s none))
put_member g p s (e ∷ es) old is sorted none = go (nat_cmp g e.0) refl (λ same. put_member g p s es old same parts.1 none)
  where
    parts : (below_all nat_cmp e.0 es ≡ true) × (is_sorted nat_cmp es ≡ true)
    parts = and_parts (below_all nat_cmp e.0 es) (is_sorted nat_cmp es) sorted

    -- the lookup of a group, by the comparison of the first number
    found : (r : Ordering) → nat_cmp g e.0 ≡ r → or_none (cond (is_eq r) (Some e.1) (find nat_cmp g es)) ≡ old
    found r at = ap (λ r. or_none (cond (is_eq r) (Some e.1) (find nat_cmp g es))) (sym at) ∙ is

    first : (old : Members) → map.get old p ≡ None → map.empty ≡ old → IsPermutation (flat_map listed ((g, map.insert old p s) ∷ e ∷ es)) (one_of g (member_with_share p s) ∷ flat_map listed (e ∷ es))
    first old none empty =
        subst (λ l. IsPermutation (flat_map listed ((g, map.insert old p s) ∷ e ∷ es)) (one_of g (member_with_share p s) ∷ (l ++ flat_map listed (e ∷ es)))) (ap (λ m. listed (g, m)) (sym empty) ∙ nobody g)
        (IsPermutation-append_left (flat_map listed (e ∷ es)) (listed (g, map.insert old p s)) (one_of g (member_with_share p s) ∷ listed (g, old)) (seated g old p s none))

    here : (k : ℕ) → g ≡ k → (old : Members) → map.get old p ≡ None
        → IsPermutation (flat_map listed ((k, map.insert old p s) ∷ es)) (one_of g (member_with_share p s) ∷ flat_map listed ((k, old) ∷ es))
    here k same old none =
        subst (λ (x : ℕ). IsPermutation (flat_map listed ((k, map.insert old p s) ∷ es)) (one_of x (member_with_share p s) ∷ flat_map listed ((k, old) ∷ es))) (sym same)
        (IsPermutation-append_left (flat_map listed es) (listed (k, map.insert old p s)) (one_of k (member_with_share p s) ∷ listed (k, old)) (seated k old p s none))

    go : (r : Ordering) → nat_cmp g e.0 ≡ r
        → (or_none (find nat_cmp g es) ≡ old → IsPermutation (flat_map listed (put nat_cmp g (map.insert old p s) es)) (one_of g (member_with_share p s) ∷ flat_map listed es))
        → IsPermutation (flat_map listed (by_order r ((g, map.insert old p s) ∷ e ∷ es) ((e.0, map.insert old p s) ∷ es) (e ∷ put nat_cmp g (map.insert old p s) es))) (one_of g (member_with_share p s) ∷ flat_map listed (e ∷ es))
    go Less at rest = first old none (sym (ap or_none (none_before g e.0 es at parts.0)) ∙ found Less at)
    go Equal at rest =
        subst (λ (m : Members). IsPermutation (flat_map listed ((e.0, map.insert old p s) ∷ es)) (one_of g (member_with_share p s) ∷ flat_map listed ((e.0, m) ∷ es))) (sym (found Equal at))
        (here e.0 (nat_cmp-IsAntisymmetric g e.0 at) old none)
    go Greater at rest =
        IsPermutation-trans (listed e ++ flat_map listed (put nat_cmp g (map.insert old p s) es)) (listed e ++ one_of g (member_with_share p s) ∷ flat_map listed es) (one_of g (member_with_share p s) ∷ flat_map listed (e ∷ es))
        (IsPermutation-append_right (listed e) (flat_map listed (put nat_cmp g (map.insert old p s) es)) (one_of g (member_with_share p s) ∷ flat_map listed es) (rest (found Greater at)))
        (IsPermutation-middle (listed e) (one_of g (member_with_share p s)) (flat_map listed es))

-- a member is new to these groups
abbrev pub IsNew : FinMap nat_cmp Members → GroupMember → Type 0
IsNew m e = map.get (members_of_group m e.group) e.member.party ≡ None

joined_one : (m : FinMap nat_cmp Members) (e : GroupMember) → IsNew m e → IsPermutation (group_members (with_member m e)) (e ∷ group_members m)
joined_one m e new =
    subst (λ l. IsPermutation (flat_map listed l) (e ∷ group_members m)) (sym (map.entries-insert nat_cmp_total m e.group (joined_members m e)))
    (put_member e.group e.member.party e.member.share (map.entries m) (members_of_group m e.group) (ap or_none (sym (map.get-entries m e.group))) (T_true (is_sorted nat_cmp (map.entries m)) (map.entries_sorted m)) new)

same_numbers : (a b : ℕ) → eq_by_cmp nat_cmp a b ≡ (b == a)
same_numbers a b = grind (arith, nat_tests)

-- a new member stays new after another one has joined
pub new_still : (m : FinMap nat_cmp Members) (e x : GroupMember) → is_same_member e x ≡ false → IsNew m x → IsNew (with_member m e) x
new_still m e x apart new = ap (λ o. map.get (or_none o) x.member.party) (map.get-insert nat_cmp_total m e.group (joined_members m e) x.group) ∙ go (eq_by_cmp nat_cmp x.group e.group) refl
  where
    go : (b : Bool) → eq_by_cmp nat_cmp x.group e.group ≡ b → map.get (or_none (cond b (Some (joined_members m e)) (map.get m x.group))) x.member.party ≡ None
    go true is =
        map.get-insert nat_cmp_total (members_of_group m e.group) e.member.party e.member.share x.member.party
        ∙ ap (λ b. cond b (Some e.member.share) (map.get (members_of_group m e.group) x.member.party))
        (same_numbers x.member.party e.member.party ∙ second_false (e.group == x.group) (e.member.party == x.member.party) (sym (same_numbers x.group e.group) ∙ is) apart)
        ∙ ap (λ (g : ℕ). map.get (members_of_group m g) x.member.party) (eqb-true e.group x.group (sym (same_numbers x.group e.group) ∙ is)) ∙ new
    go false is = new

all_new_still : (m : FinMap nat_cmp Members) (e : GroupMember) (es : List GroupMember) → list_any (is_same_member e) es ≡ false → AllByRecursion (IsNew m) es → AllByRecursion (IsNew (with_member m e)) es
all_new_still m e [] apart free = tt
all_new_still m e (x ∷ xs) apart free =
    let parts = or_parts (is_same_member e x) (list_any (is_same_member e) xs) apart in (new_still m e x parts.0 free.0, all_new_still m e xs parts.1 free.1)

made_from : (m : FinMap nat_cmp Members) (es : List GroupMember) → are_distinct is_same_member es ≡ true → AllByRecursion (IsNew m) es → IsPermutation (group_members (with_members m es)) (group_members m ++ es)
made_from m [] distinct free = subst (IsPermutation (group_members m)) (sym (append-nil (group_members m))) (IsPermutation-refl (group_members m))
made_from m (e ∷ es) distinct free =
    let parts = and_parts (not (list_any (is_same_member e) es)) (are_distinct is_same_member es) distinct in
    IsPermutation-trans (group_members (with_members (with_member m e) es)) (group_members (with_member m e) ++ es) (group_members m ++ e ∷ es)
    (made_from (with_member m e) es parts.1 (all_new_still m e es (not-true (list_any (is_same_member e) es) parts.0) free.1))
    (IsPermutation-trans (group_members (with_member m e) ++ es) (e ∷ (group_members m ++ es)) (group_members m ++ e ∷ es)
    (IsPermutation-append_left es (group_members (with_member m e)) (e ∷ group_members m) (joined_one m e free.0))
    (IsPermutation-sym (group_members m ++ e ∷ es) (e ∷ (group_members m ++ es)) (IsPermutation-middle (group_members m) e es)))

pub new_from_empty : (e : GroupMember) → IsNew map.empty e
new_from_empty e = ap (λ o. map.get (or_none o) e.member.party) (map.get-empty nat_cmp e.group) ∙ map.get-empty nat_cmp e.member.party

all_new : (es : List GroupMember) → AllByRecursion (IsNew map.empty) es
all_new [] = tt
all_new (e ∷ es) = (new_from_empty e, all_new es)

pub no_groups : group_members map.empty ≡ []
no_groups = ap (flat_map listed) (no_entries nat_cmp Members)

-- members without duplicates are those of the groups built from them
pub made_groups : (es : List GroupMember) → are_distinct is_same_member es ≡ true → IsPermutation es (group_members (with_members map.empty es))
made_groups es distinct =
    IsPermutation-sym (group_members (with_members map.empty es)) es
    (subst (λ l. IsPermutation (group_members (with_members map.empty es)) (l ++ es)) no_groups (made_from map.empty es distinct (all_new es)))
