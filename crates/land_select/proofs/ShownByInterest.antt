-- The objects that a citizen or a bank sees by its interest in a unit.
use Rattle.std.proofs.Common.{◌≡◌, ◌⊎◌, ◌↔◌, inl, inr, ◌&&◌, ◌++◌, ◌∙◌, ℕ, ℤ, Bool, true, false, nat_eq, List, [], ◌∷◌, filter, refl, sym, ap, subst}
use Rattle.std.specs.Bool.{Decides}
use Rattle.std.specs.Cmp.{nat_cmp_total}
use Rattle.std.specs.FinMap as map
use Rattle.std.specs.FinMap.{nat_cmp-IsAntisymmetric}
use Rattle.std.specs.List.{Contains}
use Rattle.std.specs.Option.{option_map_or}
use Rattle.std.specs.Ordering.{nat_cmp}
use Rattle.std.proofs.lemmas.Bool.Decides.{Decides-eqb, Decides-or}
use Rattle.land_core.proofs.Reflection.{entries-entries_where}
use Rattle.land_core.specs.Entries.{with_entries}
use Rattle.land_core.specs.declared.caller.Caller.{Caller}
use Rattle.land_core.specs.declared.kind.Kind.TheVariants.{Rrr}
use Rattle.land_core.specs.declared.register.Register.{Register}
use Rattle.land_core.specs.declared.rrr.RrrRecord.{RrrRecord}
use Rattle.land_rules.specs.Circles.{circle_of, is_group_of, is_name_of}
use Rattle.land_rules.specs.Denials.Interests.{InterestsDecideSight, entries_in_unit, interest_at, sees_by_interest, shows_entry}
use Rattle.land_rules.specs.Laws.{IsSoundOrNothing}
use Rattle.land_rules.specs.Relations.{holds_under_name, is_member_of}
use Rattle.land_rules.specs.Rules.{sees}
use Rattle.land_select.proofs.Viewed.{agreed, twice}
use Rattle.land_select.specs.Views.{visible_rrrs, entries_by_interest}
use Rattle.land_select_queries.proofs.Containing.{any_decides}
use Rattle.land_select_queries.proofs.Naming.{Joins, member_decides}
use Rattle.land_select_queries.proofs.Standing.{entry_there}
use Rattle.land_select_queries.proofs.United.{contains_both, given_by, given_to}
use Rattle.land_select_queries.proofs.Views.{plain}
use Rattle.land_select_queries.specs.Joins.Execution.{AnySelectsFor, AreExactly}
use Rattle.land_select_queries.specs.Sights.{AnySelects}
use Rattle.land_select_queries.specs.declared.sights.selection.Selection.TheVariants.{ItsGroups}
use Rattle.land_tables_history.specs.History.{IsRegisterAt}
use Rattle.land_tables_history.specs.declared.history.History.{History}

-- the groups selected for some parties are those with one of them as a member
pub groups_are : (r : Register) (t : ℤ) (h : History) → IsRegisterAt t h r → (callers groups : List ℕ) → AreExactly groups (AnySelectsFor (ItsGroups ∷ []) t h callers)
    → (group : ℕ) → Contains groups group ↔ (is_group_of r callers group ≡ true)
groups_are r t h is callers groups all group = (
  (λ among. let it = given_to (ItsGroups ∷ []) t h group callers ((all group).0 among) in decided.1 (it.0, it.1, joined it.0 it.2)),
  (λ some. let it = decided.0 some in let joins = it.2 in (all group).1 (given_by (ItsGroups ∷ []) t h group callers it.0 it.1 (inl (joins.0, joins.1, joins.3, joins.2)))),
)
  where
    decided : Decides (is_group_of r callers group) ((party : ℕ) × Contains callers party × Joins t h group party)
    decided = any_decides (λ party. is_member_of r party group) (λ party. Joins t h group party) callers (λ party among. member_decides r t h is group party)

    joined : (party : ℕ) → AnySelects (ItsGroups ∷ []) t h party group → Joins t h group party
    joined party (inl it) = (it.0, it.1, it.3, it.2)
    joined party (inr none) = absurd none

-- with the circle itself they are the names in which the circle holds rights
pub names_are : (r : Register) (party : ℕ) (callers groups : List ℕ) → ((number : ℕ) → Contains callers number ↔ Contains (circle_of r party) number)
    → ((group : ℕ) → Contains groups group ↔ (is_group_of r callers group ≡ true)) → (named : ℕ) → Contains (groups ++ callers) named ↔ (is_name_of r (circle_of r party) named ≡ true)
names_are r party callers groups are grouped named = (
  (λ among. elim ((contains_both groups callers named).0 among) [
    | inl group ↦ let it = members.0 ((grouped named).0 group) in names.1 (it.0, (are it.0).0 it.1, inr it.2)
    | inr own ↦ names.1 (named, (are named).0 own, inl refl)
  ]),
  (λ holds. let it = names.0 holds in (contains_both groups callers named).1 (elim it.2 [
    | inl same ↦ inr (subst (Contains callers) (sym same) ((are it.0).1 it.1))
    | inr member ↦ inl ((grouped named).1 (members.1 (it.0, (are it.0).1 it.1, member)))
  ])),
)
  where
    members : Decides (is_group_of r callers named) ((one : ℕ) × Contains callers one × (is_member_of r one named ≡ true))
    members = any_decides (λ one. is_member_of r one named) (λ one. is_member_of r one named ≡ true) callers (λ one among. plain (is_member_of r one named))

    names : Decides (is_name_of r (circle_of r party) named) ((one : ℕ) × Contains (circle_of r party) one × ((named ≡ one) ⊎ (is_member_of r one named ≡ true)))
    names =
        any_decides (λ one. holds_under_name r one named) (λ one. (named ≡ one) ⊎ (is_member_of r one named ≡ true)) (circle_of r party)
        (λ one among. Decides-or (nat_eq named one) (is_member_of r one named) (Decides-eqb named one) (plain (is_member_of r one named)))

-- a test that is needed only if another one passes
pub only_where : (a b c : Bool) → (a ≡ true → b ≡ c) → (a && b) ≡ (a && c)
only_where true b c same = same refl
only_where false b c same = refl

-- the entries of a unit that an interest shows are visible
pub shown_in_sight : InterestsDecideSight → (r : Register) (caller : Caller) (unit : ℕ) → IsSoundOrNothing r → sees_by_interest caller.role Rrr ≡ true → entries_by_interest r caller (entries_in_unit r unit) ≡ visible_rrrs r caller unit
shown_in_sight law r caller unit premise by =
    ap (with_entries (map.empty {R = nat_cmp}))
    (ap (filter (λ e. shows_entry (interest_at r caller unit) caller.party e.1)) (entries-entries_where nat_cmp_total nat_cmp-IsAntisymmetric (λ n e. nat_eq e.unit unit) r.rrrs)
    ∙ twice (λ e. shows_entry (interest_at r caller unit) caller.party e.1) (λ e. nat_eq e.1.unit unit) (map.entries r.rrrs)
    ∙ agreed (λ e. nat_eq e.1.unit unit && shows_entry (interest_at r caller unit) caller.party e.1) (λ e. nat_eq e.1.unit unit && sees r caller Rrr e.0) (map.entries r.rrrs)
    (λ e among. only_where (nat_eq e.1.unit unit) (shows_entry (interest_at r caller unit) caller.party e.1) (sees r caller Rrr e.0) (λ same. seen e among ((Decides-eqb e.1.unit unit).0 same))))
  where
    seen : (e : ℕ × RrrRecord) → Contains (map.entries r.rrrs) e → e.1.unit ≡ unit → shows_entry (interest_at r caller unit) caller.party e.1 ≡ sees r caller Rrr e.0
    seen e among same =
        ap (λ u. shows_entry (interest_at r caller u) caller.party e.1) (sym same)
        ∙ sym (ap (λ o. option_map_or (λ (x : RrrRecord). shows_entry (interest_at r caller x.unit) caller.party x) o false) (entry_there r.rrrs e among))
        ∙ sym (law r premise caller Rrr e.0 by)
