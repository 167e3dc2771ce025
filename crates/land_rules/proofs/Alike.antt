-- Verdicts follow from visibility, so registers that look alike to a caller give it the same verdicts.
use Rattle.std.proofs.Common.{◌≡◌, ℕ, Bool, true, false, ◌||◌, ◌&&◌, not, cond, List, [], ◌∷◌, Option, Some, None, refl, sym, ap, ◌∙◌, subst}
use Rattle.std.specs.Prelude.{nat_eq, map as map_list}
use Rattle.std.specs.Cmp.{nat_cmp_total}
use Rattle.std.specs.FinMap as map
use Rattle.std.specs.FinMap.{nat_cmp-IsAntisymmetric}
use Rattle.std.specs.List.{list_any}
use Rattle.std.specs.Option.{option_map, option_map_or}
use Rattle.std.proofs.lemmas.Bool.{false≢true, and_from, and_parts, eqb-true}
use Rattle.std.proofs.lemmas.Cmp.{nat_eq_equiv}
use Rattle.land_core.proofs.Booleans.{same_tests}
use Rattle.land_core.proofs.Reflection.{some_at, some_passes}
use Rattle.land_core.specs.Entries.{has}
use Rattle.land_core.specs.Register.{mutation_at, object_at}
use Rattle.land_core.specs.declared.ask.Ask.TheVariants as ask
use Rattle.land_core.specs.declared.caller.Caller.{Caller}
use Rattle.land_core.specs.declared.kind.Kind.{Kind}
use Rattle.land_core.specs.declared.kind.Kind.TheVariants as kind
use Rattle.land_core.specs.declared.mutation.Mutation.{Mutation}
use Rattle.land_core.specs.declared.mutation.MutationRecord.{MutationRecord}
use Rattle.land_core.specs.declared.object.Object.TheVariants as object
use Rattle.land_core.specs.declared.register.Register.{Register}
use Rattle.land_core.specs.declared.role.Role.{Role}
use Rattle.land_core.specs.declared.role.Role.TheVariants.{Citizen, Conveyancer, Notary, Bank, CertifiedSurveyor, StateAdministrator}
use Rattle.land_core.specs.declared.rrr.RrrRecord.{RrrRecord}
use Rattle.land_rules.proofs.Seeing.{seen_exactly}
use Rattle.land_rules.proofs.SightDenials.{party_stands, told_by_references}
use Rattle.land_rules.proofs.SightLaws.{sees_lodged}
use Rattle.land_rules.specs.Alike.{LookAlike, VerdictsRevealNothingUnseen}
use Rattle.land_rules.specs.Circles.{circle_of, is_group_of, is_in_circle}
use Rattle.land_rules.specs.Laws.{IsSoundOrNothing, views_itself, is_named_by_own_mutation, rule_of_role}
use Rattle.land_rules.specs.Relations.{is_lodger_of, has_pending_mutation_on, is_pending_on}
use Rattle.land_rules.specs.Rules.{first_denial, is_allowed, sees_only_present, is_party_in_sight, is_rrr_in_sight, seen_of, sees, view_rules}
use Rattle.land_rules.specs.declared.verdict.Verdict.{Verdict}
use Rattle.land_rules.specs.declared.verdict.Verdict.TheVariants.{Allowed, Denied}

-- ---- lists of numbers with their objects

module _ {X : Type 0} where
  firsts : (f : ℕ → X) (ns : List ℕ) → map_list (λ e. e.0) (map_list {B = ℕ × X} (λ n. (n, f n)) ns) ≡ ns
  firsts f [] = refl
  firsts f (n ∷ ns) = ap (λ it. n ∷ it) (firsts f ns)

  head_is : {a b : ℕ × X} {xs ys : List (ℕ × X)} → a ∷ xs ≡ b ∷ ys → a ≡ b
  head_is e = cc

  tail_is : {a b : ℕ × X} {xs ys : List (ℕ × X)} → a ∷ xs ≡ b ∷ ys → xs ≡ ys
  tail_is e = cc

  -- the object of a number of the list
  under : (f g : ℕ → X) (ns : List ℕ) (n : ℕ) → map_list {B = ℕ × X} (λ k. (k, f k)) ns ≡ map_list (λ k. (k, g k)) ns → list_any (nat_eq n) ns ≡ true → f n ≡ g n
  under f g [] n e h = absurd (false≢true h)
  under f g (k ∷ ks) n e h =
      elim (nat_eq n k) as (λ b. nat_eq n k ≡ b → (b || list_any (nat_eq n) ks) ≡ true → f n ≡ g n) [
        | true ↦ λ here h. subst (λ (m : ℕ). f m ≡ g m) (sym (eqb-true n k here)) (ap (λ p. p.1) (head_is e))
        | false ↦ λ gone h. under f g ks n (tail_is e) h
      ] refl h

-- ---- visible objects

pub flip : (one other : Register) (caller : Caller) → LookAlike one other caller → LookAlike other one caller
flip one other caller alike = record { party = sym alike.party; roles = λ role. sym (alike.roles role); shown = λ k. sym (alike.shown k) }

module _ (one other : Register) (caller : Caller) (alike : LookAlike one other caller) where
  pub same_numbers : (k : Kind) → seen_of one caller k ≡ seen_of other caller k
  same_numbers k = sym (firsts (object_at one k) (seen_of one caller k)) ∙ ap (map_list (λ e. e.0)) (alike.shown k) ∙ firsts (object_at other k) (seen_of other caller k)

  pub same_sight : (k : Kind) (n : ℕ) → sees one caller k n ≡ sees other caller k n
  same_sight k n = sym ((seen_exactly one caller k).exact n) ∙ ap (list_any (nat_eq n)) (same_numbers k) ∙ (seen_exactly other caller k).exact n

  pub same_objects : (k : Kind) (n : ℕ) → sees one caller k n ≡ true → object_at one k n ≡ object_at other k n
  same_objects k n h =
      under (object_at one k) (object_at other k) (seen_of one caller k) n
      (alike.shown k ∙ ap (map_list (λ m. (m, object_at other k m))) (sym (same_numbers k)))
      ((seen_exactly one caller k).exact n ∙ h)

-- the visible object of a number determines the record there
module _ {A B : Type 0} where
  pub inside : (f : A → B) → ((a b : A) → f a ≡ f b → a ≡ b) → (x y : Option A) → option_map f x ≡ option_map f y → x ≡ y
  inside f exact None None e = refl
  inside f exact None (Some b) e = absurd (let it : None ≡ Some (f b) = e in cc)
  inside f exact (Some a) None e = absurd (let it : Some (f a) ≡ None = e in cc)
  inside f exact (Some a) (Some b) e = ap Some (exact a b (let it : Some (f a) ≡ Some (f b) = e in cc))

shown_mutation : ℕ → MutationRecord → Mutation
shown_mutation n m = record { number = n; lodger = m.lodger; reference = m.reference; source = m.source; lodged = m.lodged; state = m.state; content = m.content }

abbrev kept_mutation : Mutation → MutationRecord
kept_mutation m = record { lodger = m.lodger; reference = m.reference; source = m.source; lodged = m.lodged; state = m.state; content = m.content }

mutation_is : (one other : Register) (n : ℕ) → object_at one kind.Mutation n ≡ object_at other kind.Mutation n → map.get one.mutations n ≡ map.get other.mutations n
unfolding shown_mutation
mutation_is one other n e =
    inside (shown_mutation n) (λ a b same. ap kept_mutation same) (map.get one.mutations n) (map.get other.mutations n)
    (inside object.Mutation (λ a b same. cc) (mutation_at one n) (mutation_at other n) e)

-- ---- a conveyancer sees its own lodgings

abbrev conveyancer : ℕ → Caller
conveyancer party = record { party = party; role = Conveyancer }

lodger_forth : (one other : Register) (party unit : ℕ) → LookAlike one other (conveyancer party) → has_pending_mutation_on one party unit ≡ true → has_pending_mutation_on other party unit ≡ true
lodger_forth one other party unit alike h =
    let it = some_passes nat_cmp_total nat_cmp-IsAntisymmetric (λ n m. is_pending_on party unit m) one.mutations h in
    let own : is_lodger_of party it.value ≡ true = (and_parts _ _ (and_parts _ _ it.passes).0).1 in
    let seen : sees one (conveyancer party) kind.Mutation it.key ≡ true = sees_lodged one party Conveyancer it.key refl ∙ ap (λ o. option_map_or (is_lodger_of party) o false) it.there ∙ own in
    let there = sym (mutation_is one other it.key (same_objects one other (conveyancer party) alike kind.Mutation it.key seen)) ∙ it.there in
    some_at nat_cmp_total nat_cmp-IsAntisymmetric (λ n m. is_pending_on party unit m) other.mutations it.key it.value there it.passes

same_lodger : (one other : Register) (party unit : ℕ) → LookAlike one other (conveyancer party) → has_pending_mutation_on one party unit ≡ has_pending_mutation_on other party unit
same_lodger one other party unit alike =
    same_tests (has_pending_mutation_on one party unit) (has_pending_mutation_on other party unit) (lodger_forth one other party unit alike)
    (lodger_forth other one party unit (flip one other (conveyancer party) alike))

same_named : (one other : Register) (party : ℕ) (role : Role) (k : Kind) (n : ℕ) → let caller : Caller = record { party = party; role = role } in
    LookAlike one other caller → is_named_by_own_mutation one caller k n ≡ is_named_by_own_mutation other caller k n
same_named one other party role kind.Party n alike = refl
same_named one other party Citizen kind.Unit n alike = refl
same_named one other party Conveyancer kind.Unit n alike = same_lodger one other party n alike
same_named one other party Notary kind.Unit n alike = refl
same_named one other party Bank kind.Unit n alike = refl
same_named one other party CertifiedSurveyor kind.Unit n alike = refl
same_named one other party StateAdministrator kind.Unit n alike = refl
same_named one other party role kind.Parcel n alike = refl
same_named one other party role kind.Rrr n alike = refl
same_named one other party role kind.Source n alike = refl
same_named one other party role kind.Mutation n alike = refl

-- ---- verdicts

pub same_view : (one other : Register) (caller : Caller) → IsSoundOrNothing one → IsSoundOrNothing other → LookAlike one other caller → (k : Kind) (n : ℕ)
    → first_denial (view_rules one caller k n) ≡ first_denial (view_rules other caller k n)
same_view one other caller sound also alike k n =
    told_by_references one sound caller k n
    ∙ ap (λ b. cond b Allowed (Denied (cond (is_named_by_own_mutation one caller k n || views_itself caller k n) 27 (rule_of_role caller.role k)))) (same_sight one other caller alike k n)
    ∙ ap (λ b. cond (sees other caller k n) Allowed (Denied (cond (b || views_itself caller k n) 27 (rule_of_role caller.role k)))) (same_named one other caller.party caller.role k n alike)
    ∙ sym (told_by_references other also caller k n)

-- for a read, the standing rules read only the caller
abbrev asked : (stands holds late : Bool) → Verdict → Verdict
asked stands holds late v = cond (not stands) (Denied 1) (cond (not holds) (Denied 2) (cond late (Denied 3) v))

same_asked : (s t h i : Bool) (late : Bool) (v w : Verdict) → s ≡ t → h ≡ i → v ≡ w → asked s h late v ≡ asked t i late w
same_asked s t h i late v w e f g = ap (λ b. asked b h late v) e ∙ ap (λ b. asked t b late v) f ∙ ap (asked t i late) g

pub same_verdicts : VerdictsRevealNothingUnseen
same_verdicts now other_now at other_at caller (ask.View k n moment) past alike read =
    same_asked _ _ _ _ (past && sees_only_present caller) _ _ alike.last.party (alike.last.roles caller.role) (same_view at other_at caller alike.one alike.other alike.asked k n)
same_verdicts now other_now at other_at caller (ask.List k moment) past alike read =
    same_asked _ _ _ _ (past && sees_only_present caller) Allowed Allowed alike.last.party (alike.last.roles caller.role) refl
same_verdicts now other_now at other_at caller (ask.Sheet unit moment) past alike read =
    same_asked _ _ _ _ (past && sees_only_present caller) _ _ alike.last.party (alike.last.roles caller.role) (same_view at other_at caller alike.one alike.other alike.asked kind.Unit unit)
same_verdicts now other_now at other_at caller (ask.Do it) past alike read = absurd read

-- ---- the party of a visible entry is visible

met_there : (itself met there : Bool) (k : ℕ) → met ≡ true → there ≡ true → is_allowed (cond (not (itself || met)) (Denied k) (cond (not there) (Denied 27) Allowed)) ≡ true
met_there true met true k e f = refl
met_there true met false k e f = f
met_there false true true k e f = refl
met_there false true false k e f = f
met_there false false there k e f = e

met_beside : (itself one met there : Bool) (k : ℕ) → met ≡ true → there ≡ true
    → is_allowed (cond (not (itself || one || met)) (Denied k) (cond (not there) (Denied 27) Allowed)) ≡ true
met_beside true one met true k e f = refl
met_beside true one met false k e f = f
met_beside false true met true k e f = refl
met_beside false true met false k e f = f
met_beside false false true true k e f = refl
met_beside false false true false k e f = f
met_beside false false false there k e f = e

last_there : (there : Bool) → there ≡ true → is_allowed (cond (not there) (Denied 27) Allowed) ≡ true
last_there true e = refl
last_there false e = e

module _ (at : Register) (sound : IsSoundOrNothing at) (n : ℕ) (e : RrrRecord) (there : map.get at.rrrs n ≡ Some e) where
  met : (caller : Caller) → sees at caller kind.Rrr n ≡ true → is_party_in_sight at caller e.party ≡ true
  met caller seen =
      some_at nat_cmp_total nat_cmp-IsAntisymmetric (λ k x. nat_eq x.party e.party && is_rrr_in_sight at caller k) at.rrrs n e there
      (and_from _ _ (nat_eq_equiv.refl e.party) seen)

  seen_by_role : (party : ℕ) (role : Role) → let caller : Caller = record { party = party; role = role } in
      sees at caller kind.Rrr n ≡ true → sees at caller kind.Party e.party ≡ true
  seen_by_role party Citizen seen = let caller : Caller = record { party = party; role = Citizen } in
      met_beside (is_in_circle at party e.party) (is_group_of at (circle_of at party) e.party) (is_party_in_sight at caller e.party) (has at.parties e.party) 13 (met caller seen) (party_stands at sound caller e.party (met caller seen))
  seen_by_role party Conveyancer seen = let caller : Caller = record { party = party; role = Conveyancer } in
      met_there (nat_eq e.party party) (is_party_in_sight at caller e.party) (has at.parties e.party) 21 (met caller seen) (party_stands at sound caller e.party (met caller seen))
  seen_by_role party Notary seen = let caller : Caller = record { party = party; role = Notary } in
      last_there (has at.parties e.party) (party_stands at sound caller e.party (met caller seen))
  seen_by_role party Bank seen = let caller : Caller = record { party = party; role = Bank } in
      met_there (nat_eq e.party party) (is_party_in_sight at caller e.party) (has at.parties e.party) 17 (met caller seen) (party_stands at sound caller e.party (met caller seen))
  seen_by_role party CertifiedSurveyor seen = absurd (false≢true seen)
  seen_by_role party StateAdministrator seen = let caller : Caller = record { party = party; role = StateAdministrator } in
      last_there (has at.parties e.party) (party_stands at sound caller e.party (met caller seen))

  pub party_in_sight : (caller : Caller) → sees at caller kind.Rrr n ≡ true → sees at caller kind.Party e.party ≡ true
  party_in_sight caller seen = seen_by_role caller.party caller.role seen

-- every caller sees the parcels that exist
pub parcel_in_sight : (at : Register) (caller : Caller) (n : ℕ) → sees at caller kind.Parcel n ≡ has at.parcels n
parcel_in_sight at caller n = elim (has at.parcels n) as (λ b. is_allowed (cond (not b) (Denied 27) Allowed) ≡ b) [ true ↦ refl | false ↦ refl ]
