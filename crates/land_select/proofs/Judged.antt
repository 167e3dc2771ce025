-- The verdict of the standing rules on the evidence and of the sight rules is the verdict on the request.
use Rattle.std.proofs.Common.{◌≡◌, ◌∙◌, ◌++◌, ◌&&◌, ◌||◌, ℕ, ℤ, Bool, true, false, cond, [], ◌∷◌, None, Some, Option, Ok, IfSome, IsTrue, refl, sym, ap, ap₂, arith, inl, subst}
use Rattle.std.proofs.lemmas.Bool.{false≢true}
use Rattle.std.specs.FinMap as map
use Rattle.std.specs.FinMap.{FinMap}
use Rattle.std.specs.Ordering.{nat_cmp}
use Rattle.land_core.proofs.Booleans.{and_false}
use Rattle.land_core.specs.Grants.{Grants}
use Rattle.land_core.specs.declared.ask.Ask.{Ask}
use Rattle.land_core.specs.declared.caller.Caller.{Caller}
use Rattle.land_core.specs.declared.kind.Kind.{Kind}
use Rattle.land_core.specs.declared.kind.Kind.TheVariants as kind
use Rattle.land_core.specs.declared.mutation.MutationRecord.{MutationRecord}
use Rattle.land_core.specs.declared.register.Register.{Register}
use Rattle.land_core.specs.declared.role.Role.{Role}
use Rattle.land_core.specs.declared.rrr.RrrRecord.{RrrRecord}
use Rattle.land_rules.specs.Denials.Sight.{SightDecidesVerdicts, PendingUnitsAreVisible, is_visible_by_pending, is_unit_of_conveyancer, sees_by_pending, verdict_given_sight}
use Rattle.land_rules.specs.Denials.Standing.{IsEnough, LookupsAreEnough, mutation_of_ask, entry_of_ask, evidence_of}
use Rattle.land_rules.specs.Laws.{IsSoundOrNothing, views_itself, rule_of_role}
use Rattle.land_rules.specs.Relations.{has_pending_mutation_on}
use Rattle.land_rules.specs.Rules.{Rules, first_denial, sees, sight_rules, standing_rules, verdict_of, view_rules}
use Rattle.land_rules.specs.declared.verdict.Verdict.{Verdict}
use Rattle.land_rules.specs.declared.verdict.Verdict.TheVariants.{Allowed, Denied}
use Rattle.land_select.proofs.Callers.{put_there}
use Rattle.land_select.specs.Verdicts.{IsOfCaller, placeholder_party, record_at, roles_in}
use Rattle.land_select_queries.specs.Lookups.Parts.{ReadsPart}
use Rattle.land_tables_schema.specs.Rows.ReadQueries.{IsStoreRead}
use Rattle.sqlite.specs.State.{HasCleanDisk, State}
use Rattle.sqlite_trees.specs.Tree.{Trees}

-- no read of an open store is a read-only query
pub looked_at_nothing : {X E : Type 0} (x : X) (Given : X → Type 0) (a : State) → (HasCleanDisk a → IsTrue a.is_open) → (HasCleanDisk a → Given x) → IsStoreRead {X = X} {E = E} (Ok x) Given a a
looked_at_nothing x Given a is_open given = record {
  given = given;
  same = λ clean. (record { was_open = is_open clean; is_open = is_open clean; now_is = refl; committed_is = refl; mode = refl }, record { changes = refl; last_rowid = refl }, refl);
  left = λ _. tt;
  survives = record { clean = omega arith; shield = λ x. x; counts = omega arith; limit = refl; closes = λ _ t. inl t; crash = λ _ _ x. inl x };
}

-- two parts of a register as one
pub both_parts : {T U : Type 0} (f : Register → T) (g : Register → U) (t : ℤ) (db : Trees) (x : T) (y : U) → ReadsPart f t db x → ReadsPart g t db y → ReadsPart {T = T × U} (λ r. (f r, g r)) t db (x, y)
both_parts f g t db x y one two moments h held r have stand = ap₂ (λ a b. (a, b)) (one moments h held r have stand) (two moments h held r have stand)

-- ---- the caller

read_mutation_records : {V : Type 0} (o : Option ℕ) (m : FinMap nat_cmp V) → IfSome o (λ n. record_at m o ≡ map.get m n)
read_mutation_records None m = tt
read_mutation_records (Some n) m = refl

-- evidence from the records of a request is sufficient
pub evidence_suffices : LookupsAreEnough → (r : Register) (caller : Caller) (a : Ask) (there : Bool) (roles : Grants) (entry : Option RrrRecord) (mutation : Option MutationRecord) (evidence : Register)
    → evidence ≡ evidence_of caller a (placeholder_party there) roles entry mutation → IsOfCaller r caller there roles
    → entry ≡ record_at r.rrrs (entry_of_ask a) → mutation ≡ record_at r.mutations (mutation_of_ask a) → IsEnough evidence r caller a
evidence_suffices looked r caller a there roles entry mutation evidence made of_caller entry_is mutation_is =
    let it =
    looked r caller a (map.get r.parties caller.party) (roles_in r caller.party) (record_at r.rrrs (entry_of_ask a)) (record_at r.mutations (mutation_of_ask a))
    (record { party_is = refl; roles_are = refl; entry_is = read_mutation_records (entry_of_ask a) r.rrrs; mutation_is = read_mutation_records (mutation_of_ask a) r.mutations }) in
    subst (λ (m : Register). IsEnough m r caller a)
    (sym (made ∙ ap₂ (λ (e : Option RrrRecord) (m : Option MutationRecord). evidence_of caller a (placeholder_party there) roles e m) entry_is mutation_is))
    (record { party = put_there caller.party there ∙ of_caller.party; role = of_caller.role; entry = it.entry; mutation = it.mutation })

-- ---- visibility

denied_is_not_allowed : (j : ℕ) → Denied j ≡ Allowed → ⊥
denied_is_not_allowed j e = cc

-- visibility alone decides the verdict, except on a conveyancer's view of a unit; also if the register is
-- empty
pub sight_told : SightDecidesVerdicts → (r : Register) → IsSoundOrNothing r → (caller : Caller) (k : Kind) (n : ℕ) → is_unit_of_conveyancer caller.role k ≡ false
    → verdict_given_sight (sees r caller k n) false caller k n ≡ first_denial (view_rules r caller k n)
sight_told law r premise caller k n other =
    ap (λ b. cond (sees r caller k n) Allowed (Denied (cond (b || views_itself caller k n) 27 (rule_of_role caller.role k))))
    (and_false (is_unit_of_conveyancer caller.role k) ∙ sym (ap (λ b. b && has_pending_mutation_on r caller.party n) other))
    ∙ sym (law r premise caller k n)

-- a conveyancer sees a unit by a pending mutation
by_awaiting : (role : Role) (k : Kind) → is_unit_of_conveyancer role k ≡ true → (k ≡ kind.Unit) × (sees_by_pending role kind.Unit ≡ true)
by_awaiting role kind.Party is = absurd (false≢true is)
by_awaiting role kind.Unit is = (refl, is)
by_awaiting role kind.Parcel is = absurd (false≢true is)
by_awaiting role kind.Rrr is = absurd (false≢true is)
by_awaiting role kind.Source is = absurd (false≢true is)
by_awaiting role kind.Mutation is = absurd (false≢true is)

-- so a pending mutation decides, with its existence apart from that of the unit
pub unit_told : SightDecidesVerdicts → PendingUnitsAreVisible → (r : Register) → IsSoundOrNothing r → (caller : Caller) (k : Kind) (n : ℕ) → is_unit_of_conveyancer caller.role k ≡ true
    → verdict_given_sight (is_visible_by_pending r caller kind.Unit n) (has_pending_mutation_on r caller.party n) caller kind.Unit n ≡ first_denial (view_rules r caller k n)
unit_told law is_pending r premise caller k n is =
    let it = by_awaiting caller.role k is in
    ap (λ b. verdict_given_sight b (has_pending_mutation_on r caller.party n) caller kind.Unit n) (sym (is_pending r premise caller kind.Unit n it.1))
    ∙ sym (law r premise caller kind.Unit n)
    ∙ ap (λ (which : Kind). first_denial (view_rules r caller which n)) (sym it.0)

-- ---- the verdict

allowed_first : (xs ys : Rules) → first_denial xs ≡ Allowed → first_denial (xs ++ ys) ≡ first_denial ys
allowed_first [] ys h = refl
allowed_first (x ∷ xs) ys h = go x.1 (allowed_first xs ys) h
  where
    go : (b : Bool) → (first_denial xs ≡ Allowed → first_denial (xs ++ ys) ≡ first_denial ys) → cond b (Denied x.0) (first_denial xs) ≡ Allowed
        → cond b (Denied x.0) (first_denial (xs ++ ys)) ≡ first_denial ys
    go true rest h = absurd (denied_is_not_allowed x.0 h)
    go false rest h = rest h

denied_first : (xs ys : Rules) (j : ℕ) → first_denial xs ≡ Denied j → first_denial (xs ++ ys) ≡ Denied j
denied_first [] ys j h = absurd (denied_is_not_allowed j (sym h))
denied_first (x ∷ xs) ys j h = go x.1 (denied_first xs ys j) h
  where
    go : (b : Bool) → (first_denial xs ≡ Denied j → first_denial (xs ++ ys) ≡ Denied j) → cond b (Denied x.0) (first_denial xs) ≡ Denied j
        → cond b (Denied x.0) (first_denial (xs ++ ys)) ≡ Denied j
    go true rest h = h
    go false rest h = rest h

-- if the standing rules allow, the verdict is that of the sight rules
pub sight_says : (now at : Register) (caller : Caller) (a : Ask) (past : Bool) (it : Verdict) → Allowed ≡ first_denial (standing_rules now caller a past) → it ≡ first_denial (sight_rules at caller a)
    → it ≡ verdict_of now at caller a past
sight_says now at caller a past it allowed is = is ∙ sym (allowed_first (standing_rules now caller a past) (sight_rules at caller a) (sym allowed))

-- and if they deny, it is theirs
pub standing_says : (now at : Register) (caller : Caller) (a : Ask) (past : Bool) (j : ℕ) → Denied j ≡ first_denial (standing_rules now caller a past) → Denied j ≡ verdict_of now at caller a past
standing_says now at caller a past j denied = sym (denied_first (standing_rules now caller a past) (sight_rules at caller a) j (sym denied))
