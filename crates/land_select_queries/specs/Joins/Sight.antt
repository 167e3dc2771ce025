-- The numbers of a kind that a caller sees, according to the policy.
use Rattle.std.specs.Prelude.{◌≡◌, ℕ, ℤ, Bool, true, List, [], IsPermutation}
use Rattle.land_core.specs.declared.caller.Caller.{Caller}
use Rattle.land_core.specs.declared.kind.Kind.{Kind}
use Rattle.land_core.specs.declared.register.Register.{Register}
use Rattle.land_rules.specs.CircleLaws.{without_mandates}
use Rattle.land_rules.specs.Circles.{principals_of}
use Rattle.land_rules.specs.Laws.{IsSoundOrNothing, citizen}
use Rattle.land_rules.specs.Rules.{seen_of}
use Rattle.land_select_queries.specs.Joins.Execution.{HoldsOfHistory}
use Rattle.land_tables_history.specs.History.{IsRegisterAt}
use Rattle.sqlite_trees.specs.Tree.{Trees}

-- If the tables hold a history that at time t represents a register, sound or empty, the list has exactly the
-- numbers of the kind that the policy lets the caller see in it, in increasing order and without repetition.
abbrev pub IsSight : Caller → Kind → (t : ℤ) → Trees → List ℕ → Type 0
IsSight caller kind t db numbers = HoldsOfHistory db
    (λ h. (r : Register) → IsSoundOrNothing r → IsRegisterAt t h r → numbers ≡ seen_of r caller kind)

-- The same for a policy without mandates.
abbrev pub IsSightWithoutMandates : Caller → Kind → (t : ℤ) → Trees → List ℕ → Type 0
IsSightWithoutMandates caller kind t db numbers =
    HoldsOfHistory db (λ h. (r : Register) → IsSoundOrNothing r → IsRegisterAt t h r
    → numbers ≡ seen_of (without_mandates r) caller kind)

-- a party holds no mandate: it has no principals
abbrev pub HoldsNoMandate : Register → (party : ℕ) → Type 0
HoldsNoMandate r party = principals_of r party ≡ []

-- if this is true, the party holds no mandate in the register
abbrev pub HoldsNoMandateIf : Bool → Register → (party : ℕ) → Type 0
HoldsNoMandateIf holds_none r party = holds_none ≡ true → HoldsNoMandate r party

-- If the tables hold a history that at time t represents a register, sound or empty, in which these are the
-- principals of a citizen: the numbers of the kind that the policy lets the citizen see in it.
abbrev pub IsSightGiven : (party : ℕ) → (principals : List ℕ) → Kind → (t : ℤ) → Trees → List ℕ → Type 0
IsSightGiven party principals kind t db numbers = HoldsOfHistory db
    (λ h. (r : Register) → IsSoundOrNothing r → IsRegisterAt t h r
    → IsPermutation principals (principals_of r party) → numbers ≡ seen_of r (citizen party) kind)

-- If the tables hold a history that at time t represents a register, sound or empty, in which a caller that
-- is known to hold no mandate holds none: the numbers of the kind that the policy lets the caller see in it;
-- and if the second part is true, the caller holds no mandate.
abbrev pub IsSightWith : Caller → (holds_none : Bool) → Kind → (t : ℤ) → Trees → List ℕ × Bool → Type 0
IsSightWith caller holds_none kind t db it = HoldsOfHistory db
    (λ h. (r : Register) → IsSoundOrNothing r → IsRegisterAt t h r
    → HoldsNoMandateIf holds_none r caller.party
    → (it.0 ≡ seen_of r caller kind) × HoldsNoMandateIf it.1 r caller.party)
