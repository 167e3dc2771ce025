-- The targets of references in a register that is sound or empty.
use Rattle.std.proofs.Common.{◌≡◌, inl, inr, ◌<◌, ◌≤◌, ℕ, Bool, true, false, Option, Some, None, is_some, refl, sym, subst, ◌∙◌, arith}
use Rattle.std.proofs.lemmas.Bool.{false≢true}
use Rattle.std.specs.FinMap as map
use Rattle.std.specs.Option.{option_map_or}
use Rattle.std.specs.Ordering.{nat_cmp}
use Rattle.land_core.proofs.FiniteMaps.{none_is_not_some}
use Rattle.land_core.specs.Entries.{has}
use Rattle.land_core.specs.Laws.{IsSoundByNumber, SoundnessByNumber}
use Rattle.land_core.specs.Members.{Members}
use Rattle.land_core.specs.Numbers.{last_next}
use Rattle.land_core.specs.Register.{has_group, has_single_party, is_member, empty_register}
use Rattle.land_core.specs.declared.party.PartyRecord.{PartyRecord}
use Rattle.land_core.specs.declared.register.Register.{Register}
use Rattle.land_fraction.specs.Ratio.{Ratio}
use Rattle.land_rules.specs.Laws.{IsSoundOrNothing}
use Rattle.land_select_queries.proofs.Views.{Refers}
use Rattle.land_select_queries.specs.Sights.Laws.{IsNeverParty}

-- a party with a kind exists
party_there : (o : Option PartyRecord) (test : PartyRecord → Bool) → option_map_or test o false ≡ true → is_some o ≡ true
party_there None test it = it
party_there (Some p) test it = refl

-- a group with a member exists, and so does the member
module _ (r : Register) (grouped : (group : ℕ) (members : Members) → map.get r.members group ≡ Some members → has_group r group ≡ true)
    (single : (group : ℕ) (members : Members) → map.get r.members group ≡ Some members → (n : ℕ) (share : Ratio) → map.get members n ≡ Some share → has_single_party r n ≡ true) where
  group_of : (group party : ℕ) → is_member r group party ≡ true → has r.parties group ≡ true
  group_of group party has_it = found (map.get r.members group) refl has_it
    where
      found : (o : Option Members) → map.get r.members group ≡ o → option_map_or (λ members. has members party) o false ≡ true → has r.parties group ≡ true
      found None at has_it = absurd (false≢true has_it)
      found (Some members) at has_it = party_there (map.get r.parties group) _ (grouped group members at)

  member_of : (group party : ℕ) → is_member r group party ≡ true → has r.parties party ≡ true
  member_of group party has_it = found (map.get r.members group) refl has_it
    where
      inside : (members : Members) → map.get r.members group ≡ Some members → (o : Option Ratio) → map.get members party ≡ o → is_some o ≡ true → has r.parties party ≡ true
      inside members at None got it = absurd (false≢true it)
      inside members at (Some share) got it = party_there (map.get r.parties party) _ (single group members at party share got)

      found : (o : Option Members) → map.get r.members group ≡ o → option_map_or (λ members. has members party) o false ≡ true → has r.parties party ≡ true
      found None at has_it = absurd (false≢true has_it)
      found (Some members) at has_it = inside members at (map.get members party) refl has_it

sound_refers : (r : Register) → IsSoundByNumber r → Refers r
sound_refers r sound =
    let grouped = λ (group : ℕ) (members : Members) (is : map.get r.members group ≡ Some members). (sound.members group members is).grouped in
    let single = λ (group : ℕ) (members : Members) (is : map.get r.members group ≡ Some members). (sound.members group members is).single in
    record {
      unit = λ n e is. (sound.entries n e is).unit;
      party = λ n e is. (sound.entries n e is).party;
      group = group_of r grouped single;
      member = member_of r grouped single;
      lodger = λ n m is. (sound.mutations n m is).lodger;
    }

-- no number has a record if nothing exists
no_record : {V X : Type 0} (n : ℕ) (v : V) → map.get {R = nat_cmp} map.empty n ≡ Some v → X
no_record n v is = absurd (none_is_not_some (sym (map.get-empty nat_cmp n) ∙ is))

nothing_refers : Refers empty_register
nothing_refers =
    let grouped = λ (group : ℕ) (members : Members) (is : map.get empty_register.members group ≡ Some members). no_record {X = has_group empty_register group ≡ true} group members is in
    let single = λ (group : ℕ) (members : Members) (is : map.get empty_register.members group ≡ Some members).
    no_record {X = (n : ℕ) (share : Ratio) → map.get members n ≡ Some share → has_single_party empty_register n ≡ true} group members is in
    record {
      unit = λ n e is. no_record n e is;
      party = λ n e is. no_record n e is;
      group = group_of empty_register grouped single;
      member = member_of empty_register grouped single;
      lodger = λ n m is. no_record n m is;
    }

pub refers : SoundnessByNumber → (r : Register) → IsSoundOrNothing r → Refers r
refers look_ups r (inl sound) = sound_refers r ((look_ups r).0 sound)
refers look_ups r (inr none) = subst Refers (sym none) nothing_refers

-- no party has a number out of range
apart : (n next : ℕ) → IsNeverParty n → 0 < n → n < next → next ≤ last_next → ⊥
apart n next (inl zero) positive below room = omega (arith, zero)
apart n next (inr past) positive below room = omega (arith, past)

pub nobody_stands : SoundnessByNumber → (r : Register) → IsSoundOrNothing r → (n : ℕ) (p : PartyRecord) → IsNeverParty n → map.get r.parties n ≡ Some p → ⊥
nobody_stands look_ups r (inl sound) n p nobody is =
    let told = (look_ups r).0 sound in
    let used = told.numbers_of_parties n p is in
    apart n r.next nobody used.positive used.below told.room
nobody_stands look_ups r (inr none) n p nobody is = no_record n p (subst (λ (k : Register). map.get k.parties n ≡ Some p) none is)
