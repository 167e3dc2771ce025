-- Records that are read by key are sufficient evidence.
use Rattle.std.proofs.Common.{◌≡◌, ℕ, nat_eq, cond, is_some, None, Option, Some, refl, ap, ◌∙◌}
use Rattle.std.specs.Cmp.{nat_cmp_total, tied_itself}
use Rattle.std.specs.FinMap as map
use Rattle.std.specs.FinMap.{FinMap}
use Rattle.std.specs.Ordering.{is_eq, nat_cmp}
use Rattle.std.specs.Prelude.{IfSome}
use Rattle.std.proofs.lemmas.Cmp.{nat_eq_equiv}
use Rattle.land_core.proofs.FiniteSets.{exact_grants, grants_total}
use Rattle.land_core.proofs.Reflection.{get-entries_where}
use Rattle.land_core.specs.Grants.{grant_to}
use Rattle.land_rules.specs.Denials.Standing.{LookupsAreEnough, at_most_one}

-- an inserted record is found
there : {V : Type 0} (n : ℕ) (found : Option V) → map.get (at_most_one (Some n) found) n ≡ found
there n None = map.get-empty nat_cmp n
there n (Some value) = map.get-insert nat_cmp_total map.empty n value n ∙ ap (λ b. cond b (Some value) (map.get (map.empty {R = nat_cmp}) n)) (ap is_eq (tied_itself nat_cmp_total n))

named : {V : Type 0} (number : Option ℕ) (found : Option V) (all : FinMap nat_cmp V) → IfSome number (λ n. found ≡ map.get all n)
    → IfSome number (λ n. map.get (at_most_one number found) n ≡ map.get all n)
named None found all is = tt
named (Some n) found all is = there n found ∙ is

pub lookups_are_enough : LookupsAreEnough
lookups_are_enough now caller a party roles entry mutation are = record {
  party = ap is_some (there caller.party party ∙ are.party_is);
  role = ap (λ grants. is_some (map.get grants (grant_to caller.party caller.role))) are.roles_are
      ∙ ap is_some (get-entries_where grants_total exact_grants (λ grant u. nat_eq grant.party caller.party) now.roles (grant_to caller.party caller.role) (λ v. nat_eq_equiv.refl caller.party));
  entry = named _ entry now.rrrs are.entry_is;
  mutation = named _ mutation now.mutations are.mutation_is;
}
