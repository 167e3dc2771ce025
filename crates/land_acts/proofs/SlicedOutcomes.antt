-- An act has the same outcome on a register and on each part of its slice that includes what the outcome depends on.
use Rattle.std.proofs.Common.{◌≡◌, ℕ, Bool, refl}
use Rattle.std.specs.Prelude.{ℤ, Option}
use Rattle.std.proofs.lemmas.Cmp.{nat_eq_equiv}
use Rattle.land_acts.proofs.SlicedDecisions.{Includes, approve_same, refuse_same}
use Rattle.land_acts.proofs.SlicedMutations.{other_same, repeat_same}
use Rattle.land_acts.proofs.SlicedWords.{single_same, same_mandate, mandated_same, group_same, holds_same, stranger_same, last_same, names_group, names_members, stands_same, absent_same, unit_same, count_same, burden_same}
use Rattle.land_acts.specs.Laws.{NeededSlicesSuffice, SlicesSuffice}
use Rattle.land_acts.specs.Mandating.{mandate_of_caller}
use Rattle.land_acts.specs.Outcome.{outcome_of}
use Rattle.land_acts.specs.Slices.{all_parts, mutations_in_slice, needed_parts, slice_with}
use Rattle.land_acts.specs.declared.slice_parts.SliceParts.{SliceParts}
use Rattle.land_core.specs.declared.act.Act.{Act}
use Rattle.land_core.specs.declared.act.Act.TheVariants.{Enrol, Group, Regroup, Grant, Revoke, Mandate, Withdraw, Register as RegisterUnit, Burden, Lift, Lodge, Approve, Refuse}
use Rattle.land_core.specs.declared.caller.Caller.{Caller}
use Rattle.land_core.specs.declared.register.Register.{Register}

module _ (parts : SliceParts) (r : Register) (caller : Caller) where
  same_outcome : (a : Act) (stamp : Option ℤ) → Includes (needed_parts (mutations_in_slice r caller a) a) parts
      → outcome_of (slice_with parts r caller a) caller a stamp ≡ outcome_of r caller a stamp
  same_outcome (Enrol it) stamp includes = refl
  same_outcome (Group it) stamp includes = rw (stranger_same parts r caller (Group it) (includes.parties refl) it.members (λ n listed. listed)) refl
  same_outcome (Regroup it) stamp includes =
      rw (
        group_same parts r caller (Regroup it) (includes.parties refl) it.group (names_group r it),
        stranger_same parts r caller (Regroup it) (includes.parties refl) it.members (names_members r it),
      ) refl
  same_outcome (Grant it) stamp includes =
      rw (
        single_same parts r caller (Grant it) (includes.parties refl) it.party (nat_eq_equiv.refl it.party),
        holds_same parts r caller (Grant it) (includes.parties refl) (includes.roles refl) it.party it.role (nat_eq_equiv.refl it.party),
      ) refl
  same_outcome (Revoke it) stamp includes =
      rw (
        single_same parts r caller (Revoke it) (includes.parties refl) it.party (nat_eq_equiv.refl it.party),
        holds_same parts r caller (Revoke it) (includes.parties refl) (includes.roles refl) it.party it.role (nat_eq_equiv.refl it.party),
        last_same parts r caller (Revoke it) it includes.administrators (includes.roles refl),
      ) refl
  same_outcome (Mandate it) stamp includes =
      rw (
        single_same parts r caller (Mandate it) (includes.parties refl) it.agent (nat_eq_equiv.refl it.agent),
        mandated_same parts r caller (Mandate it) (mandate_of_caller caller it) (same_mandate (mandate_of_caller caller it)),
      ) refl
  same_outcome (Withdraw it) stamp includes = rw (mandated_same parts r caller (Withdraw it) it (same_mandate it)) refl
  same_outcome (RegisterUnit it) stamp includes = rw (absent_same parts r caller (RegisterUnit it) (includes.parties refl) it.rights (λ n listed. listed)) refl
  same_outcome (Burden it) stamp includes =
      rw (
        unit_same parts r caller (Burden it) (includes.units refl) it.unit (nat_eq_equiv.refl it.unit),
        stands_same parts r caller (Burden it) (includes.parties refl) it.party (nat_eq_equiv.refl it.party),
        count_same parts r caller (Burden it) (includes.units refl) it.unit (nat_eq_equiv.refl it.unit),
      ) refl
  same_outcome (Lift it) stamp includes = rw (burden_same parts r caller (Lift it) it.rrr (nat_eq_equiv.refl it.rrr)) refl
  same_outcome (Lodge it) stamp includes = rw (repeat_same parts r caller it (includes.sources refl), other_same parts r caller it (includes.sources refl)) refl
  same_outcome (Approve it) stamp includes = approve_same parts r caller it includes stamp
  same_outcome (Refuse it) stamp includes = refuse_same parts r caller it stamp

-- all parts include each part, and needed parts include themselves
includes_each : (needed : SliceParts) → Includes needed all_parts
includes_each needed = record {
  parties = λ is. refl;
  administrators = λ is. refl;
  roles = λ is. refl;
  units = λ is. refl;
  parcels = λ is. refl;
  sources = λ is. refl;
}

includes_itself : (needed : SliceParts) → Includes needed needed
includes_itself needed = record {
  parties = λ is. is;
  administrators = λ is. is;
  roles = λ is. is;
  units = λ is. is;
  parcels = λ is. is;
  sources = λ is. is;
}

pub slices_suffice : SlicesSuffice
slices_suffice r caller a stamp = same_outcome all_parts r caller a stamp (includes_each (needed_parts (mutations_in_slice r caller a) a))

pub needed_slices_suffice : NeededSlicesSuffice
needed_slices_suffice r caller a stamp =
    same_outcome (needed_parts (mutations_in_slice r caller a) a) r caller a stamp (includes_itself (needed_parts (mutations_in_slice r caller a) a))
