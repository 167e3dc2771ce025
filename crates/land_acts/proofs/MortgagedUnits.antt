-- A mortgage keeps a register sound: a unit gets one more mortgage, with the next rank.
use Rattle.std.proofs.Common.{◌≡◌, ◌+◌, ◌≤◌, ℕ, ◌&&◌, not, true, false, refl, ap, arith}
use Rattle.std.specs.Prelude.{nat_lt}
use Rattle.std.proofs.lemmas.Bool.Decides.{nat_tests}
use Rattle.land_acts.proofs.EnteredEntries.{entered, entered_is_sound}
use Rattle.land_acts.proofs.Growth.{unused_grows}
use Rattle.land_acts.proofs.MortgageRanks.{next_rank_apart, next_rank_fits}
use Rattle.land_acts.specs.Mutations.Mortgaging.{mortgage_change, mortgage_entry, next_rank}
use Rattle.land_acts.specs.Mutations.Planning.{would_exceed_entries, runs_out_of_numbers}
use Rattle.land_core.proofs.SoundRegisters.{are_used, refers}
use Rattle.land_core.specs.Changes.{after, NamesKeysOnce}
use Rattle.land_core.specs.Entries.{has}
use Rattle.land_core.specs.Soundness.{IsSound}
use Rattle.land_core.specs.declared.content.Mortgage.{Mortgage}
use Rattle.land_core.specs.declared.register.Register.{Register}
use Rattle.land_core.specs.declared.soundness.Unsound.TheVariants.{Reference}

pub mortgaged_is_sound : (r : Register) (source : ℕ) (it : Mortgage) → IsSound r → has r.sources source ≡ true → has r.units it.unit ≡ true → has r.parties it.creditor ≡ true
    → runs_out_of_numbers r 1 ≡ false → would_exceed_entries r it.unit 1 ≡ false → IsSound (after (mortgage_change r source it) r)
mortgaged_is_sound r source it sound from unit creditor room few =
    entered_is_sound r sound r.next (mortgage_entry r source it) r.sources (r.next + 1) (record {
      room = room;
      last = omega arith;
      below = omega arith;
      numbers = unused_grows r more (omega arith) r.sources (are_used r (refers r (sound Reference)).numbers).sources;
      sources_stay = λ n there. there;
      anchored = record { unit = unit; party = creditor; source = from };
      few = few;
      no_right = refl;
      rank = ap not (in_use (next_rank r it.unit) r.next above (next_rank_fits r sound it.unit));
      ranked = next_rank_apart r it.unit;
    })
  where
    more : Register
    more = entered r r.next (mortgage_entry r source it) r.sources (r.next + 1)

    above : 1 ≤ next_rank r it.unit
    above = omega arith

    in_use : (rank next : ℕ) → 1 ≤ rank → rank ≤ next → (nat_lt 0 rank && nat_lt rank (next + 1)) ≡ true
    in_use rank next least most = grind (arith, nat_tests)

pub mortgage_names_once : (r : Register) (source : ℕ) (it : Mortgage) → NamesKeysOnce (mortgage_change r source it)
mortgage_names_once r source it = record { parties = refl; roles = refl; members = refl; units = refl; parcels = refl; rrrs = refl; sources = refl; mutations = refl; mandates = refl }
