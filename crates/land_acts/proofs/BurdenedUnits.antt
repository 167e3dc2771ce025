-- A burden on a unit keeps the register sound.
use Rattle.std.proofs.Common.{◌≡◌, ℕ, ◌+◌, ◌<◌, true, false, Some, None, List, refl, ap, ◌∙◌, arith}
use Rattle.std.specs.Prelude.{is_some}
use Rattle.std.specs.Ordering.{nat_cmp}
use Rattle.std.specs.FinMap as map
use Rattle.std.specs.FinMap.{FinMap}
use Rattle.std.proofs.lemmas.Bool.Decides.{nat_tests}
use Rattle.land_acts.proofs.EnteredEntries.{each_record, entered, entered_is_sound, here, no_rank_right, there}
use Rattle.land_acts.proofs.Growth.{used_grows, has_stays}
use Rattle.land_acts.specs.Burdening.{burden_change, class_of_burden}
use Rattle.land_acts.specs.Mutations.Planning.{would_exceed_entries, runs_out_of_numbers}
use Rattle.land_core.proofs.SoundRegisters.{refers, are_used, used_from, unused_from, used_bounds, next_above_zero}
use Rattle.land_core.specs.Changes.{after}
use Rattle.land_core.specs.Entries.{has}
use Rattle.land_core.specs.Soundness.{IsSound, is_used, is_rank_out_of_range}
use Rattle.land_core.specs.Units.{are_of_one_rank, type_of, rank_of}
use Rattle.land_core.specs.declared.act.Burden.{Burden}
use Rattle.land_core.specs.declared.act.BurdenClass.{BurdenClass}
use Rattle.land_core.specs.declared.act.BurdenClass.TheVariants as burden
use Rattle.land_core.specs.declared.register.Register.{Register}
use Rattle.land_core.specs.declared.rrr.RrrRecord.{RrrRecord}
use Rattle.land_core.specs.declared.soundness.Unsound.TheVariants.{Reference}
use Rattle.land_core.specs.declared.source.SourceKind.TheVariants.{Administrative}
use Rattle.land_core.specs.declared.source.SourceRecord.{SourceRecord}

-- a burden is neither a right nor a mortgage
no_type : (class : BurdenClass) (words : List ℕ) → type_of (class_of_burden class words) ≡ None
no_type burden.Restriction words = refl
no_type burden.Responsibility words = refl

no_rank : (class : BurdenClass) (words : List ℕ) → rank_of (class_of_burden class words) ≡ None
no_rank burden.Restriction words = refl
no_rank burden.Responsibility words = refl

pub burdened_is_sound : (r : Register) (it : Burden) → IsSound r → has r.units it.unit ≡ true → has r.parties it.party ≡ true → runs_out_of_numbers r 2 ≡ false → would_exceed_entries r it.unit 1 ≡ false
    → IsSound (after (burden_change r it) r)
burdened_is_sound r it sound unit party room few =
    let used = are_used r (refers r (sound Reference)).numbers in
    let above = next_above_zero r sound in
    let is_in_use : is_used more r.next ≡ true = grind (arith, nat_tests) in
    let below : (n : ℕ) (s : SourceRecord) → map.get r.sources n ≡ Some s → n < r.next = λ n s is. (used_bounds r n (used_from r r.sources used.sources n s is)).1 in
    entered_is_sound r sound (r.next + 1) entry sources (r.next + 2) (record {
      room = room;
      last = omega arith;
      below = omega arith;
      numbers = unused_from more sources (each_record r.sources r.next document (λ n s. is_used more n ≡ true) is_in_use
          (λ n s is. used_grows r more (omega arith) n (used_from r r.sources used.sources n s is)));
      sources_stay = has_stays r.sources sources (λ n s is. there r.sources r.next document n s (below n s is) is);
      anchored = record { unit = unit; party = party; source = ap is_some (here r.sources r.next document) };
      few = few;
      no_right = no_type it.class it.words;
      rank = ap (is_rank_out_of_range more) (no_rank it.class it.words);
      ranked = λ n e is at. ap (are_of_one_rank (rank_of e.class)) (no_rank it.class it.words) ∙ no_rank_right (rank_of e.class);
    })
  where
    entry : RrrRecord
    entry = record { unit = it.unit; party = it.party; class = class_of_burden it.class it.words; source = r.next }

    document : SourceRecord
    document = record { kind = Administrative; title = it.document }

    sources : FinMap nat_cmp SourceRecord
    sources = map.insert r.sources r.next document

    more : Register
    more = entered r (r.next + 1) entry sources (r.next + 2)
