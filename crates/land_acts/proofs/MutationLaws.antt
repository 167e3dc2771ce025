-- Proves the laws on mutations: they are never lost, and are decided once. And the laws on transfers.
use Rattle.std.proofs.Common.{◌≡◌, ℕ, ◌+◌, ◌<◌, Bool, true, false, not, cond, List, [], ◌∷◌, Option, Some, None, refl, sym, ap, ◌∙◌, subst, arith}
use Rattle.std.specs.Prelude.{ℤ, nat_eq, nat_lt}
use Rattle.std.specs.List.{AllByRecursion, find}
use Rattle.std.specs.Option.{option_map_or}
use Rattle.std.specs.Ordering.{eq_by_cmp, nat_cmp}
use Rattle.std.specs.Str.{bytes_eq}
use Rattle.std.specs.Cmp.{nat_cmp_total}
use Rattle.std.specs.FinMap as map
use Rattle.std.specs.FinMap.{nat_cmp-IsAntisymmetric}
use Rattle.std.proofs.lemmas.Bool.{eqb-true, false≢true, and_from, and_parts, not-false}
use Rattle.std.proofs.lemmas.Bool.Decides.{nat_tests}
use Rattle.std.proofs.lemmas.Slice.Eq.{bytes_eq-Decides}
use Rattle.std.specs.Cmp.Lexicographic.{pointwise}
use Rattle.std.proofs.lemmas.Bool.Decides.{Decides-int_eq}
use Rattle.std.proofs.lemmas.Cmp.{nat_eq_equiv}
use Rattle.land_acts.proofs.Accepted.{plan_of}
use Rattle.land_acts.proofs.EnteredEntries.{here, there}
use Rattle.land_acts.proofs.LodgedMutations.{none_found}
use Rattle.land_acts.proofs.Numbers.{one_number}
use Rattle.land_acts.proofs.Refusals.{first_none, none_hold}
use Rattle.land_acts.proofs.TransferLaws.{whole_law}
use Rattle.land_acts.specs.Deciding.{decided_mutation, is_lodged, with_state}
use Rattle.land_acts.specs.Lodging.{document_kind, ascending_pair, is_same_lodging, lodge_repeat, new_mutation_record, receipt_of_lodging, mutation_with_reference, repeat_of}
use Rattle.land_acts.specs.MutationLaws.{DecisionsStay, LodgingsExist, LodgingsStay, RepeatsGetTheFirstReceipt, ExistsAsLodged}
use Rattle.land_acts.specs.Mutations.ByContent.{content_change, content_refusals, transfer_change}
use Rattle.land_acts.specs.Mutations.Planning.{first_refusal_of}
use Rattle.land_acts.specs.Mutations.Transferring.{right_at}
use Rattle.land_acts.specs.Outcome.{change_of, done_of, refusals_of, refusal_or, repeat_or, plan_with_stamp}
use Rattle.land_acts.specs.declared.mutations.refusal.Refusal.TheVariants.{ClockOut, NotLodged}
use Rattle.land_acts.specs.declared.mutations.transfer.HeldRight.{HeldRight}
use Rattle.land_core.proofs.FiniteMaps.{none_is_not_some}
use Rattle.land_core.proofs.RecordLookups.{by_look_ups}
use Rattle.land_core.proofs.Reflection.{each_there, some_at}
use Rattle.land_core.proofs.SoundRegisters.{are_used, refers, used_bounds, used_from}
use Rattle.land_core.specs.Changes.{after, no_change}
use Rattle.land_core.specs.Contents.{is_same_content}
use Rattle.land_core.specs.Entries.{with_changes}
use Rattle.land_core.specs.Mergers.{are_same_numbers}
use Rattle.land_core.specs.Mutations.{is_lodged_as, is_undecided}
use Rattle.land_core.specs.Soundness.{IsSound}
use Rattle.land_core.specs.Subdivisions.{is_same_name, is_same_part}
use Rattle.land_core.specs.declared.act.Act.{Act}
use Rattle.land_core.specs.declared.act.Act.TheVariants as act
use Rattle.land_core.specs.declared.act.Lodging.{Lodging}
use Rattle.land_core.specs.declared.caller.Caller.{Caller}
use Rattle.land_core.specs.declared.change.Change.{Change}
use Rattle.land_core.specs.declared.change.Done.{Done}
use Rattle.land_core.specs.declared.content.Content.{Content}
use Rattle.land_core.specs.declared.content.Content.TheVariants as content
use Rattle.land_core.specs.declared.content.Transfer.{Transfer}
use Rattle.land_core.specs.declared.mutation.MutationRecord.{MutationRecord}
use Rattle.land_core.specs.declared.mutation.MutationState.{MutationState}
use Rattle.land_core.specs.declared.mutation.MutationState.TheVariants.{Approved, Lodged, Refused}
use Rattle.land_core.specs.declared.register.Register.{Register}
use Rattle.land_core.specs.declared.soundness.Unsound.TheVariants.{Reference}
use Rattle.land_core.specs.declared.source.SourceKind.TheVariants.{Administrative}
use Rattle.land_core.specs.declared.source.SourceRecord.{SourceRecord}
use Rattle.land_core.specs.declared.subdivision.Part.{Part}
use Rattle.land_shape.specs.Place.{Place, is_same_place, is_same_ring}

-- ---- the effect of a change on mutations

-- an act to which no refusal applies leaves an existing mutation unchanged, or decides it if it was undecided
abbrev Becomes : Register → ℕ → MutationRecord → Register → Type 0
Becomes r number m new = (state : MutationState) × (map.get new.mutations number ≡ Some (decided_mutation state m)) × (is_undecided m ≡ false → state ≡ m.state)

-- a change that writes and ends no source, and ends no mutation
record IsUntouched (change : Change) : Type 0 where
  mutations : change.ended.mutations ≡ []
  put : change.put.sources ≡ []
  ended : change.ended.sources ≡ []

module _ (r : Register) (sound : IsSound r) where
  mutation_below : (n : ℕ) (m : MutationRecord) → map.get r.mutations n ≡ Some m → n < r.next
  mutation_below n m is = (used_bounds r n (used_from r r.mutations (are_used r (refers r (sound Reference)).numbers).mutations n m is)).1

  source_below : (n : ℕ) (s : SourceRecord) → map.get r.sources n ≡ Some s → n < r.next
  source_below n s is = (used_bounds r n (used_from r r.sources (are_used r (refers r (sound Reference)).numbers).sources n s is)).1

  -- a decision changes the state of one undecided mutation
  put_state : (n number : ℕ) (m x : MutationRecord) (state : MutationState) → map.get r.mutations number ≡ Some m → is_undecided m ≡ true → map.get r.mutations n ≡ Some x
      → (after : MutationState) × (map.get (map.insert r.mutations number (decided_mutation state m)) n ≡ Some (decided_mutation after x)) × (is_undecided x ≡ false → after ≡ x.state)
  put_state n number m x state there undecided is =
      elim (eq_by_cmp nat_cmp n number) as (λ b. eq_by_cmp nat_cmp n number ≡ b
      → (after : MutationState) × (map.get (map.insert r.mutations number (decided_mutation state m)) n ≡ Some (decided_mutation after x)) × (is_undecided x ≡ false → after ≡ x.state)) [
        | true ↦ λ at.
            let same : m ≡ x = one_right (sym there ∙ ap (map.get r.mutations) (sym (one_number n number at)) ∙ is) in (
              state,
              map.get-insert nat_cmp_total r.mutations number (decided_mutation state m) n ∙ ap (λ b. cond b (Some (decided_mutation state m)) (map.get r.mutations n)) at ∙ ap (λ y. Some (decided_mutation state y)) same,
              λ shut. absurd (false≢true (sym shut ∙ ap is_undecided (sym same) ∙ undecided)),
            )
        | false ↦ λ apart. (
          x.state,
          map.get-insert nat_cmp_total r.mutations number (decided_mutation state m) n ∙ ap (λ b. cond b (Some (decided_mutation state m)) (map.get r.mutations n)) apart ∙ is,
          λ shut. refl,
        )
      ] refl
    where
      one_right : Some m ≡ Some x → m ≡ x
      one_right e = cc

  transfer_touches : (source : ℕ) (it : Transfer) (o : Option HeldRight) → IsUntouched (transfer_change r source it o)
  transfer_touches source it None = record { mutations = refl; put = refl; ended = refl }
  transfer_touches source it (Some from) = record { mutations = refl; put = refl; ended = refl }

  -- the content of an approval changes no source, and ends no mutation
  content_touches : (source : ℕ) (c : Content) → IsUntouched (content_change r source c)
  content_touches source (content.Transfer it) = transfer_touches source it (right_at r it.unit it.right)
  content_touches source (content.Subdivision it) = record { mutations = refl; put = refl; ended = refl }
  content_touches source (content.Merger it) = record { mutations = refl; put = refl; ended = refl }
  content_touches source (content.Mortgage it) = record { mutations = refl; put = refl; ended = refl }
  content_touches source (content.Discharge it) = record { mutations = refl; put = refl; ended = refl }

  -- the effect of a decision, from the mutation at its number
  by_decision : (number : ℕ) (state : MutationState) (change : MutationRecord → Change) → ((m : MutationRecord) → IsUntouched (change m)) → (o : Option MutationRecord) → map.get r.mutations number ≡ o
      → option_map_or is_undecided o false ≡ true → (n : ℕ) (x : MutationRecord) → map.get r.mutations n ≡ Some x
      → Becomes r n x (after (option_map_or (λ m. with_state state number m (change m)) o (no_change r.next)) r)
  by_decision number state change touches None e undecided n x is = absurd (false≢true undecided)
  by_decision number state change touches (Some m) e undecided n x is =
      let it = put_state n number m x state e undecided is in (
        it.0,
        ap (λ ended. map.get (with_changes r.mutations ((number, decided_mutation state m) ∷ []) ended) n) (touches m).mutations ∙ it.1,
        it.2,
      )

  sources_by_decision : (number : ℕ) (state : MutationState) (change : MutationRecord → Change) → ((m : MutationRecord) → IsUntouched (change m)) → (o : Option MutationRecord)
      → (after (option_map_or (λ m. with_state state number m (change m)) o (no_change r.next)) r).sources ≡ r.sources
  sources_by_decision number state change touches None = refl
  sources_by_decision number state change touches (Some m) =
      ap (λ put. with_changes r.sources put (change m).ended.sources) (touches m).put ∙ ap (with_changes r.sources []) (touches m).ended

  becomes : (caller : Caller) (a : Act) (stamp : ℤ) → first_refusal_of (refusals_of r caller a (Some stamp)) ≡ None → (n : ℕ) (x : MutationRecord) → map.get r.mutations n ≡ Some x
      → Becomes r n x (after (change_of r caller a stamp) r)
  becomes caller (act.Enrol it) stamp none n x is = (x.state, is, λ shut. refl)
  becomes caller (act.Group it) stamp none n x is = (x.state, is, λ shut. refl)
  becomes caller (act.Regroup it) stamp none n x is = (x.state, is, λ shut. refl)
  becomes caller (act.Grant it) stamp none n x is = (x.state, is, λ shut. refl)
  becomes caller (act.Revoke it) stamp none n x is = (x.state, is, λ shut. refl)
  becomes caller (act.Mandate it) stamp none n x is = (x.state, is, λ shut. refl)
  becomes caller (act.Withdraw it) stamp none n x is = (x.state, is, λ shut. refl)
  becomes caller (act.Register it) stamp none n x is = (x.state, is, λ shut. refl)
  becomes caller (act.Burden it) stamp none n x is = (x.state, is, λ shut. refl)
  becomes caller (act.Lift it) stamp none n x is = (x.state, is, λ shut. refl)
  becomes caller (act.Lodge it) stamp none n x is =
      let less = mutation_below n x is in
      (x.state, there r.mutations (r.next + 1) (new_mutation_record caller it r.next stamp) n x (omega (arith, less)) is, λ shut. refl)
  becomes caller (act.Approve it) stamp none n x is =
      by_decision it.mutation Approved (λ m. content_change r m.source m.content) (λ m. content_touches m.source m.content) (map.get r.mutations it.mutation) refl
      (not-false _ (first_none NotLodged (not (is_lodged r it.mutation)) (option_map_or (λ m. content_refusals r m.content (Some stamp)) (map.get r.mutations it.mutation) []) none).first) n x is
  becomes caller (act.Refuse it) stamp none n x is =
      by_decision it.mutation Refused (λ m. no_change r.next) (λ m. record { mutations = refl; put = refl; ended = refl }) (map.get r.mutations it.mutation) refl
      (not-false _ (none_hold ((NotLodged, not (is_lodged r it.mutation)) ∷ (ClockOut, false) ∷ []) none).0) n x is

  source_stays : (caller : Caller) (a : Act) (stamp : ℤ) (n : ℕ) (s : SourceRecord) → map.get r.sources n ≡ Some s → map.get (after (change_of r caller a stamp) r).sources n ≡ Some s
  source_stays caller (act.Enrol it) stamp n s is = is
  source_stays caller (act.Group it) stamp n s is = is
  source_stays caller (act.Regroup it) stamp n s is = is
  source_stays caller (act.Grant it) stamp n s is = is
  source_stays caller (act.Revoke it) stamp n s is = is
  source_stays caller (act.Mandate it) stamp n s is = is
  source_stays caller (act.Withdraw it) stamp n s is = is
  source_stays caller (act.Register it) stamp n s is = there r.sources r.next (record { kind = Administrative; title = it.document }) n s (source_below n s is) is
  source_stays caller (act.Burden it) stamp n s is = there r.sources r.next (record { kind = Administrative; title = it.document }) n s (source_below n s is) is
  source_stays caller (act.Lift it) stamp n s is = is
  source_stays caller (act.Lodge it) stamp n s is = there r.sources r.next (record { kind = document_kind it.content; title = it.document }) n s (source_below n s is) is
  source_stays caller (act.Approve it) stamp n s is =
      ap (λ sources. map.get sources n) (sources_by_decision it.mutation Approved (λ m. content_change r m.source m.content) (λ m. content_touches m.source m.content) (map.get r.mutations it.mutation)) ∙ is
  source_stays caller (act.Refuse it) stamp n s is =
      ap (λ sources. map.get sources n) (sources_by_decision it.mutation Refused (λ m. no_change r.next) (λ m. record { mutations = refl; put = refl; ended = refl }) (map.get r.mutations it.mutation)) ∙ is

-- ---- the laws

pub decisions_stay : DecisionsStay
decisions_stay r change stamp number m sound h is shut =
    let plan = plan_of r h.caller h.act stamp change h.done h.outcome in
    let it = becomes r sound h.caller h.act stamp plan.none_holds number m is in
    subst (λ (made : Change). map.get (after made r).mutations number ≡ Some m) plan.same (it.1 ∙ ap (λ state. Some (decided_mutation state m)) (it.2 shut))

pub lodgings_exist : LodgingsExist
lodgings_exist r caller it stamp change done is =
    let plan = plan_of r caller (act.Lodge it) stamp change done is in
    subst (λ (made : Change). ExistsAsLodged (after made r) caller it r.next (r.next + 1) stamp) plan.same
    (record {
      state = Lodged;
      mutation = here r.mutations (r.next + 1) (new_mutation_record caller it r.next stamp);
      document = here r.sources r.next (record { kind = document_kind it.content; title = it.document });
    })

pub lodgings_stay : LodgingsStay
lodgings_stay r caller it source number lodged stamp change sound h standing =
    let plan = plan_of r h.caller h.act stamp change h.done h.outcome in
    let mutation = becomes r sound h.caller h.act stamp plan.none_holds number (decided_mutation standing.state (new_mutation_record caller it source lodged)) standing.mutation in
    subst (λ (made : Change). ExistsAsLodged (after made r) caller it source number lodged) plan.same
    (record { state = mutation.0; mutation = mutation.1; document = source_stays r sound h.caller h.act stamp source (record { kind = document_kind it.content; title = it.document }) standing.document })

-- ---- repeats

-- an item by item comparison is reflexive
list_itself : {A : Type 0} (same : A → A → Bool) → ((x : A) → same x x ≡ true) → (xs : List A) → pointwise same xs xs ≡ true
list_itself same each [] = refl
list_itself same each (x ∷ xs) = and_from _ _ (each x) (list_itself same each xs)

text_itself : (text : List ℕ) → bytes_eq text text ≡ true
text_itself text = (bytes_eq-Decides text text).1 refl

ring_itself : (ring : List Place) → is_same_ring ring ring ≡ true
ring_itself ring = list_itself is_same_place (λ p. and_from _ _ ((Decides-int_eq p.x p.x).1 refl) ((Decides-int_eq p.y p.y).1 refl)) ring

name_itself : (name : Option (List ℕ)) → is_same_name name name ≡ true
name_itself None = refl
name_itself (Some name) = text_itself name

part_itself : (part : Part) → is_same_part part part ≡ true
part_itself part = and_from _ _ (and_from _ _ (text_itself part.label) (ring_itself part.outline)) (name_itself part.unit)

numbers_itself : (numbers : List ℕ) → are_same_numbers numbers numbers ≡ true
numbers_itself numbers = list_itself nat_eq nat_eq_equiv.refl numbers

content_itself : (c : Content) → is_same_content c c ≡ true
content_itself (content.Transfer it) =
    and_from _ _ (and_from _ _ (and_from _ _ (nat_eq_equiv.refl it.unit) (nat_eq_equiv.refl it.right)) (nat_eq_equiv.refl it.receiver)) (and_from _ _ (nat_eq_equiv.refl it.share.numerator) (nat_eq_equiv.refl it.share.denominator))
content_itself (content.Subdivision it) =
    and_from _ _ (and_from _ _ (and_from _ _ (nat_eq_equiv.refl it.unit) (nat_eq_equiv.refl it.parcel)) (and_from _ _ (text_itself it.first.label) (ring_itself it.first.outline))) (list_itself is_same_part part_itself it.rest)
content_itself (content.Merger it) =
    and_from _ _ (and_from _ _ (and_from _ _ (and_from _ _ (nat_eq_equiv.refl it.unit) (numbers_itself it.others)) (numbers_itself it.parcels)) (text_itself it.label)) (ring_itself it.outline)
content_itself (content.Mortgage it) =
    and_from _ _ (and_from _ _ (and_from _ _ (nat_eq_equiv.refl it.unit) (nat_eq_equiv.refl it.creditor)) (nat_eq_equiv.refl it.amount)) ((bytes_eq-Decides it.currency it.currency).1 refl)
content_itself (content.Discharge it) = and_from _ _ (nat_eq_equiv.refl it.unit) (nat_eq_equiv.refl it.mortgage)

found_passes : {X : Type 0} (p : X → Bool) (xs : List X) (x : X) → find p xs ≡ Some x → p x ≡ true
found_passes p [] x e = absurd (none_is_not_some e)
found_passes {X} p (y ∷ ys) x e =
    elim (p y) as (λ b. p y ≡ b → cond b (Some y) (find p ys) ≡ Some x → p x ≡ true) [
      | true ↦ λ passes e. subst (λ (z : X). p z ≡ true) (same e) passes
      | false ↦ λ fails e. found_passes p ys x e
    ] refl e
  where
    same : Some y ≡ Some x → y ≡ x
    same e = cc

found_holds : {X : Type 0} (P : X → Type 0) (p : X → Bool) (xs : List X) → AllByRecursion P xs → (x : X) → find p xs ≡ Some x → P x
found_holds P p [] all x e = absurd (none_is_not_some e)
found_holds {X} P p (y ∷ ys) all x e =
    elim (p y) as (λ b. cond b (Some y) (find p ys) ≡ Some x → P x) [ true ↦ λ e. subst P (same e) all.0 | false ↦ λ e. found_holds P p ys all.1 x e ] e
  where
    same : Some y ≡ Some x → y ≡ x
    same e = cc

module _ (later : Register) (sound : IsSound later) (caller : Caller) (it : Lodging) (source number : ℕ) (stamp : ℤ) (standing : ExistsAsLodged later caller it source number stamp) where
  abbrev m : MutationRecord
  m = decided_mutation standing.state (new_mutation_record caller it source stamp)

  abbrev p : ℕ × MutationRecord → Bool
  p e = is_lodged_as caller.party it.reference e.1

  passes : is_lodged_as caller.party it.reference m ≡ true
  passes = and_from _ _ (nat_eq_equiv.refl caller.party) ((bytes_eq-Decides it.reference it.reference).1 refl)

  -- the lodger has no other mutation under the reference
  the_one : (e : ℕ × MutationRecord) → find p (map.entries later.mutations) ≡ Some e → e ≡ (number, m)
  the_one e found =
      let looks = (by_look_ups whole_law later).0 sound in
      let parts = and_parts (nat_eq e.1.lodger caller.party) (bytes_eq e.1.reference it.reference) (found_passes p (map.entries later.mutations) e found) in
      let at_key = found_holds (λ e. map.get later.mutations e.0 ≡ Some e.1) p (map.entries later.mutations) (each_there nat_cmp_total nat_cmp-IsAntisymmetric later.mutations) e found in
      elim (nat_eq e.0 number) as (λ b. nat_eq e.0 number ≡ b → e ≡ (number, m)) [
        | true ↦ λ at.
            let same : e.0 ≡ number = eqb-true e.0 number at in
            pair_same e (number, m) same (one_right (sym at_key ∙ ap (map.get later.mutations) same ∙ standing.mutation))
        | false ↦ λ apart. absurd (looks.references e.0 number e.1 m at_key standing.mutation (differ apart)
            (eqb-true e.1.lodger caller.party parts.0) ((bytes_eq-Decides e.1.reference it.reference).0 parts.1))
      ] refl
    where
      one_right : {a b : MutationRecord} → Some a ≡ Some b → a ≡ b
      one_right e = cc

      pair_same : (a b : ℕ × MutationRecord) → a.0 ≡ b.0 → a.1 ≡ b.1 → a ≡ b
      pair_same a b x y = ap (λ k. (k, a.1)) x ∙ ap (λ v. (b.0, v)) y

      differ : nat_eq e.0 number ≡ false → e.0 ≡ number → ⊥
      differ apart same = false≢true (sym apart ∙ ap (λ n. nat_eq n number) same ∙ nat_eq_equiv.refl number)

  under : mutation_with_reference later caller.party it.reference ≡ Some (number, m)
  under = by_case (find p (map.entries later.mutations)) refl
    where
      by_case : (o : Option (ℕ × MutationRecord)) → find p (map.entries later.mutations) ≡ o → mutation_with_reference later caller.party it.reference ≡ Some (number, m)
      by_case None e =
          absurd (false≢true (sym (none_found p (map.entries later.mutations) e)
          ∙ some_at nat_cmp_total nat_cmp-IsAntisymmetric (λ n x. is_lodged_as caller.party it.reference x) later.mutations number m standing.mutation passes))
      by_case (Some e) found = found ∙ ap Some (the_one e found)

  same : is_same_lodging later it m ≡ true
  same = and_from _ _ (ap (λ o. option_map_or (λ s. bytes_eq s.title it.document) o false) standing.document ∙ (bytes_eq-Decides it.document it.document).1 refl) (content_itself it.content)

  repeated : lodge_repeat later caller it ≡ Some (receipt_of_lodging (number, m))
  repeated = ap (repeat_of later it) under ∙ ap (λ b. cond b (Some (receipt_of_lodging (number, m))) None) same

told_then : (number : ℕ) → ascending_pair number (number + 1) ≡ number ∷ (number + 1) ∷ []
told_then number = ap (λ b. cond b ((number + 1) ∷ number ∷ []) (number ∷ (number + 1) ∷ [])) not_before
  where
    not_before : nat_lt (number + 1) number ≡ false
    not_before = grind (arith, nat_tests)

pub repeats_are_told : RepeatsGetTheFirstReceipt
repeats_are_told r later caller it stamp now change done first sound standing =
    let plan = plan_of r caller (act.Lodge it) stamp change done first in
    let told : receipt_of_lodging (r.next + 1, decided_mutation standing.state (new_mutation_record caller it r.next stamp)) ≡ done =
    ap (λ (made : List ℕ). record { number = r.next + 1; made = made; stamp = stamp }) (told_then r.next) ∙ plan.is_told in
    ap (λ (o : Option Done). repeat_or o (refusal_or (first_refusal_of (refusals_of later caller (act.Lodge it) now))
    (plan_with_stamp (λ at. change_of later caller (act.Lodge it) at) (λ at. done_of later caller (act.Lodge it) at) now)))
    (repeated later sound caller it r.next (r.next + 1) stamp standing ∙ ap Some told)
