-- Rounds of serving.
use Rattle.std.proofs.Common.{◌≡◌, ◌≢◌, ◌∙◌, ℕ, ℤ, ◌+◌, ◌<◌, List, [], ◌∷◌, ◌++◌, length, map, ap, refl, sym, subst, append_assoc, append-nil, Option, Some, None, length-append, arith}
use Rattle.std.proofs.lemmas.List.{map-append, nil_from_length}
use Rattle.std.proofs.lemmas.Option.{none-some}
use Rattle.std.specs.Prelude.{slice_index_or, Contains, Result, Err, ◌≤◌}
use Rattle.slab.specs.Slab.{Slab, entries, get, slab_len}
use Rattle.slab.proofs.SlabLemmas.{Contains-entries, length-entries}
use Rattle.land_keep.specs.Machine.{State}
use Rattle.land_pool.proofs.Logs.{records_both, records_none}
use Rattle.land_pool.specs.Endings.{Ending, RecordsAll, endings_of}
use Rattle.land_pool.specs.Interleaving.{Accepted, AreFirstPending, IsAcceptedCount, ServesAtOnce}
use Rattle.land_pool.specs.OpenConnections.{AcceptsMore, ServesOn, ServesUntilNow}
use Rattle.land_pool.specs.declared.open_connection.OpenConnection.{OpenConnection}
use Rattle.land_pool.specs.declared.pool.PoolFault.{PoolFault}

both_first : (xs ys : List Accepted) (coming mid after : Option (List (Option (List ℕ)))) → AreFirstPending xs coming mid → AreFirstPending ys mid after → AreFirstPending (xs ++ ys) coming after
both_first xs ys None mid after a b = tt
both_first xs ys (Some all) None after a b = absurd a
both_first xs ys (Some all) (Some some) None a b = absurd b
both_first xs ys (Some all) (Some some) (Some rest) a b = appended xs ys all some rest a b
  where
    appended : (xs ys : List Accepted) (all some rest : List (Option (List ℕ))) → all ≡ map (λ x. x.bytes) xs ++ some → some ≡ map (λ x. x.bytes) ys ++ rest
        → all ≡ map (λ x. x.bytes) (xs ++ ys) ++ rest
    appended xs ys all some rest a b =
        a ∙ ap (λ (l : List (Option (List ℕ))). map (λ x. x.bytes) xs ++ l) b ∙ sym (append_assoc (map (λ x. x.bytes) xs) (map (λ x. x.bytes) ys) rest)
        ∙ ap (λ (l : List (Option (List ℕ))). l ++ rest) (sym (map-append (λ x. x.bytes) xs ys))

-- a new slab has no connection at any key
pub no_value : {T : Type 0} (s : Slab T) → s.slots ≡ [] → (i : ℕ) → get s i ≡ None
no_value {T} s empty i = ap (λ (l : List (Option T)). slice_index_or l i None) empty ∙ slice_index_nil i
  where
    slice_index_nil : (i : ℕ) → slice_index_or {A = Option T} [] i None ≡ None
    slice_index_nil i = refl

-- an empty slab has no connection at any key
pub none_open : {T : Type 0} (s : Slab T) → slab_len s ≡ 0 → (i : ℕ) → get s i ≡ None
none_open {T} s empty i = none_at (get s i) refl
  where
    none_before : (k : ℕ) → k < 0 → ⊥
    none_before k within = omega (arith, within)

    no_entry : (es : List (ℕ × T)) (x : T) → es ≡ [] → Contains es (i, x) → ⊥
    no_entry [] x e has = absurd (none_before has.0 has.1)
    no_entry (y ∷ es) x e has = let bad : y ∷ es ≡ [] = e in cc

    none_at : (o : Option T) → get s i ≡ o → o ≡ None
    none_at None is = refl
    none_at (Some x) is = absurd (no_entry (entries s) x (nil_from_length (entries s) (length-entries s ∙ empty)) ((Contains-entries s i x).1 is))

module _ {R W : Type 0} (remaining : R → Option (List ℕ)) (contents : W → Option (List ℕ)) (fresh : Option (List ℕ)) {C : Type 0} (reads : C → ℤ → C → Type 0) where
  -- no turn, and a turn after others
  pub serves_on : (stands : State C → Type 0) (at : ℕ → Option (OpenConnection R W)) (ended : Option (List Ending)) → ServesOn remaining contents fresh reads stands stands at at ended ended
  serves_on stands at ended from accepted endings so =
      ([], records_none ended, subst (λ (es : List Ending). ServesUntilNow remaining contents fresh reads from stands at accepted es) (sym (append-nil endings)) so)

  pub serves_on_more : (a b d : State C → Type 0) (at next last : ℕ → Option (OpenConnection R W)) (ended ended_was ended_now ended_after : Option (List Ending))
      → ended_now ≡ ended_was
      → ServesOn remaining contents fresh reads a b at next ended ended_was → ServesOn remaining contents fresh reads b d next last ended_now ended_after
      → ServesOn remaining contents fresh reads a d at last ended ended_after
  serves_on_more a b d at next last ended ended_was ended_now ended_after same one two from accepted endings so =
      let first = one from accepted endings so in
      let last_turns = two from accepted (endings ++ first.0) first.2 in (
        first.0 ++ last_turns.0,
        records_both ended ended_was ended_after first.0 last_turns.0 first.1 (subst (λ (o : Option (List Ending)). RecordsAll o ended_after last_turns.0) same last_turns.1),
        subst (λ (es : List Ending). ServesUntilNow remaining contents fresh reads from d last accepted es) (append_assoc endings first.0 last_turns.0) last_turns.2,
      )

module _ {R W : Type 0} (remaining : R → Option (List ℕ)) (contents : W → Option (List ℕ)) (fresh : Option (List ℕ)) {C : Type 0} (reads : C → ℤ → C → Type 0) (from : State C) where
  -- this number of connections was accepted until now, and they were served
  abbrev pub IsRound : (stands : State C → Type 0) → (ℕ → Option (OpenConnection R W)) → (coming now : Option (List (Option (List ℕ)))) → (ended ended_now : Option (List Ending)) → ℕ → Type 0
  IsRound stands at coming now ended ended_now count =
      (accepted : List Accepted) × (endings : List Ending) × (length accepted ≡ count) × AreFirstPending accepted coming now × RecordsAll ended ended_now endings
      × ServesUntilNow remaining contents fresh reads from stands at accepted endings

  pub first_round : (stands : State C → Type 0) (at : ℕ → Option (OpenConnection R W)) (coming : Option (List (Option (List ℕ)))) (ended : Option (List Ending)) → stands from
      → ((i : ℕ) → at i ≡ None) → IsRound stands at coming coming ended ended 0
  first_round stands at coming ended here empty = (
    [],
    [],
    refl,
    none_left coming,
    records_none ended,
    (
      [],
      from,
      refl,
      here,
      record {
        held = λ i o is. absurd (none-some o (sym (empty i) ∙ is));
        apart = λ i j o p is it same. absurd (none-some o (sym (empty i) ∙ is));
        others = λ k within. absurd (none_before k within);
        each = record { served = λ k c is. absurd (none-some c is); no_exchange = λ k past. refl; no_ending = λ k past. refl };
      },
    ),
  )
    where
      none_left : (coming : Option (List (Option (List ℕ)))) → AreFirstPending [] coming coming
      none_left None = tt
      none_left (Some all) = refl

      none_before : (k : ℕ) → k < 0 → ⊥
      none_before k within = omega (arith, within)

  -- a round: a pending connection is accepted, and each that is ready has a turn
  pub next_round : (stood stands : State C → Type 0) (at mid next : ℕ → Option (OpenConnection R W)) (coming was now after : Option (List (Option (List ℕ))))
      (ended ended_was ended_now ended_mid ended_after : Option (List Ending)) (before more : ℕ)
      → was ≡ now → ended_was ≡ ended_now → IsRound stood at coming was ended ended_was before
      → AcceptsMore remaining contents fresh at mid now after ended_now ended_mid before more → ServesOn remaining contents fresh reads stood stands mid next ended_mid ended_after
      → IsRound stands next coming after ended ended_after (before + more)
  next_round stood stands at mid next coming was now after ended ended_was ended_now ended_mid ended_after before more same same_ended so accepts goes =
      let accepted = so.0 in
      let endings = so.1 in
      let far = so.5 in
      let it = accepts accepted far.0 endings so.2 far.4 in
      let on = goes from (accepted ++ it.0) (endings ++ it.1) (far.0, far.1, far.2, far.3, it.5) in (
        accepted ++ it.0,
        (endings ++ it.1) ++ on.0,
        length-append accepted it.0 ∙ ap (λ n. n + length it.0) so.2 ∙ ap (λ n. before + n) it.2,
        both_first accepted it.0 coming now after (subst (λ (o : Option (List (Option (List ℕ)))). AreFirstPending accepted coming o) same so.3) it.3,
        records_both ended ended_mid ended_after (endings ++ it.1) on.0
            (records_both ended ended_now ended_mid endings it.1 (subst (λ (o : Option (List Ending)). RecordsAll ended o endings) same_ended so.4) it.4) on.1,
        on.2,
      )

  -- what was served when serving ends
  pub served_at_once : {T : Type 0} (stands : State C → Type 0) (at : ℕ → Option (OpenConnection R W)) (coming was now : Option (List (Option (List ℕ))))
      (ended ended_was ended_now : Option (List Ending)) (count wanted : ℕ) (result : Result T PoolFault)
      → was ≡ now → ended_was ≡ ended_now → (so : IsRound stands at coming was ended ended_was count) → IsAcceptedCount (length so.0) wanted so.1 result
      → ServesAtOnce reads wanted from stands coming now ended ended_now result
  served_at_once stands at coming was now ended ended_was ended_now count wanted result same same_ended so holds =
      let far = so.5 in (
        far.0,
        so.0,
        so.1,
        far.1,
        far.2,
        far.3,
        far.4.each,
        subst (λ (o : Option (List (Option (List ℕ)))). AreFirstPending so.0 coming o) same so.3,
        subst (λ (o : Option (List Ending)). RecordsAll ended o so.1) same_ended so.4,
        holds,
      )

  -- if no connection is open, each has ended
  pub all_ended : (stands : State C → Type 0) (at : ℕ → Option (OpenConnection R W)) (accepted : List Accepted) (endings : List Ending)
      → ServesUntilNow remaining contents fresh reads from stands at accepted endings → ((i : ℕ) → at i ≡ None) → (k : ℕ) → k < length accepted → endings_of k endings ≢ []
  all_ended stands at accepted endings so empty k within none =
      let it = so.4.others k within none in
      none-some it.1 (sym (empty it.0) ∙ it.2)

  -- no connection was accepted
  pub nothing_served : (T : Type 0) (stands : State C → Type 0) (coming : Option (List (Option (List ℕ)))) (ended : Option (List Ending)) (wanted : ℕ) (e : PoolFault) → stands from
      → ServesAtOnce {T = T} reads wanted from stands coming coming ended ended (Err e)
  nothing_served T stands coming ended wanted e here =
      let so = first_round stands (λ i. None) coming ended here (λ i. refl) in
      served_at_once {T = T} stands (λ i. None) coming coming coming ended ended ended 0 wanted (Err e) refl refl so (omega (arith, so.2))
