-- The open connections, after one of them had a turn.
use Rattle.std.proofs.Common.{◌≡◌, ◌≢◌, ℕ, ℤ, ◌<◌, ◌≤◌, Bool, true, false, List, [], ◌∷◌, ◌++◌, length, refl, sym, ap, ◌∙◌, subst, arith, append-nil, inl, inr, Option, Some, None}
use Rattle.std.specs.Prelude.{slice_get}
use Rattle.std.proofs.lemmas.Option.{none-some, slice_get_within}
use Rattle.slab.specs.Slab.{Slab, Updates, get}
use Rattle.land_desk.specs.Serving.{Exchange, ForwardSimulation}
use Rattle.land_keep.specs.Machine.{State}
use Rattle.land_pool.proofs.Logs.{AreOf, all_of, none_of, one_of, other_endings, other_same, own_endings, own_more, records_none, run_more, same_or_other, same_some}
use Rattle.land_pool.proofs.Turned.{broken}
use Rattle.land_pool.specs.Endings.{Ending, RecordsAll, endings_of}
use Rattle.land_pool.specs.Interleaving.{Accepted, EachIsServed, IsServed, IsServedAs, Numbered, exchanges_of}
use Rattle.land_pool.specs.OpenConnections.{AddsExchanges, AnswersItems, AreOpen, IsOpenWith, IsThen, ServesOn, ServesUntilNow, rest_of}
use Rattle.land_pool.specs.declared.open_connection.OpenConnection.{OpenConnection}
use Rattle.land_pool.specs.declared.open_connection.Progress.{Progress}
use Rattle.land_pool.specs.declared.open_connection.Progress.TheVariants.{Open, Complete, Broken}

-- exchanges and endings of one connection are added
each_more : (accepted : List Accepted) (log : List Numbered) (endings : List Ending) (k : ℕ) (added : List Exchange) (more : List Ending)
    → AreOf k more → endings_of k endings ≡ []
    → ((c : Accepted) → slice_get accepted k ≡ Some c → IsServedAs c (exchanges_of k log ++ added) more)
    → k < length accepted → EachIsServed accepted log endings → EachIsServed accepted (log ++ all_of k added) (endings ++ more)
each_more accepted log endings k added more of none mine within each = record {
  served = λ j c is.
      elim (same_or_other k j) as (λ _. IsServedAs c (exchanges_of j (log ++ all_of k added)) (endings_of j (endings ++ more))) [
        | inl e ↦ subst (λ (n : ℕ). IsServedAs c (exchanges_of n (log ++ all_of k added)) (endings_of n (endings ++ more))) e
            (subst (λ (l : List Exchange). IsServedAs c l (endings_of k (endings ++ more))) (sym (own_more k log added))
            (subst (λ (l : List Ending). IsServedAs c (exchanges_of k log ++ added) l) (sym (own_endings k endings more of none))
            (mine c (subst (λ (n : ℕ). slice_get accepted n ≡ Some c) (sym e) is))))
        | inr ne ↦ subst (λ (l : List Exchange). IsServedAs c l (endings_of j (endings ++ more))) (sym (other_same j k log added ne))
            (subst (λ (l : List Ending). IsServedAs c (exchanges_of j log) l) (sym (other_endings j k endings more of ne)) (each.served j c is))
      ];
  no_exchange = λ j past. other_same j k log added (far j past) ∙ each.no_exchange j past;
  no_ending = λ j past. other_endings j k endings more of (far j past) ∙ each.no_ending j past;
}
  where
    too_far : (j n : ℕ) → k ≡ j → k < n → n ≤ j → ⊥
    too_far j n e less more = omega (arith, e, less, more)

    far : (j : ℕ) → length accepted ≤ j → k ≢ j
    far j past e = too_far j (length accepted) e within past

module _ {R W : Type 0} (remaining : R → Option (List ℕ)) (contents : W → Option (List ℕ)) (fresh : Option (List ℕ)) where
  -- the connection at a key had a turn: it stays open and has no ending, or it is gone and has one
  open_more : (at next : ℕ → Option (OpenConnection R W)) (accepted : List Accepted) (log : List Numbered) (endings : List Ending)
      (i : ℕ) (s t : OpenConnection R W) (added : List Exchange) (more : List Ending)
      → at i ≡ Some s → t.number ≡ s.number → ((j : ℕ) → j ≢ i → next j ≡ at j)
      → ((u : OpenConnection R W) → next i ≡ Some u → (u ≡ t) × (more ≡ []))
      → (more ≡ [] → next i ≡ Some t)
      → AreOf s.number more
      → ((c : Accepted) → more ≡ [] → IsOpenWith remaining contents c.bytes fresh (exchanges_of s.number log) s
      → IsOpenWith remaining contents c.bytes fresh (exchanges_of s.number log ++ added) t)
      → ((c : Accepted) → IsOpenWith remaining contents c.bytes fresh (exchanges_of s.number log) s
      → IsServedAs c (exchanges_of s.number log ++ added) more)
      → AreOpen remaining contents fresh at accepted log endings → AreOpen remaining contents fresh next accepted (log ++ all_of s.number added) (endings ++ more)
  open_more at next accepted log endings i s t added more here number others mine stays of goes serves now =
      let own = now.held i s here in
      let c = own.0 in
      let back : (j : ℕ) (u : OpenConnection R W) → next j ≡ Some u → (v : OpenConnection R W) × (at j ≡ Some v) × (v.number ≡ u.number) =
      λ j u is. elim (same_or_other j i) as (λ _. (v : OpenConnection R W) × (at j ≡ Some v) × (v.number ≡ u.number)) [
        | inl e ↦ (
          s,
          subst (λ (n : ℕ). at n ≡ Some s) (sym e) here,
          sym number ∙ ap (λ (w : OpenConnection R W). w.number) (sym (mine u (subst (λ (n : ℕ). next n ≡ Some u) e is)).0),
        )
        | inr ne ↦ (u, sym (others j ne) ∙ is, refl)
      ] in
      record {
        held = λ j u is.
            elim (same_or_other j i) as (λ _. (d : Accepted) × (slice_get accepted u.number ≡ Some d) × (endings_of u.number (endings ++ more) ≡ [])
            × IsOpenWith remaining contents d.bytes fresh (exchanges_of u.number (log ++ all_of s.number added)) u) [
              | inl e ↦
                  let what = mine u (subst (λ (n : ℕ). next n ≡ Some u) e is) in
                  subst (λ (w : OpenConnection R W). (d : Accepted) × (slice_get accepted w.number ≡ Some d) × (endings_of w.number (endings ++ more) ≡ [])
                  × IsOpenWith remaining contents d.bytes fresh (exchanges_of w.number (log ++ all_of s.number added)) w) (sym what.0) (
                    c,
                    subst (λ (n : ℕ). slice_get accepted n ≡ Some c) (sym number) own.1,
                    ap (λ (n : ℕ). endings_of n (endings ++ more)) number ∙ own_endings s.number endings more of own.2 ∙ what.1,
                    subst (λ (n : ℕ). IsOpenWith remaining contents c.bytes fresh (exchanges_of n (log ++ all_of s.number added)) t) (sym number)
                        (subst (λ (l : List Exchange). IsOpenWith remaining contents c.bytes fresh l t) (sym (own_more s.number log added))
                        (goes c what.1 own.3)),
                  )
              | inr ne ↦
                  let was = sym (others j ne) ∙ is in
                  let it = now.held j u was in
                  let apart : s.number ≢ u.number = λ e. ne (now.apart j i u s was here (sym e)) in (
                    it.0,
                    it.1,
                    other_endings u.number s.number endings more of apart ∙ it.2,
                    subst (λ (l : List Exchange). IsOpenWith remaining contents it.0.bytes fresh l u) (sym (other_same u.number s.number log added apart)) it.3,
                  )
            ];
        apart = λ j k u v is it same.
            let a = back j u is in
            let b = back k v it in
            now.apart j k a.0 b.0 a.1 b.1 (a.2 ∙ same ∙ sym b.2);
        others = λ k within none.
            elim (same_or_other s.number k) as (λ _. (j : ℕ) × (o : OpenConnection R W) × (next j ≡ Some o) × (o.number ≡ k)) [
              | inl e ↦
                  let empty : more ≡ [] = sym (own_endings s.number endings more of own.2) ∙ ap (λ (n : ℕ). endings_of n (endings ++ more)) e ∙ none in
                  (i, t, stays empty, number ∙ e)
              | inr ne ↦
                  let it = now.others k within (sym (other_endings k s.number endings more of ne) ∙ none) in
                  let elsewhere : it.0 ≢ i = λ e. ne (ap (λ (w : OpenConnection R W). w.number)
                  (same_some s it.1 (sym here ∙ subst (λ (n : ℕ). at n ≡ Some it.1) e it.2)) ∙ it.3) in
                  (it.0, it.1, others it.0 elsewhere ∙ it.2, it.3)
            ];
        each = each_more accepted log endings s.number added more of own.2
            (λ d is. serves d (subst (λ (e : Accepted). IsOpenWith remaining contents e.bytes fresh (exchanges_of s.number log) s) (same_some c d (sym own.1 ∙ is)) own.3))
            (slice_get_within accepted s.number c own.1) now.each;
      }

  module _ {C : Type 0} (reads : C → ℤ → C → Type 0) (stood stands : State C → Type 0) where
    -- what a turn of a connection does
    abbrev pub HasTurn : Progress → OpenConnection R W → OpenConnection R W → Type 0
    HasTurn progress s t = ForwardSimulation stood stands (λ from to. (added : List Exchange) × AnswersItems reads from added to
        × (65536 < length s.output.items → added ≡ []) × AddsExchanges remaining contents progress s added t)

    -- it stays open
    pub turn_open : (old mid new : Slab (OpenConnection R W)) (key back : ℕ) (s t : OpenConnection R W) (ended : Option (List Ending))
        → Some s ≡ get old key → t.number ≡ s.number → Updates old mid key None → back ≡ key → Updates mid new back (Some t)
        → HasTurn Open s t → ServesOn remaining contents fresh reads stood stands (get old) (get new) ended ended
    turn_open old mid new key back s t ended here number gone same put brings from accepted endings so =
        let it = brings so.1 so.3 in
        let added = it.1.0 in
        let placed : get new key ≡ Some t = subst (λ (n : ℕ). get new n ≡ Some t) same put.changed in (
          [],
          records_none ended,
          (
            so.0 ++ all_of s.number added,
            it.0,
            run_more reads s.number from so.0 so.1 added it.0 so.2 it.1.1,
            it.2,
            open_more (get old) (get new) accepted so.0 endings key s t added [] (sym here) number
                (λ j ne. put.others j (λ e. ne (e ∙ same)) ∙ gone.others j ne)
                (λ u is. (same_some u t (sym is ∙ placed), refl))
                (λ none. placed)
                (none_of s.number)
                (λ c none fits. it.1.3 c.bytes fresh (exchanges_of s.number so.0) fits)
                (λ c fits. (let after = it.1.3 c.bytes fresh (exchanges_of s.number so.0) fits in
                (broken t.finished c.bytes (rest_of remaining contents t) fresh (contents t.writer) (exchanges_of s.number so.0 ++ added) t.output.items after.0 after.1).0))
                so.4,
          ),
        )

    -- it ends
    turn_ended : (complete : Bool) (old mid : Slab (OpenConnection R W)) (key : ℕ) (s t : OpenConnection R W) (progress : Progress) (ended ended_after : Option (List Ending))
        → ((bytes old : Option (List ℕ)) (xs : List Exchange) → IsThen remaining contents progress bytes old xs t → IsServed complete bytes old (contents t.writer) xs)
        → Some s ≡ get old key → t.number ≡ s.number → Updates old mid key None
        → RecordsAll ended ended_after (record { number = t.number; complete = complete; fresh = fresh; written = contents t.writer } ∷ [])
        → HasTurn progress s t → ServesOn remaining contents fresh reads stood stands (get old) (get mid) ended ended_after
    turn_ended complete old mid key s t progress ended ended_after means here number gone records brings from accepted endings so =
        let it = brings so.1 so.3 in
        let added = it.1.0 in
        let e : Ending = record { number = t.number; complete = complete; fresh = fresh; written = contents t.writer } in (
          e ∷ [],
          records,
          (
            so.0 ++ all_of s.number added,
            it.0,
            run_more reads s.number from so.0 so.1 added it.0 so.2 it.1.1,
            it.2,
            open_more (get old) (get mid) accepted so.0 endings key s t added (e ∷ []) (sym here) number gone.others
                (λ u is. absurd (none-some u (sym gone.changed ∙ is)))
                (λ none. absurd (not_none e none))
                (subst (λ (n : ℕ). AreOf n (e ∷ [])) number (one_of e))
                (λ c none fits. absurd (not_none e none))
                (λ c fits. means c.bytes fresh (exchanges_of s.number so.0 ++ added) (it.1.3 c.bytes fresh (exchanges_of s.number so.0) fits))
                so.4,
          ),
        )
      where
        not_none : (e : Ending) → e ∷ [] ≡ [] → ⊥
        not_none e is = let bad : e ∷ [] ≡ [] = is in cc

    pub turn_complete : (old mid : Slab (OpenConnection R W)) (key : ℕ) (s t : OpenConnection R W) (ended ended_after : Option (List Ending))
        → Some s ≡ get old key → t.number ≡ s.number → Updates old mid key None
        → RecordsAll ended ended_after (record { number = t.number; complete = true; fresh = fresh; written = contents t.writer } ∷ [])
        → HasTurn Complete s t → ServesOn remaining contents fresh reads stood stands (get old) (get mid) ended ended_after
    turn_complete old mid key s t ended ended_after here number gone records brings =
        turn_ended true old mid key s t Complete ended ended_after (λ bytes before xs is. is) here number gone records brings

    pub turn_broken : (old mid : Slab (OpenConnection R W)) (key : ℕ) (s t : OpenConnection R W) (ended ended_after : Option (List Ending))
        → Some s ≡ get old key → t.number ≡ s.number → Updates old mid key None
        → RecordsAll ended ended_after (record { number = t.number; complete = false; fresh = fresh; written = contents t.writer } ∷ [])
        → HasTurn Broken s t → ServesOn remaining contents fresh reads stood stands (get old) (get mid) ended ended_after
    turn_broken old mid key s t ended ended_after here number gone records brings =
        turn_ended false old mid key s t Broken ended ended_after (λ bytes before xs is. is) here number gone records brings

  -- no connection had a turn
  pub no_turn : {C : Type 0} (reads : C → ℤ → C → Type 0) (stands : State C → Type 0) (old mid : Slab (OpenConnection R W)) (ended : Option (List Ending)) → mid ≡ old
      → ServesOn remaining contents fresh reads stands stands (get old) (get mid) ended ended
  no_turn reads stands old mid ended same from accepted endings so = (
    [],
    records_none ended,
    subst (λ (es : List Ending). ServesUntilNow remaining contents fresh reads from stands (get mid) accepted es) (sym (append-nil endings))
        (subst (λ (f : ℕ → Option (OpenConnection R W)). ServesUntilNow remaining contents fresh reads from stands f accepted endings) (sym (ap (λ (t : Slab (OpenConnection R W)). get t) same)) so),
  )
