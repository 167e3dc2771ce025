-- The open connections, after one was accepted.
use Rattle.std.proofs.Common.{◌≡◌, ◌≢◌, ℕ, ℤ, ◌<◌, ◌≤◌, Bool, true, false, List, [], ◌∷◌, ◌++◌, length, refl, sym, ap, ◌∙◌, subst, arith, append-nil, inl, inr, Option, Some, None, Result, Ok, Err, IfOk, length-append}
use Rattle.std.specs.Prelude.{slice_get, OnErr}
use Rattle.std.specs.Io.KnownBytes.{prepend_known}
use Rattle.std.proofs.KnownBytes.{Appends-nil}
use Rattle.std.proofs.lemmas.Option.{none-some, slice_get_within}
use Rattle.slab.specs.Slab.{Slab, Updates, get}
use Rattle.land_desk.specs.Serving.{Exchange}
use Rattle.land_desk.specs.Service.Coming.{Accepts}
use Rattle.land_pool.proofs.Logs.{AreOf, get_back, get_front, get_last, one_of, other_endings, own_endings, records_none, same_or_other, same_some}
use Rattle.land_pool.proofs.Turned.{broken}
use Rattle.land_pool.specs.Endings.{Ending, RecordsAll, endings_of}
use Rattle.land_pool.specs.Interleaving.{Accepted, AreFirstPending, EachIsServed, IsServedAs, Numbered, SendsPrefix, exchanges_of}
use Rattle.land_pool.specs.OpenConnections.{AcceptsMore, AreOpen, HasItems, IsOpenWith, rest_of}
use Rattle.land_pool.specs.declared.open_connection.OpenConnection.{OpenConnection}

clash : (a b n : ℕ) → b < n → n ≤ a → a ≡ b → ⊥
clash a b n less past e = omega (arith, less, past, e)

further : (accepted : List Accepted) (c : Accepted) (k : ℕ) → length (accepted ++ c ∷ []) ≤ k → length accepted ≤ k
further accepted c k past = omega (arith, length-append accepted (c ∷ []), past)

last_or_before : (accepted : List Accepted) (c : Accepted) (k : ℕ) → k < length (accepted ++ c ∷ []) → k ≢ length accepted → k < length accepted
last_or_before accepted c k within ne = grind (arith, length-append accepted (c ∷ []), within, ne)

-- a connection is added, with its ending if it ended at once
each_new : (accepted : List Accepted) (log : List Numbered) (endings : List Ending) (c : Accepted) (more : List Ending)
    → AreOf (length accepted) more → IsServedAs c [] more → EachIsServed accepted log endings → EachIsServed (accepted ++ c ∷ []) log (endings ++ more)
each_new accepted log endings c more of new each = record {
  served = λ k d is.
      elim (get_back accepted c k d is) as (λ _. IsServedAs d (exchanges_of k log) (endings_of k (endings ++ more))) [
        | inl was ↦
            let within = slice_get_within accepted k d was in
            subst (λ (l : List Ending). IsServedAs d (exchanges_of k log) l) (sym (other_endings k (length accepted) endings more of (λ e. clash (length accepted) k (length accepted) within (omega arith) e)))
            (each.served k d was)
        | inr h ↦
            let past : length accepted ≤ k = omega (arith, h.0) in
            let none = each.no_ending (length accepted) (omega arith) in
            subst (λ (e : Accepted). IsServedAs e (exchanges_of k log) (endings_of k (endings ++ more))) (sym h.1)
            (subst (λ (l : List Exchange). IsServedAs c l (endings_of k (endings ++ more))) (sym (each.no_exchange k past))
            (subst (λ (l : List Ending). IsServedAs c [] l) (sym (ap (λ (n : ℕ). endings_of n (endings ++ more)) h.0 ∙ own_endings (length accepted) endings more of none)) new))
      ];
  no_exchange = λ k past. each.no_exchange k (further accepted c k past);
  no_ending = λ k past. other_endings k (length accepted) endings more of (far k past) ∙ each.no_ending k (further accepted c k past);
}
  where
    far : (k : ℕ) → length (accepted ++ c ∷ []) ≤ k → length accepted ≢ k
    far k past e = clash_far k past e
      where
        clash_far : (k : ℕ) → length (accepted ++ c ∷ []) ≤ k → length accepted ≡ k → ⊥
        clash_far k past e = omega (arith, length-append accepted (c ∷ []), past, e)

module _ {R W : Type 0} (remaining : R → Option (List ℕ)) (contents : W → Option (List ℕ)) (fresh : Option (List ℕ)) where
  both_new : (known : Option (List ℕ)) (buffer : List ℕ) → buffer ≡ [] → HasItems false known (prepend_known buffer known) []
  both_new None buffer none = tt
  both_new (Some all) buffer none = ap (λ (l : List ℕ). l ++ all) none

  open_new : (s : OpenConnection R W) → s.finished ≡ false → s.input.items ≡ [] → s.output.items ≡ [] → contents s.writer ≡ fresh
      → IsOpenWith remaining contents (remaining s.reader) fresh [] s
  open_new s finished input output holds = (
    subst (λ (b : Bool). HasItems b (remaining s.reader) (rest_of remaining contents s) []) (sym finished) (both_new (remaining s.reader) s.input.items input),
    subst (λ (o : Option (List ℕ)). SendsPrefix o (contents s.writer) [] s.output.items) holds ([], Appends-nil (contents s.writer), sym output),
  )

  first_of_all : (c : Accepted) (coming after : Option (List (Option (List ℕ)))) → Accepts coming after (Some c.bytes) → AreFirstPending (c ∷ []) coming after
  first_of_all c None after comes = tt
  first_of_all c (Some []) after comes = absurd comes
  first_of_all c (Some (first ∷ rest)) None comes = let bad = comes.1 in cc
  first_of_all c (Some (first ∷ rest)) (Some left) comes = let same = comes.1 in let one = comes.0 in cc

  -- it is open
  accepted_open : (at next : ℕ → Option (OpenConnection R W)) (coming after : Option (List (Option (List ℕ)))) (ended : Option (List Ending)) (before : ℕ) (i : ℕ) (s : OpenConnection R W)
      → at i ≡ None → next i ≡ Some s → ((j : ℕ) → j ≢ i → next j ≡ at j)
      → s.number ≡ before → s.finished ≡ false → s.input.items ≡ [] → s.output.items ≡ [] → contents s.writer ≡ fresh
      → Accepts coming after (Some (remaining s.reader)) → AcceptsMore remaining contents fresh at next coming after ended ended before 1
  accepted_open at next coming after ended before i s vacant here others number finished input output holds comes accepted log endings count now =
      let c : Accepted = record { bytes = remaining s.reader } in
      let fits = open_new s finished input output holds in
      let past : length accepted ≤ s.number = omega (arith, count, number) in
      let none : exchanges_of s.number log ≡ [] = now.each.no_exchange s.number past in
      let place : slice_get (accepted ++ c ∷ []) s.number ≡ Some c = subst (λ (n : ℕ). slice_get (accepted ++ c ∷ []) n ≡ Some c) (count ∙ sym number) (get_last accepted c) in
      let old : (j : ℕ) (u : OpenConnection R W) → at j ≡ Some u → u.number < length accepted = λ j u is. (let it = now.held j u is in slice_get_within accepted u.number it.0 it.1) in (
        c ∷ [],
        [],
        refl,
        first_of_all c coming after comes,
        records_none ended,
        subst (λ (es : List Ending). AreOpen remaining contents fresh next (accepted ++ c ∷ []) log es) (sym (append-nil endings)) (record {
          held = λ j u is.
              elim (same_or_other j i) as (λ _. (d : Accepted) × (slice_get (accepted ++ c ∷ []) u.number ≡ Some d) × (endings_of u.number endings ≡ [])
              × IsOpenWith remaining contents d.bytes fresh (exchanges_of u.number log) u) [
                | inl e ↦
                    let same : s ≡ u = same_some s u (sym here ∙ subst (λ (n : ℕ). next n ≡ Some u) e is) in
                    subst (λ (w : OpenConnection R W). (d : Accepted) × (slice_get (accepted ++ c ∷ []) w.number ≡ Some d) × (endings_of w.number endings ≡ [])
                    × IsOpenWith remaining contents d.bytes fresh (exchanges_of w.number log) w) same
                    (c, place, now.each.no_ending s.number past, subst (λ (l : List Exchange). IsOpenWith remaining contents c.bytes fresh l s) (sym none) fits)
                | inr ne ↦
                    let it = now.held j u (sym (others j ne) ∙ is) in
                    (it.0, get_front accepted (c ∷ []) u.number it.0 it.1, it.2, it.3)
              ];
          apart = λ j k u v is it same.
              elim (same_or_other j i) as (λ _. j ≡ k) [
                | inl e ↦ elim (same_or_other k i) as (λ _. j ≡ k) [
                  | inl f ↦ e ∙ sym f
                  | inr nf ↦
                      let one : s ≡ u = same_some s u (sym here ∙ subst (λ (n : ℕ). next n ≡ Some u) e is) in
                      let less = old k v (sym (others k nf) ∙ it) in
                      absurd (clash s.number v.number (length accepted) less past (ap (λ (w : OpenConnection R W). w.number) one ∙ same))
                ]
                | inr ne ↦ elim (same_or_other k i) as (λ _. j ≡ k) [
                  | inl f ↦
                      let one : s ≡ v = same_some s v (sym here ∙ subst (λ (n : ℕ). next n ≡ Some v) f it) in
                      let less = old j u (sym (others j ne) ∙ is) in
                      absurd (clash s.number u.number (length accepted) less past (ap (λ (w : OpenConnection R W). w.number) one ∙ sym same))
                  | inr nf ↦ now.apart j k u v (sym (others j ne) ∙ is) (sym (others k nf) ∙ it) same
                ]
              ];
          others = λ k within unended.
              elim (same_or_other k (length accepted)) as (λ _. (j : ℕ) × (o : OpenConnection R W) × (next j ≡ Some o) × (o.number ≡ k)) [
                | inl e ↦ (i, s, here, number ∙ sym count ∙ sym e)
                | inr ne ↦
                    let it = now.others k (last_or_before accepted c k within ne) unended in
                    let elsewhere : it.0 ≢ i = λ e. none-some it.1 (sym vacant ∙ subst (λ (n : ℕ). at n ≡ Some it.1) e it.2) in
                    (it.0, it.1, others it.0 elsewhere ∙ it.2, it.3)
              ];
          each = subst (λ (es : List Ending). EachIsServed (accepted ++ c ∷ []) log es) (append-nil endings)
              (each_new accepted log endings c [] (record { own = refl; other = λ j ne. refl })
              (broken s.finished c.bytes (rest_of remaining contents s) fresh (contents s.writer) [] s.output.items fits.0 fits.1).0 now.each);
        }),
      )

  -- there is no memory for it, and it is dropped
  accepted_dropped : (at next : ℕ → Option (OpenConnection R W)) (coming after : Option (List (Option (List ℕ)))) (ended ended_after : Option (List Ending)) (before : ℕ) (s : OpenConnection R W)
      → next ≡ at → s.number ≡ before → s.finished ≡ false → s.input.items ≡ [] → s.output.items ≡ [] → contents s.writer ≡ fresh
      → Accepts coming after (Some (remaining s.reader))
      → RecordsAll ended ended_after (record { number = s.number; complete = false; fresh = fresh; written = contents s.writer } ∷ [])
      → AcceptsMore remaining contents fresh at next coming after ended ended_after before 1
  accepted_dropped at next coming after ended ended_after before s same number finished input output holds comes records accepted log endings count now =
      let c : Accepted = record { bytes = remaining s.reader } in
      let fits = open_new s finished input output holds in
      let e : Ending = record { number = s.number; complete = false; fresh = fresh; written = contents s.writer } in
      let at_end : s.number ≡ length accepted = number ∙ sym count in
      let of : AreOf (length accepted) (e ∷ []) = subst (λ (n : ℕ). AreOf n (e ∷ [])) at_end (one_of e) in (
        c ∷ [],
        e ∷ [],
        refl,
        first_of_all c coming after comes,
        records,
        subst (λ (f : ℕ → Option (OpenConnection R W)). AreOpen remaining contents fresh f (accepted ++ c ∷ []) log (endings ++ e ∷ [])) (sym same) (record {
          held = λ j u is.
              let it = now.held j u is in
              let within = slice_get_within accepted u.number it.0 it.1 in
              let apart : length accepted ≢ u.number = λ eq. clash (length accepted) u.number (length accepted) within (omega arith) eq in
              (it.0, get_front accepted (c ∷ []) u.number it.0 it.1, other_endings u.number (length accepted) endings (e ∷ []) of apart ∙ it.2, it.3);
          apart = now.apart;
          others = λ k within unended.
              let ne : k ≢ length accepted = λ eq. not_none e (sym (own_endings (length accepted) endings (e ∷ []) of (now.each.no_ending (length accepted) (omega arith)))
              ∙ ap (λ (n : ℕ). endings_of n (endings ++ e ∷ [])) (sym eq) ∙ unended) in
              now.others k (last_or_before accepted c k within ne) (sym (other_endings k (length accepted) endings (e ∷ []) of (λ eq. ne (sym eq))) ∙ unended);
          each = each_new accepted log endings c (e ∷ []) of
              (broken s.finished c.bytes (rest_of remaining contents s) fresh (contents s.writer) [] s.output.items fits.0 fits.1) now.each;
        }),
      )
    where
      not_none : (e : Ending) → e ∷ [] ≡ [] → ⊥
      not_none e is = let bad : e ∷ [] ≡ [] = is in cc

  none_first : (coming after : Option (List (Option (List ℕ)))) → Accepts coming after None → AreFirstPending [] coming after
  none_first None after comes = tt
  none_first (Some all) None comes = cc
  none_first (Some all) (Some left) comes = cc

  none_left : (coming : Option (List (Option (List ℕ)))) → AreFirstPending [] coming coming
  none_left None = tt
  none_left (Some all) = refl

  none_more : (at : ℕ → Option (OpenConnection R W)) (coming after : Option (List (Option (List ℕ)))) (ended : Option (List Ending)) (before : ℕ) → AreFirstPending [] coming after
      → AcceptsMore remaining contents fresh at at coming after ended ended before 0
  none_more at coming after ended before none accepted log endings count now = (
    [],
    [],
    refl,
    none,
    records_none ended,
    subst (λ (l : List Accepted). AreOpen remaining contents fresh at l log (endings ++ [])) (sym (append-nil accepted))
        (subst (λ (es : List Ending). AreOpen remaining contents fresh at accepted log es) (sym (append-nil endings)) now),
  )

  -- no connection is pending
  pub none_pending : (at : ℕ → Option (OpenConnection R W)) (coming after : Option (List (Option (List ℕ)))) (ended : Option (List Ending)) (before : ℕ) → Accepts coming after None
      → AcceptsMore remaining contents fresh at at coming after ended ended before 0
  none_pending at coming after ended before comes = none_more at coming after ended before (none_first coming after comes)

  -- no connection is accepted
  pub none_accepted : (at : ℕ → Option (OpenConnection R W)) (coming : Option (List (Option (List ℕ)))) (ended : Option (List Ending)) (before : ℕ)
      → AcceptsMore remaining contents fresh at at coming coming ended ended before 0
  none_accepted at coming ended before = none_more at coming coming ended before (none_left coming)

  pub inserted : (old new : Slab (OpenConnection R W)) (coming after : Option (List (Option (List ℕ)))) (ended : Option (List Ending)) (before key : ℕ) (s : OpenConnection R W)
      → get old key ≡ None → Updates old new key (Some s)
      → s.number ≡ before → s.finished ≡ false → s.input.items ≡ [] → s.output.items ≡ [] → contents s.writer ≡ fresh
      → Accepts coming after (Some (remaining s.reader)) → AcceptsMore remaining contents fresh (get old) (get new) coming after ended ended before 1
  inserted old new coming after ended before key s vacant updates number finished input output holds comes =
      accepted_open (get old) (get new) coming after ended before key s vacant updates.changed updates.others number finished input output holds comes

  pub dropped : (old new : Slab (OpenConnection R W)) (coming after : Option (List (Option (List ℕ)))) (ended mid ended_after : Option (List Ending)) (before : ℕ) (s w : OpenConnection R W)
      → new ≡ record old { capacity = new.capacity }
      → s.number ≡ before → s.finished ≡ false → s.input.items ≡ [] → s.output.items ≡ [] → contents s.writer ≡ fresh
      → Accepts coming after (Some (remaining s.reader)) → w ≡ s → mid ≡ ended
      → RecordsAll mid ended_after (record { number = w.number; complete = false; fresh = fresh; written = contents w.writer } ∷ [])
      → AcceptsMore remaining contents fresh (get old) (get new) coming after ended ended_after before 1
  dropped old new coming after ended mid ended_after before s w same number finished input output holds comes is unchanged records =
      accepted_dropped (get old) (get new) coming after ended ended_after before s (ap (λ (t : Slab (OpenConnection R W)). get t) same) number finished input output holds comes
      (subst (λ (o : Option (List Ending)). RecordsAll o ended_after (record { number = s.number; complete = false; fresh = fresh; written = contents s.writer } ∷ [])) unchanged
      (subst (λ (v : OpenConnection R W). RecordsAll mid ended_after (record { number = v.number; complete = false; fresh = fresh; written = contents v.writer } ∷ [])) is records))
