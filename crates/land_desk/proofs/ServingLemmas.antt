-- Items answered in order.
use Rattle.std.proofs.Common.{◌≡◌, ℕ, ◌+◌, Bool, true, false, List, [], ◌∷◌, ◌++◌, length, map, take, refl, sym, ap, ◌∙◌, subst, arith, append_assoc, append-nil, length-append, inl, inr, Ok, Err, Option, Some, None, IfSome}
use Rattle.std.specs.Prelude.{◌⊎◌, ◌||◌}
use Rattle.std.specs.Io.KnownBytes.{Appends, prepend_known}
use Rattle.std.proofs.KnownBytes.{Appends-trans, Appends-nil}
use Rattle.std.proofs.lemmas.Bool.{false≢true}
use Rattle.land_core.specs.declared.ask.Request.{Request}
use Rattle.land_desk.specs.Serving.{Exchange, ServesItem, ServesPrefix, ServesAll, Serves, ServesItemsInOrder, HasServed, closes, is_closing, all_sent}
use Rattle.land_desk.specs.Serving.Asking.{IfBoth}
use Rattle.land_desk.proofs.KnownNext.{ServesKnown}
use Rattle.land_desk.specs.declared.serve.DeskFault.{DeskFault}
use Rattle.land_desk.specs.declared.serve.DeskFault.TheVariants as desk
use Rattle.land_desk.specs.declared.next_item.AfterItem.{AfterItem}
use Rattle.land_desk.specs.declared.next_item.AfterItem.TheVariants as next_item
use Rattle.land_keep.specs.Machine.{State}
use Rattle.land_keep.specs.declared.reply.Reply.{Reply}
use Rattle.land_wire.proofs.ItemLemmas.{head_some, item_unique}
use Rattle.land_wire.specs.Framing.Items.{Item, request, faulty, AreItems, IsItem, is_last}

module _ {C : Type 0} (step : State C → Request → Reply → State C → Type 0) where
  goes_more : (bytes rest mid : List ℕ) (from now to : State C) (xs : List Exchange) (x : Exchange)
      → ServesPrefix step bytes from xs rest now → ServesItem step rest now x mid to → is_closing x ≡ false
      → ServesPrefix step bytes from (xs ++ x ∷ []) mid to
  goes_more bytes rest mid from now to [] x so one stays =
      let here = subst (λ (t : List ℕ). ServesItem step t from x mid to) so.0 (subst (λ (s : State C). ServesItem step rest s x mid to) so.1 one) in
      (mid, to, here, stays, (refl, refl))
  goes_more bytes rest mid from now to (y ∷ xs) x so one stays =
      (so.0, so.1, so.2, so.3, goes_more so.0 rest mid so.1 now to xs x so.4 one stays)

  -- the input ends
  goes_to_end : (bytes rest : List ℕ) (from now : State C) (xs : List Exchange)
      → ServesPrefix step bytes from xs rest now → rest ≡ [] → ServesAll step bytes from xs now
  goes_to_end bytes rest from now [] so none = (sym so.0 ∙ none, so.1)
  goes_to_end bytes rest from now (x ∷ xs) so none =
      (so.0, so.1, so.2, (λ e. absurd (false≢true (sym so.3 ∙ e))), (λ e. goes_to_end so.0 rest so.1 now xs so.4 none))

  -- the connection closes
  goes_to_last : (bytes rest mid : List ℕ) (from now to : State C) (xs : List Exchange) (x : Exchange)
      → ServesPrefix step bytes from xs rest now → ServesItem step rest now x mid to → is_closing x ≡ true
      → ServesAll step bytes from (xs ++ x ∷ []) to
  goes_to_last bytes rest mid from now to [] x so one close_after =
      let here = subst (λ (t : List ℕ). ServesItem step t from x mid to) so.0 (subst (λ (s : State C). ServesItem step rest s x mid to) so.1 one) in
      (mid, to, here, (λ e. (refl, refl)), (λ e. absurd (false≢true (sym e ∙ close_after))))
  goes_to_last bytes rest mid from now to (y ∷ xs) x so one close_after =
      (so.0, so.1, so.2, (λ e. absurd (false≢true (sym so.3 ∙ e))), (λ e. goes_to_last so.0 rest mid so.1 now to xs x so.4 one close_after))

  said_more : (xs : List Exchange) (x : Exchange) → all_sent xs ++ x.sent ≡ all_sent (xs ++ x ∷ [])
  said_more [] x = sym (append-nil x.sent)
  said_more (y ∷ xs) x = append_assoc y.sent (all_sent xs) x.sent ∙ ap (λ (t : List ℕ). y.sent ++ t) (said_more xs x)

  count_more : (xs : List Exchange) (x : Exchange) (n : ℕ) → length xs ≡ n → length (xs ++ x ∷ []) ≡ n + 1
  count_more xs x n e = omega (arith, length-append xs (x ∷ []), e)

  pub begins : (known : Option (List ℕ)) (buffer : List ℕ) (from : State C) (w : Option (List ℕ)) → buffer ≡ []
      → IfBoth known (prepend_known buffer known) (λ bytes rest. HasServed step bytes rest from from w w 0)
  begins None buffer from w none = tt
  begins (Some bytes) buffer from w none = ([], (ap (λ (t : List ℕ). t ++ bytes) none, refl), Appends-nil w, refl)

  pub nothing_done : (known w : Option (List ℕ)) (from : State C)
      → IfSome known (λ bytes. Serves step bytes from from w w (Err desk.NoMemory))
  nothing_done None w from = tt
  nothing_done (Some bytes) w from = (bytes, 0, ([], (refl, refl), Appends-nil w, refl))

  pub goes_on : (start before after : Option (List ℕ)) (from now to : State C) (w u v : Option (List ℕ)) (n : ℕ) (t : AfterItem) → t ≡ next_item.KeepAlive
      → IfBoth start before (λ bytes rest. HasServed step bytes rest from now w u n)
      → IfSome before (λ rest. ServesKnown step rest now to after u v (Ok t))
      → IfBoth start after (λ bytes rest. HasServed step bytes rest from to w v (n + 1))
  goes_on None before after from now to w u v n t is so given = tt
  goes_on (Some bytes) None after from now to w u v n t is so given = absurd so
  goes_on (Some bytes) (Some rest) after from now to w u v n t is so given =
      let one = subst (λ (r : AfterItem). ServesKnown step rest now to after u v (Ok r)) is given in
      let xs = so.0 in
      let x = one.0 in
      subst (λ (o : Option (List ℕ)). IfBoth (Some bytes) o (λ bytes rest. HasServed step bytes rest from to w v (n + 1))) (sym one.5) (
        xs ++ x ∷ [],
        goes_more bytes rest one.1 from now to xs x so.1 one.2 one.3,
        subst (λ (t : List ℕ). Appends w v t) (said_more xs x) (Appends-trans w u v (all_sent xs) x.sent so.2 one.4),
        count_more xs x n so.3,
      )

  pub serves_end : (start before after : Option (List ℕ)) (from now to : State C) (w u v : Option (List ℕ)) (n : ℕ) (t : AfterItem) → t ≡ next_item.Eof
      → IfBoth start before (λ bytes rest. HasServed step bytes rest from now w u n)
      → IfSome before (λ rest. ServesKnown step rest now to after u v (Ok t))
      → IfSome start (λ bytes. Serves step bytes from to w v (Ok (record { replies = n })))
  serves_end None before after from now to w u v n t is so given = tt
  serves_end (Some bytes) None after from now to w u v n t is so given = absurd so
  serves_end (Some bytes) (Some rest) after from now to w u v n t is so given =
      let one = subst (λ (r : AfterItem). ServesKnown step rest now to after u v (Ok r)) is given in (
        so.0,
        subst (λ (s : State C). ServesAll step bytes from so.0 s) (sym one.1) (goes_to_end bytes rest from now so.0 so.1 one.0),
        subst (λ (t : List ℕ). Appends w v t) (append-nil (all_sent so.0)) (Appends-trans w u v (all_sent so.0) [] so.2 one.2),
        sym so.3,
      )

  pub serves_last : (start before after : Option (List ℕ)) (from now to : State C) (w u v : Option (List ℕ)) (n : ℕ) (t : AfterItem) → t ≡ next_item.Close
      → IfBoth start before (λ bytes rest. HasServed step bytes rest from now w u n)
      → IfSome before (λ rest. ServesKnown step rest now to after u v (Ok t))
      → IfSome start (λ bytes. Serves step bytes from to w v (Ok (record { replies = n + 1 })))
  serves_last None before after from now to w u v n t is so given = tt
  serves_last (Some bytes) None after from now to w u v n t is so given = absurd so
  serves_last (Some bytes) (Some rest) after from now to w u v n t is so given =
      let one = subst (λ (r : AfterItem). ServesKnown step rest now to after u v (Ok r)) is given in (
        so.0 ++ one.0 ∷ [],
        goes_to_last bytes rest one.1 from now to so.0 one.0 so.1 one.2 one.3,
        subst (λ (t : List ℕ). Appends w v t) (said_more so.0 one.0) (Appends-trans w u v (all_sent so.0) one.0.sent so.2 one.4),
        sym (count_more so.0 one.0 n so.3),
      )

  same_after : (bytes rest : List ℕ) (from now to : State C) (w u v : Option (List ℕ)) (n : ℕ)
      → HasServed step bytes rest from now w u n → to ≡ now → Appends u v [] → HasServed step bytes rest from to w v n
  same_after bytes rest from now to w u v n so same none = (
    so.0,
    subst (λ (s : State C). ServesPrefix step bytes from so.0 rest s) (sym same) so.1,
    subst (λ (t : List ℕ). Appends w v t) (append-nil (all_sent so.0)) (Appends-trans w u v (all_sent so.0) [] so.2 none),
    so.3,
  )

  pub serves_fault : (start before after : Option (List ℕ)) (from now to : State C) (w u v : Option (List ℕ)) (n : ℕ) (e : DeskFault)
      → IfBoth start before (λ bytes rest. HasServed step bytes rest from now w u n)
      → IfSome before (λ rest. ServesKnown step rest now to after u v (Err e))
      → IfSome start (λ bytes. Serves step bytes from to w v (Err e))
  serves_fault None before after from now to w u v n e so one = tt
  serves_fault (Some bytes) None after from now to w u v n e so one = absurd so
  serves_fault (Some bytes) (Some rest) after from now to w u v n desk.Write so one = (
    so.0,
    one.0,
    rest,
    one.1,
    now,
    one.2,
    so.1,
    one.3,
    Appends-trans w u v (all_sent so.0) (take one.2 one.0.sent) so.2 one.4,
  )
  serves_fault (Some bytes) (Some rest) after from now to w u v n desk.Read so one =
      (rest, n, same_after bytes rest from now to w u v n so one.0 one.1)
  serves_fault (Some bytes) (Some rest) after from now to w u v n desk.NoMemory so one =
      (rest, n, same_after bytes rest from now to w u v n so one.0 one.1)

  -- ---- the answered items are a prefix of the stream's items

  either : (b : Bool) → (b ≡ true) ⊎ (b ≡ false)
  either true = inl refl
  either false = inr refl

  not_last : (b d : Bool) → (b || d) ≡ false → b ≡ false
  not_last true d e = e
  not_last false d e = refl

  no_item : (y : Item) (rest : List ℕ) → IsItem [] y rest → ⊥
  no_item (request h body) rest is = omega (arith, head_some [] h _ is.0)
  no_item (faulty f) rest is = omega (arith, is.1)

  pub served_items : ServesItemsInOrder step
  served_items bytes from to [] items s a = (items, refl)
  served_items bytes from to (x ∷ xs) [] s a = absurd (no_item x.item s.0 (subst (λ (t : List ℕ). IsItem t x.item s.0) a s.2.0))
  served_items bytes from to (x ∷ xs) (y ∷ ys) s a =
      let same = item_unique bytes x.item y s.0 a.0 s.2.0 a.1 in
      elim (either (is_closing x)) as (λ _. (more : List Item) × (y ∷ ys ≡ x.item ∷ (map (λ z. z.item) xs ++ more))) [
        | inl e ↦ (ys, λ i. sym same.0 i ∷ ap (λ (l : List Exchange). map (λ z. z.item) l ++ ys) (sym (s.3 e).0) i)
        | inr e ↦ let after = a.3 (ap is_last (sym same.0) ∙ not_last (is_last x.item) (closes x.reply) e) in
            let tail = served_items s.0 s.1 to xs ys (s.4 e) (subst (λ (t : List ℕ). AreItems t ys) (sym same.1) after) in
            (tail.0, λ i. sym same.0 i ∷ tail.1 i)
      ]
