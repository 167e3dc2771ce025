-- One connection, after its next item was served or was not.
use Rattle.std.proofs.Common.{◌≡◌, ◌<◌, ◌≤◌, ℕ, ℤ, Bool, true, false, List, [], ◌∷◌, ◌++◌, length, refl, sym, ap, ◌∙◌, subst, append_assoc, append-nil, arith, inl, inr, Option, Some, None, Result, Ok, Err, IfSome}
use Rattle.std.specs.Io.KnownBytes.{Appends, Keeps}
use Rattle.std.proofs.lemmas.Bool.{false≢true}
use Rattle.land_desk.proofs.Honesty.{answers_honestly}
use Rattle.land_desk.specs.Serving.{AnswersItem, Exchange, ForwardSimulation, StepIfHonest, StepOf, all_sent, is_closing}
use Rattle.land_desk.specs.Serving.Asking.{IfBoth}
use Rattle.land_desk.specs.Turns.{ServesNext}
use Rattle.land_desk.specs.declared.next_item.AfterItem.{AfterItem}
use Rattle.land_desk.specs.declared.next_item.AfterItem.TheVariants as next_item
use Rattle.land_desk.specs.declared.serve.DeskFault.{DeskFault}
use Rattle.land_desk.specs.declared.serve.DeskFault.TheVariants as desk
use Rattle.land_keep.specs.Machine.{State}
use Rattle.land_pool.specs.Interleaving.{AreAllItems, AreFirstItems, BeginsWithItems, IsServed, SendsPrefix}
use Rattle.land_pool.specs.OpenConnections.{AnswersItems, HasItems}
use Rattle.land_wire.specs.Framing.Items.{IsItem}

begins_more : (bytes rest mid : List ℕ) (xs : List Exchange) (x : Exchange) → BeginsWithItems bytes xs rest → IsItem rest x.item mid → is_closing x ≡ false
    → BeginsWithItems bytes (xs ++ x ∷ []) mid
begins_more bytes rest mid [] x so item stays = (mid, subst (λ (t : List ℕ). IsItem t x.item mid) so item, stays, refl)
begins_more bytes rest mid (y ∷ xs) x so item stays = (so.0, so.1, so.2, begins_more so.0 rest mid xs x so.3 item stays)

all_at_end : (bytes rest : List ℕ) (xs : List Exchange) → BeginsWithItems bytes xs rest → rest ≡ [] → AreAllItems bytes xs
all_at_end bytes rest [] so none = sym so ∙ none
all_at_end bytes rest (x ∷ xs) so none =
    (so.0, so.1, (λ e. absurd (false≢true (sym so.2 ∙ e))), (λ e. all_at_end so.0 rest xs so.3 none))

all_at_last : (bytes rest mid : List ℕ) (xs : List Exchange) (x : Exchange) → BeginsWithItems bytes xs rest → IsItem rest x.item mid → is_closing x ≡ true
    → AreAllItems bytes (xs ++ x ∷ [])
all_at_last bytes rest mid [] x so item last =
    (mid, subst (λ (t : List ℕ). IsItem t x.item mid) so item, (λ e. refl), (λ e. absurd (false≢true (sym e ∙ last))))
all_at_last bytes rest mid (y ∷ xs) x so item last =
    (so.0, so.1, (λ e. absurd (false≢true (sym so.2 ∙ e))), (λ e. all_at_last so.0 rest mid xs x so.3 item last))

first_one : (b : Bool) (bytes rest mid : List ℕ) (xs : List Exchange) (x : Exchange) → is_closing x ≡ b → BeginsWithItems bytes xs rest → IsItem rest x.item mid
    → AreFirstItems bytes (xs ++ x ∷ [])
first_one true bytes rest mid xs x e so item = inl (all_at_last bytes rest mid xs x so item e)
first_one false bytes rest mid xs x e so item = inr (mid, begins_more bytes rest mid xs x so item e)

all_sent_more : (xs : List Exchange) (x : Exchange) → all_sent xs ++ x.sent ≡ all_sent (xs ++ x ∷ [])
all_sent_more [] x = sym (append-nil x.sent)
all_sent_more (y ∷ xs) x = append_assoc y.sent (all_sent xs) x.sent ∙ ap (λ (t : List ℕ). y.sent ++ t) (all_sent_more xs x)

output_more : (old new : Option (List ℕ)) (xs : List Exchange) (x : Exchange) (u v : List ℕ) → v ≡ u ++ x.sent → SendsPrefix old new xs u → SendsPrefix old new (xs ++ x ∷ []) v
output_more old new xs x u v e w =
    (w.0, w.1, sym (all_sent_more xs x) ∙ ap (λ (l : List ℕ). l ++ x.sent) w.2 ∙ append_assoc w.0 u x.sent ∙ ap (λ (l : List ℕ). w.0 ++ l) (sym e))

-- ---- if the bytes are known

items_more : (finished : Bool) (bytes known left : Option (List ℕ)) (xs : List Exchange) (x : Exchange) → finished ≡ false → HasItems finished bytes known xs
    → IfBoth known left (λ b r. IsItem b x.item r) → is_closing x ≡ false → HasItems finished bytes left (xs ++ x ∷ [])
items_more true bytes known left xs x goes so item stays = absurd (false≢true (sym goes))
items_more false None known left xs x goes so item stays = tt
items_more false (Some all) None left xs x goes so item stays = absurd so
items_more false (Some all) (Some rest) None xs x goes so item stays = absurd item
items_more false (Some all) (Some rest) (Some mid) xs x goes so item stays = begins_more all rest mid xs x so item stays

items_last : (finished : Bool) (bytes known : Option (List ℕ)) (xs : List Exchange) (x : Exchange) → finished ≡ false → HasItems finished bytes known xs
    → IfSome known (λ b. (r : List ℕ) × IsItem b x.item r) → is_closing x ≡ true → IfSome bytes (λ all. AreAllItems all (xs ++ x ∷ []))
items_last true bytes known xs x goes so item stays = absurd (false≢true (sym goes))
items_last false None known xs x goes so item last = tt
items_last false (Some all) None xs x goes so item last = absurd so
items_last false (Some all) (Some rest) xs x goes so item last = all_at_last all rest item.0 xs x so item.1 last

items_one : (finished : Bool) (bytes known : Option (List ℕ)) (xs : List Exchange) (x : Exchange) → finished ≡ false → HasItems finished bytes known xs
    → IfSome known (λ b. (r : List ℕ) × IsItem b x.item r) → IfSome bytes (λ all. AreFirstItems all (xs ++ x ∷ []))
items_one true bytes known xs x goes so item = absurd (false≢true (sym goes))
items_one false None known xs x goes so item = tt
items_one false (Some all) None xs x goes so item = absurd so
items_one false (Some all) (Some rest) xs x goes so item = first_one (is_closing x) all rest item.0 xs x refl so item.1

items_end : (finished : Bool) (bytes known : Option (List ℕ)) (xs : List Exchange) → finished ≡ false → HasItems finished bytes known xs
    → IfSome known (λ b. b ≡ []) → IfSome bytes (λ all. AreAllItems all (xs ++ []))
items_end true bytes known xs goes so none = absurd (false≢true (sym goes))
items_end false None known xs goes so none = tt
items_end false (Some all) None xs goes so none = absurd so
items_end false (Some all) (Some rest) xs goes so none = subst (λ (l : List Exchange). AreAllItems all l) (sym (append-nil xs)) (all_at_end all rest xs so none)

items_kept : (finished : Bool) (bytes known left : Option (List ℕ)) (xs : List Exchange) → finished ≡ false → HasItems finished bytes known xs
    → Keeps known left → HasItems finished bytes left (xs ++ [])
items_kept true bytes known left xs goes so keeps = absurd (false≢true (sym goes))
items_kept false None known left xs goes so keeps = tt
items_kept false (Some all) None left xs goes so keeps = absurd so
items_kept false (Some all) (Some rest) None xs goes so keeps = absurd keeps
items_kept false (Some all) (Some rest) (Some same) xs goes so keeps =
    subst (λ (l : List Exchange). BeginsWithItems all l same) (sym (append-nil xs)) (subst (λ (t : List ℕ). BeginsWithItems all xs t) (sym keeps) so)

-- a connection may be broken off at any point
pub broken : (finished : Bool) (bytes rest old new : Option (List ℕ)) (xs : List Exchange) (u : List ℕ) → HasItems finished bytes rest xs → SendsPrefix old new xs u
    → IsServed false bytes old new xs
broken finished bytes rest old new xs u so w = (first finished bytes rest xs so, (u, w))
  where
    first : (finished : Bool) (bytes rest : Option (List ℕ)) (xs : List Exchange) → HasItems finished bytes rest xs → IfSome bytes (λ all. AreFirstItems all xs)
    first true None rest xs so = tt
    first true (Some all) rest xs so = inl so
    first false None rest xs so = tt
    first false (Some all) None xs so = absurd so
    first false (Some all) (Some left) xs so = inr (left, so)

output_same : (old new : Option (List ℕ)) (xs : List Exchange) (u v : List ℕ) → Appends (Some u) (Some v) [] → SendsPrefix old new xs u → SendsPrefix old new (xs ++ []) v
output_same old new xs u v e w =
    subst (λ (l : List Exchange). SendsPrefix old new l v) (sym (append-nil xs)) (subst (λ (t : List ℕ). SendsPrefix old new xs t) (sym (e ∙ append-nil u)) w)

-- no item is served
pub same_connection : (finished : Bool) (bytes rest old new : Option (List ℕ)) (xs : List Exchange) (u : List ℕ)
    → HasItems finished bytes rest xs × SendsPrefix old new xs u → HasItems finished bytes rest (xs ++ []) × SendsPrefix old new (xs ++ []) u
same_connection finished bytes rest old new xs u fits =
    subst (λ (l : List Exchange). HasItems finished bytes rest l × SendsPrefix old new l u) (sym (append-nil xs)) fits

-- what an item adds, of a connection whose other parts are the same
pub carried : {C : Type 0} (reads : C → ℤ → C → Type 0) (stood stands : State C → Type 0) (finished later : Bool) (known new new_later : Option (List ℕ)) (u : List ℕ)
    (after : (bytes old : Option (List ℕ)) → List Exchange → Type 0) → later ≡ finished → new_later ≡ new
    → ForwardSimulation stood stands (λ from to. (added : List Exchange) × AnswersItems reads from added to × (65536 < length u → added ≡ [])
    × ((bytes old : Option (List ℕ)) (xs : List Exchange) → HasItems later bytes known xs × SendsPrefix old new_later xs u → after bytes old (xs ++ added)))
    → ForwardSimulation stood stands (λ from to. (added : List Exchange) × AnswersItems reads from added to × (65536 < length u → added ≡ [])
    × ((bytes old : Option (List ℕ)) (xs : List Exchange) → HasItems finished bytes known xs × SendsPrefix old new xs u → after bytes old (xs ++ added)))
carried reads stood stands finished later known new new_later u after same same_writer brings from at =
    let it = brings from at in (
      it.0,
      (
        it.1.0,
        it.1.1,
        it.1.2,
        λ bytes old xs fits. it.1.3 bytes old xs (
          subst (λ (b : Bool). HasItems b bytes known xs) (sym same) fits.0,
          subst (λ (w : Option (List ℕ)). SendsPrefix old w xs u) (sym same_writer) fits.1,
        ),
      ),
      it.2,
    )

module _ {C : Type 0} (reads : C → ℤ → C → Type 0) (honest : Type 0) (trust : honest) (stood stands : State C → Type 0)
    (starts_open : (s : State C) → stood s → s.closed ≡ false)
    (finished : Bool) (known left new : Option (List ℕ)) (u v : List ℕ) (small : length u ≤ 65536) where
  -- what an item adds to a connection
  abbrev pub AddsItem : (after : (bytes old : Option (List ℕ)) → List Exchange → Type 0) → Type 0
  AddsItem after = ForwardSimulation stood stands (λ from to. (added : List Exchange) × AnswersItems reads from added to
      × (65536 < length u → added ≡ [])
      × ((bytes old : Option (List ℕ)) (xs : List Exchange) → HasItems finished bytes known xs × SendsPrefix old new xs u → after bytes old (xs ++ added)))

  abbrev pub Serves : Result AfterItem DeskFault → Type 0
  Serves result = ForwardSimulation stood stands (λ from to. ServesNext (StepIfHonest honest reads) known left from to (Some u) (Some v) result)

  not_full : (added : List Exchange) → 65536 < length u → added ≡ []
  not_full added full = absurd (too_many full)
    where
      too_many : 65536 < length u → ⊥
      too_many full = omega (arith, full, small)

  pub item_more : (t : AfterItem) → t ≡ next_item.KeepAlive → finished ≡ false → Serves (Ok t)
      → AddsItem (λ bytes old xs. HasItems finished bytes left xs × SendsPrefix old new xs v)
  item_more t is goes brings from at =
      let it = brings from at in
      let one = subst (λ (r : AfterItem). ServesNext (StepIfHonest honest reads) known left from it.0 (Some u) (Some v) (Ok r)) is it.1 in (
        it.0,
        (
          one.0 ∷ [],
          (it.0, starts_open from at, answers_honestly reads honest trust from one.0 it.0 one.1, refl),
          not_full (one.0 ∷ []),
          λ bytes old xs fits. (items_more finished bytes known left xs one.0 goes fits.0 one.2 one.3, output_more old new xs one.0 u v one.4 fits.1),
        ),
        it.2,
      )

  pub item_last : (t : AfterItem) → t ≡ next_item.Close → finished ≡ false → Serves (Ok t)
      → AddsItem (λ bytes old xs. HasItems true bytes left xs × SendsPrefix old new xs v)
  item_last t is goes brings from at =
      let it = brings from at in
      let one = subst (λ (r : AfterItem). ServesNext (StepIfHonest honest reads) known left from it.0 (Some u) (Some v) (Ok r)) is it.1 in (
        it.0,
        (
          one.0 ∷ [],
          (it.0, starts_open from at, answers_honestly reads honest trust from one.0 it.0 one.1, refl),
          not_full (one.0 ∷ []),
          λ bytes old xs fits. (items_last finished bytes known xs one.0 goes fits.0 one.2 one.3, output_more old new xs one.0 u v one.4 fits.1),
        ),
        it.2,
      )

  pub item_end : (t : AfterItem) → t ≡ next_item.Eof → finished ≡ false → Serves (Ok t)
      → AddsItem (λ bytes old xs. HasItems true bytes left xs × SendsPrefix old new xs v)
  item_end t is goes brings from at =
      let it = brings from at in
      let one = subst (λ (r : AfterItem). ServesNext (StepIfHonest honest reads) known left from it.0 (Some u) (Some v) (Ok r)) is it.1 in (
        it.0,
        (
          [],
          one.1,
          not_full [],
          λ bytes old xs fits. (items_end finished bytes known xs goes fits.0 one.0, output_same old new xs u v one.2 fits.1),
        ),
        it.2,
      )

  pub item_later : (e : DeskFault) → e ≡ desk.Read → finished ≡ false → Serves (Err e)
      → AddsItem (λ bytes old xs. HasItems finished bytes left xs × SendsPrefix old new xs v)
  item_later e is goes brings from at =
      let it = brings from at in
      let one = subst (λ (r : DeskFault). ServesNext (StepIfHonest honest reads) known left from it.0 (Some u) (Some v) (Err r)) is it.1 in (
        it.0,
        (
          [],
          one.0,
          not_full [],
          λ bytes old xs fits. (items_kept finished bytes known left xs goes fits.0 one.1, output_same old new xs u v one.2 fits.1),
        ),
        it.2,
      )

  pub item_broken : (e : DeskFault) → e ≡ desk.Write → finished ≡ false → Serves (Err e)
      → AddsItem (λ bytes old xs. IsServed false bytes old new xs)
  item_broken e is goes brings from at =
      let it = brings from at in
      let one = subst (λ (r : DeskFault). ServesNext (StepIfHonest honest reads) known left from it.0 (Some u) (Some v) (Err r)) is it.1 in (
        it.0,
        (
          one.0 ∷ [],
          (it.0, starts_open from at, answers_honestly reads honest trust from one.0 it.0 one.1, refl),
          not_full (one.0 ∷ []),
          λ bytes old xs fits. (items_one finished bytes known xs one.0 goes fits.0 one.2, (u ++ one.0.sent, output_more old new xs one.0 u (u ++ one.0.sent) refl fits.1)),
        ),
        it.2,
      )

  -- nothing was answered, and the connection ends
  pub item_dropped : (e : DeskFault) → e ≡ desk.NoMemory → finished ≡ false → Serves (Err e)
      → AddsItem (λ bytes old xs. IsServed false bytes old new xs)
  item_dropped e is goes brings from at =
      let it = brings from at in
      let one = subst (λ (r : DeskFault). ServesNext (StepIfHonest honest reads) known left from it.0 (Some u) (Some v) (Err r)) is it.1 in (
        it.0,
        (
          [],
          one.0,
          not_full [],
          λ bytes old xs fits.
              broken finished bytes left old new (xs ++ []) v (items_kept finished bytes known left xs goes fits.0 one.1) (output_same old new xs u v one.2 fits.1),
        ),
        it.2,
      )

  -- the same after a failed read
  pub item_unread : (e : DeskFault) → e ≡ desk.Read → finished ≡ false → Serves (Err e)
      → AddsItem (λ bytes old xs. IsServed false bytes old new xs)
  item_unread e is goes brings from at =
      let it = item_later e is goes brings from at in (
        it.0,
        (
          it.1.0,
          it.1.1,
          it.1.2,
          λ bytes old xs fits. (let so = it.1.3 bytes old xs fits in broken finished bytes left old new (xs ++ it.1.0) v so.0 so.1),
        ),
        it.2,
      )
