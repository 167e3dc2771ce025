-- How far the reader of a stream is read.
use Rattle.std.proofs.Common.{◌≡◌, ◌≤◌, ◌<◌, ◌+◌, ◌∙◌, ◌⊎◌, ap, append_assoc, arith, inl, inr, refl, subst, sym, ℕ, Bool, true, false, List, [], ◌∷◌, ◌++◌, drop, length, length-append, length-drop, map, take, take-append-drop, Result, Ok, Err, Option, Some, None, IfErr, IfOk, IfSome}
use Rattle.std.specs.Prelude.{◌||◌}
use Rattle.std.specs.Io.KnownBytes.{Keeps, prepend_known}
use Rattle.std.proofs.lemmas.Bool.{false≢true}
use Rattle.std.proofs.lemmas.List.{drop-append-le, length-map, nil_from_length}
use Rattle.httparse.specs.declared.spans.HeaderSpan.{HeaderSpan}
use Rattle.httparse.specs.declared.spans.RequestSpans.{RequestSpans}
use Rattle.land_core.specs.declared.ask.Request.{Request}
use Rattle.land_desk.specs.Serving.{Exchange, ServesPrefix, HasServed, closes}
use Rattle.land_desk.specs.Serving.Asking.{ReadsForItems, ReadsForFirst, BeginsWith, IfBoth, ReadsNoFurther, TakesAtMost}
use Rattle.land_desk.specs.Turns.{ReadsForNext, SpendsReadBudget, SendsResponse}
use Rattle.land_desk.specs.declared.serve.DeskFault.{DeskFault}
use Rattle.land_desk.specs.declared.serve.DeskFault.TheVariants as desk
use Rattle.land_desk.specs.declared.serve.Served.{Served}
use Rattle.land_desk.specs.declared.next_item.AfterItem.{AfterItem}
use Rattle.land_desk.specs.declared.next_item.AfterItem.TheVariants as next_item
use Rattle.land_keep.specs.Machine.{State}
use Rattle.land_keep.specs.declared.reply.Reply.{Reply}
use Rattle.land_wire.proofs.ItemLemmas.{request_takes}
use Rattle.land_wire.specs.Framing.Items.{Item, request, faulty, IsNextIn, IsNextOf, ReadsUpTo, is_last}
use Rattle.land_wire.specs.declared.framing.frame_fault.FrameFault.{FrameFault}
use Rattle.land_wire.specs.declared.framing.item.NextItem.{NextItem}
use Rattle.land_wire.specs.declared.framing.item.NextItem.TheVariants as front

-- ---- the number of bytes taken

-- nothing is taken
pub none_taken : (known : Option (List ℕ)) (most : ℕ) → IfBoth known known (TakesAtMost most)
none_taken None most = tt
none_taken (Some bytes) most = ([], refl, omega arith)

-- bytes are read ahead, and none is consumed
pub none_gone : (start left : Option (List ℕ)) (buffer : List ℕ) (could can : ℕ) → Keeps start (prepend_known buffer left) → length buffer + can ≤ could
    → IfBoth start (prepend_known buffer left) (SpendsReadBudget could (length buffer + can))
none_gone None left buffer could can keeps bound = tt
none_gone (Some bytes) None buffer could can keeps bound = absurd keeps
none_gone (Some bytes) (Some rest) buffer could can keeps bound = ([], sym keeps, omega (arith, bound))

-- a prefix of the bytes read ahead is consumed
pub front_gone : (start left : Option (List ℕ)) (buffer new : List ℕ) (n could can : ℕ) → Keeps start (prepend_known buffer left)
    → length buffer + can ≤ could → new ≡ drop n buffer → IfBoth start (prepend_known new left) (SpendsReadBudget could (length new + can))
front_gone None left buffer new n could can keeps bound is = tt
front_gone (Some bytes) None buffer new n could can keeps bound is = absurd keeps
front_gone (Some bytes) (Some rest) buffer new n could can keeps bound is =
    let whole : buffer ≡ take n buffer ++ new = sym (take-append-drop n buffer) ∙ ap (λ (t : List ℕ). take n buffer ++ t) (sym is) in (
      take n buffer,
      sym keeps ∙ ap (λ (t : List ℕ). t ++ rest) whole ∙ append_assoc (take n buffer) new rest,
      omega (arith, bound, ap length whole, length-append (take n buffer) new),
    )

-- nothing is consumed yet
pub spends_nothing : (known : Option (List ℕ)) (buffer : List ℕ) (can : ℕ) → buffer ≡ [] → IfBoth known (prepend_known buffer known) (SpendsReadBudget can (length buffer + can))
spends_nothing None buffer can none = tt
spends_nothing (Some bytes) buffer can none = ([], sym (ap (λ (t : List ℕ). t ++ bytes) none), omega (arith, ap length none))

pub spent_on : (start before after : Option (List ℕ)) (a b c : ℕ) → IfBoth start before (SpendsReadBudget a b) → IfBoth before after (SpendsReadBudget b c) → IfBoth start after (SpendsReadBudget a c)
spent_on None before after a b c so next = tt
spent_on (Some bytes) None after a b c so next = absurd so
spent_on (Some bytes) (Some mid) None a b c so next = absurd next
spent_on (Some bytes) (Some mid) (Some rest) a b c so next =
    (so.0 ++ next.0, so.1 ∙ ap (λ (t : List ℕ). so.0 ++ t) next.1 ∙ sym (append_assoc so.0 next.0 rest), omega (arith, so.2, next.2, length-append so.0 next.0))

-- the bytes read ahead are taken too
pub spent_all : (start left : Option (List ℕ)) (buffer : List ℕ) (could can : ℕ) → IfBoth start (prepend_known buffer left) (SpendsReadBudget could (length buffer + can))
    → IfBoth start left (SpendsReadBudget could can)
spent_all None left buffer could can so = tt
spent_all (Some bytes) None buffer could can so = absurd so
spent_all (Some bytes) (Some rest) buffer could can so =
    (so.0 ++ buffer, so.1 ∙ sym (append_assoc so.0 buffer rest), omega (arith, so.2, length-append so.0 buffer))

pub taken_at_most : (start left : Option (List ℕ)) (could can : ℕ) → IfBoth start left (SpendsReadBudget could can) → IfBoth start left (TakesAtMost could)
taken_at_most None left could can so = tt
taken_at_most (Some bytes) None could can so = absurd so
taken_at_most (Some bytes) (Some rest) could can so = (so.0, so.1, omega (arith, so.2))

-- ---- reading for one item

-- reading the item failed
pub not_read : (start left : Option (List ℕ)) (buffer : List ℕ) (e : DeskFault) → Keeps start (prepend_known buffer left)
    → IfBoth start left (λ bytes rest. ReadsForNext bytes buffer rest (Err e))
not_read None left buffer e keeps = tt
not_read (Some bytes) None buffer e keeps = absurd keeps
not_read (Some bytes) (Some rest) buffer e keeps = tt

none_behind : (buffer rest : List ℕ) → buffer ++ rest ≡ [] → rest ≡ []
none_behind buffer rest e = nil_from_length rest (omega (arith, length-append buffer rest, ap length e))

-- the input ended
pub eof_reads : (start left : Option (List ℕ)) (buffer : List ℕ) (fr : NextItem) → fr ≡ front.End → Keeps start (prepend_known buffer left)
    → IfSome (prepend_known buffer left) (λ s. IsNextOf s fr) → IfBoth start left (λ bytes rest. ReadsForNext bytes buffer rest (Ok next_item.Eof))
eof_reads None left buffer fr is keeps item = tt
eof_reads (Some bytes) None buffer fr is keeps item = absurd keeps
eof_reads (Some bytes) (Some rest) buffer fr is keeps item =
    let none = subst (λ (x : NextItem). IsNextOf (buffer ++ rest) x) is item in
    (sym keeps ∙ none, none_behind buffer rest none)

-- the item was the last one read, or the connection stays open with less than 1024 bytes read ahead
after_item : (bytes buffer left text : List ℕ) (close_after : Bool) (u v : Option (List ℕ)) (result : Result AfterItem DeskFault) → ReadsForFirst bytes left
    → (close_after ≡ false → length buffer < 1024) → SendsResponse text close_after u v result → ReadsForNext bytes buffer left result
after_item bytes buffer left text true u v (Ok t) asks short wrote = subst (λ (t : AfterItem). ReadsForNext bytes buffer left (Ok t)) (sym wrote.0) asks
after_item bytes buffer left text false u v (Ok t) asks short wrote = subst (λ (t : AfterItem). ReadsForNext bytes buffer left (Ok t)) (sym wrote.0) (short refl)
after_item bytes buffer left text close_after u v (Err e) asks short wrote = tt

pub fault_reads : (start left u v : Option (List ℕ)) (buffer text : List ℕ) (fr : NextItem) (f : FrameFault) (close_after : Bool) (result : Result AfterItem DeskFault)
    → fr ≡ front.Fault f → Keeps start (prepend_known buffer left) → IfSome (prepend_known buffer left) (λ s. IsNextOf s fr) → ReadsUpTo buffer fr
    → close_after ≡ true → SendsResponse text close_after u v result → IfBoth start left (λ bytes rest. ReadsForNext bytes buffer rest result)
fault_reads None left u v buffer text fr f close_after result is keeps item read wants_close wrote = tt
fault_reads (Some bytes) None u v buffer text fr f close_after result is keeps item read wants_close wrote = absurd keeps
fault_reads (Some bytes) (Some rest) u v buffer text fr f close_after result is keeps item read wants_close wrote =
    let here = subst (λ (x : NextItem). IsNextOf (buffer ++ rest) x) is item in
    let much = subst (λ (x : NextItem). ReadsUpTo buffer x) is read in
    let asks : ReadsNoFurther (buffer ++ rest) (faulty f) [] rest = elim much as (λ _. ReadsNoFurther (buffer ++ rest) (faulty f) [] rest) [
      | inl cut ↦ inl cut
      | inr just ↦ inr (buffer, refl, just)
    ] in
    after_item bytes buffer rest text close_after u v result (subst (λ (t : List ℕ). ReadsForFirst t rest) keeps (faulty f, [], here, asks))
    (λ more. absurd (false≢true (sym more ∙ wants_close))) wrote

-- after a request that was read no further than required
request_one : (buffer rest : List ℕ) (spans : RequestSpans) (n : ℕ) → IsNextOf (buffer ++ rest) (front.Request spans n) → spans.len + n ≤ length buffer
    → length buffer < spans.len + n + 1024 → ReadsForFirst (buffer ++ rest) rest
request_one buffer rest spans n item inside short = (
  request item.0 (take n (drop spans.len (buffer ++ rest))),
  drop (spans.len + n) (buffer ++ rest),
  item.1,
  (drop (spans.len + n) buffer, drop-append-le (spans.len + n) buffer rest inside, omega (arith, short, length-drop (spans.len + n) buffer)),
)

pub request_reads : (start left u v : Option (List ℕ)) (buffer new text : List ℕ) (headers : List HeaderSpan) (fr : NextItem) (spans : RequestSpans) (n : ℕ) (close_after : Bool)
    (result : Result AfterItem DeskFault) → fr ≡ front.Request spans n → Keeps start (prepend_known buffer left) → IfSome (prepend_known buffer left) (λ s. IsNextOf s fr)
    → IsNextIn buffer headers fr → ReadsUpTo buffer fr → new ≡ drop (spans.len + n) buffer → SendsResponse text close_after u v result
    → IfBoth start left (λ bytes rest. ReadsForNext bytes new rest result)
request_reads None left u v buffer new text headers fr spans n close_after result is keeps item at read gone wrote = tt
request_reads (Some bytes) None u v buffer new text headers fr spans n close_after result is keeps item at read gone wrote = absurd keeps
request_reads (Some bytes) (Some rest) u v buffer new text headers fr spans n close_after result is keeps item at read gone wrote =
    let here = subst (λ (x : NextItem). IsNextOf (buffer ++ rest) x) is item in
    let inside = subst (λ (x : NextItem). IsNextIn buffer headers x) is at in
    let much = subst (λ (x : NextItem). ReadsUpTo buffer x) is read in
    after_item bytes new rest text close_after u v result (subst (λ (t : List ℕ). ReadsForFirst t rest) keeps (request_one buffer rest spans n here inside.2 much))
    (λ more. omega (arith, much, inside.2, ap length gone, length-drop (spans.len + n) buffer)) wrote

-- ---- reading for all items

module _ {C : Type 0} (step : State C → Request → Reply → State C → Type 0) where
  items_begin : (bytes : List ℕ) (from : State C) (xs : List Exchange) (rest : List ℕ) (now : State C) → ServesPrefix step bytes from xs rest now
      → BeginsWith bytes (map (λ x. x.item) xs) rest
  items_begin bytes from [] rest now so = so.0
  items_begin bytes from (x ∷ xs) rest now so = (so.0, so.2.0, items_begin so.0 so.1 xs rest now so.4)

  -- nothing remains after the last request
  none_after : (item : Item) (closed : Bool) (bytes mid left : List ℕ) → (is_last item || closed) ≡ false → mid ≡ [] → left ≡ []
      → ReadsNoFurther bytes item mid left
  none_after (request h body) closed bytes mid left stays none all = ([], none ∙ sym all, omega arith)
  none_after (faulty f) closed bytes mid left stays none all = absurd (false≢true (sym stays))

  last_asked : (bytes left : List ℕ) (from : State C) (x : Exchange) (xs : List Exchange) (rest : List ℕ) (now : State C)
      → ServesPrefix step bytes from (x ∷ xs) rest now → rest ≡ [] → left ≡ []
      → (items : List Item) × (at_last : List ℕ) × BeginsWith bytes items at_last × (length items ≡ length xs) × ReadsForFirst at_last left
  last_asked bytes left from x [] rest now so none all =
      ([], bytes, refl, refl, (x.item, so.0, so.2.0, none_after x.item (closes x.reply) bytes so.0 left so.3 (sym so.4.0 ∙ none) all))
  last_asked bytes left from x (y ∷ ys) rest now so none all =
      let more = last_asked so.0 left so.1 y ys rest now so.4 none all in
      (x.item ∷ more.0, more.1, (so.0, so.2.0, more.2), omega (arith, more.3), more.4)

  reads_to_end : (bytes left : List ℕ) (from : State C) (xs : List Exchange) (rest : List ℕ) (now : State C) (n : ℕ)
      → ServesPrefix step bytes from xs rest now → rest ≡ [] → left ≡ [] → length xs ≡ n → ReadsForItems n bytes left
  reads_to_end bytes left from [] rest now n so none all count = inl (sym count, all)
  reads_to_end bytes left from (x ∷ xs) rest now n so none all count =
      let it = last_asked bytes left from x xs rest now so none all in
      inr (it.0, it.1, it.2, omega (arith, it.3, count), it.4)

  module _ (from : State C) (stood : State C → Type 0) where
    -- the input ended
    pub asked_to_end : (start before left w u : Option (List ℕ)) (old new : List ℕ) (n : ℕ) (t : AfterItem) → t ≡ next_item.Eof
        → IfBoth start before (λ bytes rest. (now : State C) × HasServed step bytes rest from now w u n × stood now)
        → IfBoth start before (λ bytes rest. length old ≤ 1024)
        → (length old ≤ 1024 → IfBoth before left (λ rest after. ReadsForNext rest new after (Ok t)))
        → IfBoth start left (λ bytes after. ReadsForItems n bytes after)
    asked_to_end None before left w u old new n t is so short asked = tt
    asked_to_end (Some bytes) None left w u old new n t is so short asked = absurd so
    asked_to_end (Some bytes) (Some rest) None w u old new n t is so short asked = absurd (asked short)
    asked_to_end (Some bytes) (Some rest) (Some after) w u old new n t is so short asked =
        let one = subst (λ (r : AfterItem). ReadsForNext rest new after (Ok r)) is (asked short) in
        reads_to_end bytes after from so.1.0 rest so.0 n so.1.1 one.0 one.1 so.1.3

    -- the connection closed
    pub asked_to_last : (start before left w u : Option (List ℕ)) (old new : List ℕ) (n : ℕ) (t : AfterItem) → t ≡ next_item.Close
        → IfBoth start before (λ bytes rest. (now : State C) × HasServed step bytes rest from now w u n × stood now)
        → IfBoth start before (λ bytes rest. length old ≤ 1024)
        → (length old ≤ 1024 → IfBoth before left (λ rest after. ReadsForNext rest new after (Ok t)))
        → IfBoth start left (λ bytes after. ReadsForItems (n + 1) bytes after)
    asked_to_last None before left w u old new n t is so short asked = tt
    asked_to_last (Some bytes) None left w u old new n t is so short asked = absurd so
    asked_to_last (Some bytes) (Some rest) None w u old new n t is so short asked = absurd (asked short)
    asked_to_last (Some bytes) (Some rest) (Some after) w u old new n t is so short asked =
        let one = subst (λ (r : AfterItem). ReadsForNext rest new after (Ok r)) is (asked short) in
        let items = map (λ (x : Exchange). x.item) so.1.0 in
        inr (items, rest, items_begin bytes from so.1.0 rest so.0 so.1.1, omega (arith, so.1.3, length-map so.1.0 (λ (x : Exchange). x.item)), one)

-- less than 1024 bytes are read ahead if the connection stays open
pub kept_short : (start before left : Option (List ℕ)) (old new : List ℕ) (t : AfterItem) → t ≡ next_item.KeepAlive → IfBoth start before (λ bytes rest. length old ≤ 1024)
    → (length old ≤ 1024 → IfBoth before left (λ rest after. ReadsForNext rest new after (Ok t)))
    → IfBoth start (prepend_known new left) (λ bytes rest. length new ≤ 1024)
kept_short None before left old new t is short asked = tt
kept_short (Some bytes) None left old new t is short asked = absurd short
kept_short (Some bytes) (Some rest) None old new t is short asked = absurd (asked short)
kept_short (Some bytes) (Some rest) (Some after) old new t is short asked =
    let one = subst (λ (r : AfterItem). ReadsForNext rest new after (Ok r)) is (asked short) in
    omega (arith, one)

pub begins_short : (known : Option (List ℕ)) (buffer : List ℕ) → buffer ≡ [] → IfBoth known (prepend_known buffer known) (λ bytes rest. length buffer ≤ 1024)
begins_short None buffer none = tt
begins_short (Some bytes) buffer none = omega (arith, ap length none)

-- ---- if serving failed, nothing is required of reading

abbrev pub Asks : Result Served DeskFault → List ℕ → List ℕ → Type 0
Asks result bytes left = IfOk result (λ served. ReadsForItems served.replies bytes left)

pub not_begun : (known : Option (List ℕ)) (e : DeskFault) → IfBoth known known (Asks (Err e))
not_begun None e = tt
not_begun (Some bytes) e = tt

pub broken_off : (start left : Option (List ℕ)) (buffer : List ℕ) (could can : ℕ) (e : DeskFault) → IfBoth start (prepend_known buffer left) (SpendsReadBudget could can)
    → IfBoth start left (Asks (Err e))
broken_off None left buffer could can e so = tt
broken_off (Some bytes) None buffer could can e so = absurd so
broken_off (Some bytes) (Some rest) buffer could can e so = tt

-- ---- an item after which the connection stays open leaves less to read

-- an answered request is removed from the buffer
pub request_gone : (buffer new : List ℕ) (headers : List HeaderSpan) (fr : NextItem) (spans : RequestSpans) (n could can : ℕ) → fr ≡ front.Request spans n
    → IsNextIn buffer headers fr → new ≡ drop (spans.len + n) buffer → length buffer + can ≤ could → length new + can < could
request_gone buffer new headers fr spans n could can is shown dropped bound =
    let here = subst (λ (x : NextItem). IsNextIn buffer headers x) is shown in
    omega (arith, bound, ap length dropped, length-drop (spans.len + n) buffer, request_takes buffer headers spans n here, here.2)

pub if_more : (P : Type 0) (result : Result AfterItem DeskFault) → P → IfOk result (λ t. t ≡ next_item.KeepAlive → P)
if_more P (Ok t) p = λ is. p
if_more P (Err e) p = tt

last_is_not_more : (P : Type 0) → next_item.Close ≡ next_item.KeepAlive → P
last_is_not_more P e = cc

-- no connection stays open after its last reply
pub none_more : (P : Type 0) (result : Result AfterItem DeskFault) (text : List ℕ) (close_after : Bool) (u v : Option (List ℕ)) → close_after ≡ true → SendsResponse text close_after u v result
    → IfOk result (λ t. t ≡ next_item.KeepAlive → P)
none_more P (Ok t) text true u v wants_close wrote = λ is. last_is_not_more P (sym wrote.0 ∙ is)
none_more P (Ok t) text false u v wants_close wrote = absurd (false≢true wants_close)
none_more P (Err e) text close_after u v wants_close wrote = tt

-- a failed write is not a failed read
pub none_unread : (P : Type 0) (result : Result AfterItem DeskFault) (text : List ℕ) (close_after : Bool) (u v : Option (List ℕ)) → SendsResponse text close_after u v result
    → IfErr result (λ e. e ≡ desk.Read → P)
none_unread P (Ok t) text close_after u v wrote = tt
none_unread P (Err desk.Write) text close_after u v wrote = λ is. cc
none_unread P (Err desk.Read) text close_after u v wrote = absurd wrote
none_unread P (Err desk.NoMemory) text close_after u v wrote = absurd wrote

-- the reader was called, or its budget was spent
pub called : (P : Type 0) (first before after : ℕ) → before ≤ first → ((after ≡ 0) ⊎ ((after < before) × P)) → (after ≡ 0) ⊎ (after < first)
called P first before after bound how = elim how as (λ _. (after ≡ 0) ⊎ (after < first)) [
  | inl spent ↦ inl spent
  | inr read ↦ inr (omega (arith, bound, read.0))
]

pub called_before : (first before after : ℕ) → before ≤ first → ((after ≡ 0) ⊎ (after < before)) → (after ≡ 0) ⊎ (after < first)
called_before first before after bound how = elim how as (λ _. (after ≡ 0) ⊎ (after < first)) [
  | inl spent ↦ inl spent
  | inr read ↦ inr (omega (arith, bound, read))
]
