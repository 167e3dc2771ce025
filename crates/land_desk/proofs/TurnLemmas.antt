-- Serving the first item of a stream.
use Rattle.std.proofs.Common.{◌≡◌, ◌≢◌, ℕ, ◌+◌, Bool, true, false, List, [], ◌++◌, take, drop, refl, sym, ◌∙◌, ap, subst, Result, Ok, Err, Option, Some, None, IfSome}
use Rattle.std.specs.Prelude.{◌⊎◌}
use Rattle.std.specs.Io.KnownBytes.{Appends, Keeps, prepend_known}
use Rattle.std.proofs.KnownBytes.{Appends-nil}
use Rattle.std.proofs.lemmas.Bool.{false≢true}
use Rattle.httparse.specs.declared.spans.HeaderSpan.{HeaderSpan}
use Rattle.httparse.specs.declared.spans.RequestSpans.{RequestSpans}
use Rattle.land_core.specs.declared.ask.Request.{Request}
use Rattle.land_desk.specs.Serving.{AnswersItem, Exchange, ForwardSimulation, HandlesOr501, is_closing}
use Rattle.land_desk.specs.Serving.Asking.{IfBoth}
use Rattle.land_desk.specs.Turns.{IsResponseTo, AnswersFirst, ServesNext, SendsResponse, wire_bytes, after_reply}
use Rattle.land_desk.specs.declared.handler.Response.{Response}
use Rattle.land_desk.specs.declared.serve.DeskFault.{DeskFault}
use Rattle.land_desk.specs.declared.serve.DeskFault.TheVariants as desk
use Rattle.land_desk.specs.declared.next_item.AfterItem.{AfterItem}
use Rattle.land_desk.specs.declared.next_item.AfterItem.TheVariants as next_item
use Rattle.land_keep.specs.Machine.{State}
use Rattle.land_keep.specs.declared.reply.Reply.{Reply}
use Rattle.land_keep.specs.declared.reply.Reply.TheVariants as reply
use Rattle.land_wire.proofs.ItemLemmas.{request_of}
use Rattle.land_wire.specs.Fields.{field_map}
use Rattle.land_wire.specs.Framing.Frame.{header_fields, wants_close, is_head}
use Rattle.land_wire.specs.Framing.FrameFaults.{frame_fault_number}
use Rattle.land_wire.specs.Framing.Items.{request, faulty, IsItem, IsNextOf, IsRequestIn}
use Rattle.land_wire.specs.Reading.{request_reading}
use Rattle.land_wire.specs.declared.framing.frame_fault.FrameFault.{FrameFault}
use Rattle.land_wire.specs.declared.framing.item.NextItem.{NextItem}
use Rattle.land_wire.specs.declared.framing.item.NextItem.TheVariants as front

module _ {C : Type 0} (step : State C → Request → Reply → State C → Type 0) where
  -- the request at the start of the buffer, with its response
  pub spoken : (bytes more : List ℕ) (headers : List HeaderSpan) (spans : RequestSpans) (n : ℕ) (from to : State C) (a : Response) (r : Reply) (close_after head : Bool)
      → (is : IsRequestIn bytes headers spans n) → close_after ≡ wants_close is.1.0 → head ≡ is_head is.1.0
      → HandlesOr501 step (request_reading is.1.0.method is.1.0.target (field_map (header_fields is.1.0)) (take n (drop spans.len bytes))) from r to
      → IsResponseTo a r close_after head
      → AnswersFirst step (bytes ++ more) from a (drop (spans.len + n) bytes ++ more) to
  spoken bytes more headers spans n from to a r close_after head is ending heading told given =
      let h = is.1.0 in
      let answer = subst (λ (b : Bool). IsResponseTo a r b (is_head h)) ending (subst (λ (b : Bool). IsResponseTo a r close_after b) heading given) in (
        record { item = request h (take n (drop spans.len bytes)); reply = r; sent = wire_bytes a.bytes },
        (request_of bytes more headers spans n is, told, answer.0),
        refl,
        sym answer.1,
      )

  lift : (start now : Option (List ℕ)) (P : List ℕ → Type 0) → Keeps start now → IfSome now P → IfSome start P
  lift None now P keeps holds = tt
  lift (Some bytes) None P keeps holds = absurd keeps
  lift (Some bytes) (Some same) P keeps holds = subst P keeps holds

  if_map : (now : Option (List ℕ)) (P Q : List ℕ → Type 0) → ((bytes : List ℕ) → P bytes → Q bytes) → IfSome now P → IfSome now Q
  if_map None P Q next holds = tt
  if_map (Some bytes) P Q next holds = next bytes holds

  -- an exchange is over once its response was sent; the connection stays open if the response does not close it
  sends_all : (input left u v : Option (List ℕ)) (from to : State C) (x : Exchange) (closes : Bool) → is_closing x ≡ closes → AnswersItem step from x to
      → IfSome input (λ bytes. (rest : List ℕ) × IsItem bytes x.item rest)
      → (closes ≡ false → IfBoth input left (λ bytes rest. IsItem bytes x.item rest))
      → Appends u v x.sent → ServesNext step input left from to u v (Ok (after_reply closes))
  sends_all input left u v from to x true is answers item more wrote = (x, answers, item, is, wrote)
  sends_all input left u v from to x false is answers item more wrote = (x, answers, more refl, is, wrote)

  sends_exchange : (input left u v : Option (List ℕ)) (from to : State C) (x : Exchange) (a : Response) (result : Result AfterItem DeskFault)
      → AnswersItem step from x to → x.sent ≡ wire_bytes a.bytes → is_closing x ≡ a.close_after
      → IfSome input (λ bytes. (rest : List ℕ) × IsItem bytes x.item rest)
      → (a.close_after ≡ false → IfBoth input left (λ bytes rest. IsItem bytes x.item rest))
      → SendsResponse (wire_bytes a.bytes) a.close_after u v result → ServesNext step input left from to u v result
  sends_exchange input left u v from to x a (Ok t) answers sent closes item more wrote =
      subst (λ (t : AfterItem). ServesNext step input left from to u v (Ok t)) (sym wrote.0)
      (sends_all input left u v from to x a.close_after closes answers item more (subst (λ (t : List ℕ). Appends u v t) (sym sent) wrote.1))
  sends_exchange input left u v from to x a (Err desk.Write) answers sent closes item more wrote =
      (x, answers, item, wrote.0, subst (λ (t : List ℕ). Appends u v (take wrote.0 t)) (sym sent) wrote.1)
  sends_exchange input left u v from to x a (Err desk.Read) answers sent closes item more wrote = absurd wrote
  sends_exchange input left u v from to x a (Err desk.NoMemory) answers sent closes item more wrote = absurd wrote

  -- the input ended
  pub serves_eof : (start now left w : Option (List ℕ)) (fr : NextItem) (from : State C) → fr ≡ front.End → Keeps start now → IfSome now (λ s. IsNextOf s fr)
      → ServesNext step start left from from w w (Ok next_item.Eof)
  serves_eof start now left w fr from is keeps item = (
    lift start now (λ bytes. bytes ≡ []) keeps (if_map now (λ s. IsNextOf s fr) (λ s. s ≡ []) (λ s h. subst (λ (x : NextItem). IsNextOf s x) is h) item),
    refl,
    Appends-nil w,
  )

  -- the response to a fault of framing
  abbrev IsRejection : FrameFault → Response → Type 0
  IsRejection f a = (r : Reply) × ((r ≡ reply.Fault (frame_fault_number f)) ⊎ (r ≡ reply.Store 501)) × IsResponseTo a r true false

  pub serves_framing_fault : (start now left u v : Option (List ℕ)) (fr : NextItem) (f : FrameFault) (a : Response) (from : State C) (result : Result AfterItem DeskFault)
      → fr ≡ front.Fault f → Keeps start now → IfSome now (λ s. IsNextOf s fr) → IsRejection f a → SendsResponse (wire_bytes a.bytes) a.close_after u v result
      → ServesNext step start left from from u v result
  serves_framing_fault start now left u v fr f a from result is keeps item refusal wrote =
      sends_exchange start left u v from from (record { item = faulty f; reply = refusal.0; sent = wire_bytes a.bytes }) a result
      ((refusal.1, refl), refusal.2.0) refl (sym refusal.2.1)
      (lift start now (λ bytes. (rest : List ℕ) × IsItem bytes (faulty f) rest) keeps
      (if_map now (λ s. IsNextOf s fr) (λ s. (rest : List ℕ) × IsItem s (faulty f) rest) (λ s h. ([], subst (λ (x : NextItem). IsNextOf s x) is h)) item))
      (λ e. absurd (false≢true (sym e ∙ refusal.2.1))) wrote

  pub serves_request : (start known u v : Option (List ℕ)) (items rest new : List ℕ) (a : Response) (stood stands : State C → Type 0) (result : Result AfterItem DeskFault)
      → Keeps start (prepend_known items known)
      → ((more : List ℕ) → ForwardSimulation stood stands (λ from to. AnswersFirst step (items ++ more) from a (rest ++ more) to))
      → new ≡ rest → SendsResponse (wire_bytes a.bytes) a.close_after u v result
      → ForwardSimulation stood stands (λ from to. ServesNext step start (prepend_known new known) from to u v result)
  serves_request None known u v items rest new a stood stands result keeps it is wrote = λ from at.
      let next = it [] from at in
      let one = next.1 in (
        next.0,
        sends_exchange None (prepend_known new known) u v from next.0 one.0 a result (one.1.1, one.1.2) one.2 one.3 tt (λ e. tt) wrote,
        next.2,
      )
  serves_request (Some bytes) None u v items rest new a stood stands result keeps it is wrote = absurd keeps
  serves_request (Some bytes) (Some more) u v items rest new a stood stands result keeps it is wrote = λ from at.
      let next = it more from at in
      let one = next.1 in
      let item = subst (λ (t : List ℕ). IsItem t one.0.item (rest ++ more)) keeps one.1.0 in (
        next.0,
        sends_exchange (Some bytes) (Some (new ++ more)) u v from next.0 one.0 a result (one.1.1, one.1.2) one.2 one.3 (rest ++ more, item)
            (λ e. subst (λ (t : List ℕ). IsItem bytes one.0.item (t ++ more)) (sym is) item) wrote,
        next.2,
      )
