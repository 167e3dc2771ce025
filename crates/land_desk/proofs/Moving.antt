-- The transitions that a stream causes, whether its bytes are known or not.
use Rattle.std.proofs.Common.{ℕ, List, [], ◌∷◌, ◌++◌, inl, inr, refl, subst, sym, Result, Ok, Err}
use Rattle.land_core.specs.declared.ask.Request.{Request}
use Rattle.land_desk.specs.Serving.{RepliesTo, ForwardSimulation, Exchange, Trace, MayStep, Reachable, ReachesSome, ServesItem, HandlesOr501}
use Rattle.land_keep.specs.Machine.{State}
use Rattle.land_keep.specs.declared.reply.Reply.{Reply}
use Rattle.land_wire.specs.Fields.{field_map}
use Rattle.land_wire.specs.Framing.Frame.{header_fields}
use Rattle.land_wire.specs.Framing.Items.{Item, request, faulty}
use Rattle.land_wire.specs.Reading.{request_reading}
use Rattle.land_wire_json.specs.declared.bodies.wire_fault.WireFault.{WireFault}

module _ {C : Type 0} (step : State C → Request → Reply → State C → Type 0) where
  told_heard : (q : Result Request WireFault) (from : State C) (r : Reply) (to : State C) → HandlesOr501 step q from r to → MayStep step from to
  told_heard (Err fault) from r to (inl none) = inl none.1
  told_heard (Err fault) from r to (inr heard) = inl heard.1
  told_heard (Ok asked) from r to (inl none) = inl none.1
  told_heard (Ok asked) from r to (inr heard) = inr (asked, r, heard)

  pub reply_steps : (from : State C) (item : Item) (r : Reply) (to : State C) → RepliesTo step from item r to → MayStep step from to
  reply_steps from (request h body) r to is = told_heard (request_reading h.method h.target (field_map (header_fields h)) body) from r to is
  reply_steps from (faulty f) r to is = inl is.1

  -- no transition
  pub reach_self : (from : State C) → Reachable step from from
  reach_self from = ([], [], refl)

  heard_last : (from : State C) (requests : List Request) (replies : List Reply) (now : State C) (asked : Request) (r : Reply) (to : State C)
      → Trace step from requests replies now → step now asked r to → Trace step from (requests ++ asked ∷ []) (replies ++ r ∷ []) to
  heard_last from [] [] now asked r to same heard = (to, subst (λ (s : State C). step s asked r to) same heard, refl)
  heard_last from (q ∷ requests) (a ∷ replies) now asked r to all heard = (all.0, all.1, heard_last all.0 requests replies now asked r to all.2 heard)
  heard_last from [] (a ∷ replies) now asked r to all heard = absurd all
  heard_last from (q ∷ requests) [] now asked r to all heard = absurd all

  reach_next : (from now to : State C) → Reachable step from now → MayStep step now to → Reachable step from to
  reach_next from now to so (inl same) = subst (λ (s : State C). Reachable step from s) (sym same) so
  reach_next from now to so (inr heard) =
      (so.0 ++ heard.0 ∷ [], so.1 ++ heard.1 ∷ [], heard_last from so.0 so.1 now heard.0 heard.1 to so.2 heard.2)

module _ {C : Type 0} (step later : State C → Request → Reply → State C → Type 0)
    (weaken : (from : State C) (asked : Request) (r : Reply) (to : State C) → step from asked r to → later from asked r to) where
  all_later : (from : State C) (requests : List Request) (replies : List Reply) (to : State C) → Trace step from requests replies to → Trace later from requests replies to
  all_later from [] [] to all = all
  all_later from (q ∷ requests) (a ∷ replies) to all = (all.0, weaken from q a all.0 all.1, all_later all.0 requests replies to all.2)
  all_later from [] (a ∷ replies) to all = absurd all
  all_later from (q ∷ requests) [] to all = absurd all

  pub moves_later : (from to : State C) → Reachable step from to → Reachable later from to
  moves_later from to so = (so.0, so.1, all_later from so.0 so.1 to so.2)

  -- serving an item adds at most one transition
  pub moves_on : (stood stands : State C → Type 0) (from : State C) → ReachesSome step from stood → ForwardSimulation stood stands (MayStep later) → ReachesSome later from stands
  moves_on stood stands from so brings =
      let next = brings so.0 so.2 in
      (next.0, reach_next later from so.0 next.0 (moves_later from so.0 so.1) next.1, next.2)
