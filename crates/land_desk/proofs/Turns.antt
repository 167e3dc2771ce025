-- Serving connections one at a time.
use Rattle.std.proofs.Common.{◌≡◌, ◌∙◌, ◌+◌, ◌<◌, ap, append_assoc, arith, refl, subst, sym, ℕ, ℤ, Bool, false, List, [], ◌∷◌, ◌++◌, length, map, Result, Err, Option, Some, None, IfSome}
use Rattle.std.proofs.lemmas.List.{length-append, map-append}
use Rattle.land_core.specs.declared.ask.Request.{Request}
use Rattle.land_desk.proofs.Honesty.{serves_honestly}
use Rattle.land_desk.proofs.Moving.{moves_later}
use Rattle.land_desk.specs.Service.{AreFirstConnections, IsServedCount, Connection, ServesInOrder, ServesUpTo, ServesConnection, accepted_count}
use Rattle.land_desk.specs.Service.Coming.{Accepts}
use Rattle.land_desk.specs.Serving.{StepOf, StepIfHonest, ReachesSome, ServesToSome}
use Rattle.land_desk.specs.declared.serve.DeskFault.{DeskFault}
use Rattle.land_desk.specs.declared.serve.Served.{Served}
use Rattle.land_desk.specs.declared.service.serving.ServiceFault.{ServiceFault}
use Rattle.land_desk.specs.declared.service.serving.ServiceFault.TheVariants.{Closed, Accept}
use Rattle.land_keep.specs.Keeping.{IsStateOf}
use Rattle.land_keep.specs.Machine.{State}
use Rattle.land_keep.specs.Timeline.{Timeline}
use Rattle.land_keep.specs.declared.reply.Reply.{Reply}

step_honestly : {C : Type 0} (reads : C → ℤ → C → Type 0) (honest : Type 0) → honest
    → (from : State C) (asked : Request) (r : Reply) (to : State C) → StepIfHonest honest reads from asked r to → StepOf reads from asked r to
step_honestly reads honest trust from asked r to h = (h.0, h.1, h.3 trust)

module _ {C : Type 0} (reads : C → ℤ → C → Type 0) where
  -- a connection is served by a run, whether its bytes are known or not
  served_over : (honest : Type 0) → honest → (bytes old new : Option (List ℕ)) (outcome : Result Served DeskFault) (from : State C) (stands : State C → Type 0)
      → IfSome bytes (λ known. ServesToSome (StepIfHonest honest reads) known from stands old new outcome) → ReachesSome (StepIfHonest honest reads) from stands
      → (to : State C) × ServesConnection reads bytes old new outcome from to × stands to
  served_over honest trust None old new outcome from stands served moves =
      (moves.0, moves_later (StepIfHonest honest reads) (StepOf reads) (step_honestly reads honest trust) from moves.0 moves.1, moves.2)
  served_over honest trust (Some known) old new outcome from stands served moves =
      (served.0, serves_honestly reads honest trust known from served.0 old new outcome served.1, served.2)

  first_of_all : (bytes old new : Option (List ℕ)) (outcome : Result Served DeskFault) (coming after : Option (List (Option (List ℕ)))) → Accepts coming after (Some bytes)
      → AreFirstConnections (record { bytes = bytes; old = old; new = new; outcome = outcome } ∷ []) coming after
  first_of_all bytes old new outcome None after comes = tt
  first_of_all bytes old new outcome (Some []) after comes = absurd comes
  first_of_all bytes old new outcome (Some (first ∷ rest)) None comes = let bad = comes.1 in cc
  first_of_all bytes old new outcome (Some (first ∷ rest)) (Some left) comes = let same = comes.1 in let one = comes.0 in cc

  -- the next connection is served
  pub next_served : (honest : Type 0) → honest → (bytes old new : Option (List ℕ)) (outcome : Result Served DeskFault) (from : State C) (stands : State C → Type 0)
      (coming after : Option (List (Option (List ℕ)))) → from.closed ≡ false → Accepts coming after (Some bytes)
      → IfSome bytes (λ known. ServesToSome (StepIfHonest honest reads) known from stands old new outcome) → ReachesSome (StepIfHonest honest reads) from stands
      → ServesUpTo reads from stands coming after (λ n. n ≡ 1)
  next_served honest trust bytes old new outcome from stands coming after open_store comes served moves =
      let it = served_over honest trust bytes old new outcome from stands served moves in (
        record { bytes = bytes; old = old; new = new; outcome = outcome } ∷ [],
        it.0,
        (it.0, open_store, it.1, refl),
        it.2,
        first_of_all bytes old new outcome coming after comes,
        refl,
      )

  none_first : (coming after : Option (List (Option (List ℕ)))) → Accepts coming after None → AreFirstConnections [] coming after
  none_first None after comes = tt
  none_first (Some all) None comes = cc
  none_first (Some all) (Some left) comes = cc

  -- accepting a connection failed
  pub none_served : (from : State C) (stands : State C → Type 0) (coming after : Option (List (Option (List ℕ)))) → stands from → Accepts coming after None
      → ServesUpTo reads from stands coming after (λ n. n ≡ 0)
  none_served from stands coming after at comes = ([], from, refl, at, none_first coming after comes, refl)

  in_turn : (from : State C) (xs : List Connection) (now : State C) (ys : List Connection) (to : State C) → ServesInOrder reads from xs now → ServesInOrder reads now ys to
      → ServesInOrder reads from (xs ++ ys) to
  in_turn from [] now ys to so more = subst (λ (s : State C). ServesInOrder reads s ys to) so more
  in_turn from (x ∷ xs) now ys to so more = (so.0, so.1, so.2, in_turn so.0 xs now ys to so.3 more)

  both_first : (xs ys : List Connection) (coming mid after : Option (List (Option (List ℕ)))) → AreFirstConnections xs coming mid → AreFirstConnections ys mid after → AreFirstConnections (xs ++ ys) coming after
  both_first xs ys None mid after a b = tt
  both_first xs ys (Some all) None after a b = absurd a
  both_first xs ys (Some all) (Some some) None a b = absurd b
  both_first xs ys (Some all) (Some some) (Some rest) a b = both_appended xs ys all some rest a b
    where
      both_appended : (xs ys : List Connection) (all some rest : List (Option (List ℕ))) → all ≡ map (λ x. x.bytes) xs ++ some → some ≡ map (λ x. x.bytes) ys ++ rest
          → all ≡ map (λ x. x.bytes) (xs ++ ys) ++ rest
      both_appended xs ys all some rest a b =
          a ∙ ap (λ (l : List (Option (List ℕ))). map (λ x. x.bytes) xs ++ l) b ∙ sym (append_assoc (map (λ x. x.bytes) xs) (map (λ x. x.bytes) ys) rest)
          ∙ ap (λ (l : List (Option (List ℕ))). l ++ rest) (sym (map-append (λ x. x.bytes) xs ys))

  same_state : (closed : Bool) (shown : Timeline) (clock : C) (s : State C) → s.closed ≡ closed → s.clock ≡ clock → s.timeline ≡ shown
      → s ≡ record { closed = closed; timeline = shown; clock = clock }
  same_state closed shown clock s e f g =
      let a : s ≡ record { closed = closed; timeline = s.timeline; clock = s.clock } =
      ap (λ (c : Bool). record { closed = c; timeline = s.timeline; clock = s.clock }) e in
      let b : record { closed = closed; timeline = s.timeline; clock = s.clock } ≡ record { closed = closed; timeline = shown; clock = s.clock } =
      ap (λ (t : Timeline). record { closed = closed; timeline = t; clock = s.clock }) g in
      let d : record { closed = closed; timeline = shown; clock = s.clock } ≡ record { closed = closed; timeline = shown; clock = clock } =
      ap (λ (k : C). record { closed = closed; timeline = shown; clock = k }) f in
      a ∙ b ∙ d

  -- connections are served, and then the next one, on a keeper that is open between them
  pub served_more : (honest : Type 0) → honest → (closed : Bool) → closed ≡ false → (shown : Timeline) (clock : C) (from : State C) (stands : State C → Type 0)
      (coming mid after : Option (List (Option (List ℕ)))) (k m : ℕ)
      → ServesUpTo reads from (IsStateOf honest closed shown clock) coming mid (λ n. n ≡ k)
      → ServesUpTo reads (record { closed = closed; timeline = shown; clock = clock }) stands mid after (λ n. n ≡ m)
      → ServesUpTo reads from stands coming after (λ n. n ≡ k + m)
  served_more honest trust closed is_open shown clock from stands coming mid after k m so next =
      let now = so.1 in
      let same = same_state closed shown clock now so.3.0 so.3.1 (sym (so.3.2 (trust, is_open))) in (
        so.0 ++ next.0,
        next.1,
        in_turn from so.0 now next.0 next.1 so.2 (subst (λ (s : State C). ServesInOrder reads s next.0 next.1) (sym same) next.2),
        next.3,
        both_first so.0 next.0 coming mid after so.4 next.4,
        length-append so.0 next.0 ∙ ap (λ n. n + length next.0) so.5 ∙ ap (λ n. k + n) next.5,
      )

  -- no connection is served yet
  pub serves_none : (from : State C) (stands : State C → Type 0) (coming : Option (List (Option (List ℕ)))) → stands from → ServesUpTo reads from stands coming coming (λ n. n ≡ 0)
  serves_none from stands None at = ([], from, refl, at, tt, refl)
  serves_none from stands (Some all) at = ([], from, refl, at, refl, refl)

  -- a weaker condition on the number of connections served
  pub weaken_count : (from : State C) (stands : State C → Type 0) (coming after : Option (List (Option (List ℕ)))) (P Q : ℕ → Type 0) → ((n : ℕ) → P n → Q n)
      → ServesUpTo reads from stands coming after P → ServesUpTo reads from stands coming after Q
  weaken_count from stands coming after P Q next so = (so.0, so.1, so.2, so.3, so.4, next (length so.0) so.5)

-- fewer connections are served than requested if accepting failed or the store closed
pub cut_short : (T : Type 0) (fault : ServiceFault) (k wanted n : ℕ) → k < wanted → n ≡ k + accepted_count {T = T} (Err fault) → IsServedCount {T = T} n wanted (Err fault)
cut_short T Accept k wanted n less is = omega (arith, less, is)
cut_short T Closed k wanted n less is = omega (arith, less, is)
