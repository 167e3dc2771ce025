use Rattle.std.proofs.Common.{◌+◌, ◌*◌, ◌∙◌, Ok, Err, ap, arith, length, refl}
use Rattle.std.specs.Io.KnownBytes.{prepend_known}
use Rattle.land_desk.proofs.Asking.{asked_to_end, asked_to_last, begins_short, broken_off, called_before, kept_short, spent_all, spent_on, spends_nothing}
use Rattle.land_desk.proofs.Honesty.{comes_to, step_later, keeps_on, starts}
use Rattle.land_desk.proofs.Moving.{moves_on, reach_self}
use Rattle.land_desk.proofs.ServingLemmas.{serves_end, serves_last, serves_fault}
use Rattle.land_desk.specs.Serving.{StepIfHonest}
use Rattle.land_desk.proofs.KnownNext.{ServesKnown, serves_known, steps_once}
use Rattle.land_keep.specs.Keeping.{IsStateOf}
use Rattle.land_keep.specs.Machine.{State}
use Rattle.land_desk.proofs.serve.serve_items.Goals as goal

pub returns-in-Ok-Eof-clause-served : goal.returns-in-Ok-Eof-clause-served
returns-in-Ok-Eof-clause-served g c =
    let step = StepIfHonest (g.K.Keeper.honest c.loop-fault.keeper) g.C.Clock.reads in
    let later = StepIfHonest (g.K.Keeper.honest c.serve_next_item.new.keeper) g.C.Clock.reads in
    let weaken = step_later g.C.Clock.reads (g.K.Keeper.honest c.loop-fault.keeper) (g.K.Keeper.honest c.serve_next_item.new.keeper) c.in-Ok-Eof.ensures.was in
    let from : State g.row.C.Denot = record { closed = g.K.Keeper.closed c.args.keeper.now; timeline = g.K.Keeper.timeline c.args.keeper.now; clock = c.args.clock.now } in
    let start = g.R.Read.remaining c.args.reader.now.reader.now in
    let before = prepend_known c.loop-fault.buffer.items (g.R.Read.remaining c.loop-fault.reader.reader.now) in
    let after = prepend_known c.serve_next_item.new.buffer.items (g.R.Read.remaining c.serve_next_item.new.reader.reader.now) in
    let w = g.W.Write.contents c.args.writer.now in
    let u = g.W.Write.contents c.loop-fault.writer in
    let stood : State g.row.C.Denot → Type 0 = λ s. IsStateOf (g.K.Keeper.honest c.loop-fault.keeper) (g.K.Keeper.closed c.loop-fault.keeper) (g.K.Keeper.timeline c.loop-fault.keeper) c.loop-fault.clock s in
    let stands : State g.row.C.Denot → Type 0 = λ s. IsStateOf (g.K.Keeper.honest c.serve_next_item.new.keeper) (g.K.Keeper.closed c.serve_next_item.new.keeper) (g.K.Keeper.timeline c.serve_next_item.new.keeper) c.serve_next_item.new.clock s in
    let v = g.W.Write.contents c.serve_next_item.new.writer in
    comes_to step later weaken
    stood
    stands
    from start before w u v c.loop-fault.replies (Ok (record { replies = c.loop-fault.replies }))
    (λ rest now to. ServesKnown later rest now to after u v (Ok c.in-Ok-Eof.field-0))
    (λ now to so next_item. serves_end later start before after from now to w u v c.loop-fault.replies _ c.in-Ok-Eof.field-0-is so next_item)
    c.loop-fault.invariant.1 (serves_known later stood stands before after u v (Ok c.in-Ok-Eof.field-0) c.in-Ok-Eof.ensures.next_item)

pub returns-in-Ok-Close-clause-served : goal.returns-in-Ok-Close-clause-served
returns-in-Ok-Close-clause-served g c =
    let step = StepIfHonest (g.K.Keeper.honest c.loop-fault.keeper) g.C.Clock.reads in
    let later = StepIfHonest (g.K.Keeper.honest c.serve_next_item.new.keeper) g.C.Clock.reads in
    let weaken = step_later g.C.Clock.reads (g.K.Keeper.honest c.loop-fault.keeper) (g.K.Keeper.honest c.serve_next_item.new.keeper) c.in-Ok-Close.ensures.was in
    let from : State g.row.C.Denot = record { closed = g.K.Keeper.closed c.args.keeper.now; timeline = g.K.Keeper.timeline c.args.keeper.now; clock = c.args.clock.now } in
    let start = g.R.Read.remaining c.args.reader.now.reader.now in
    let before = prepend_known c.loop-fault.buffer.items (g.R.Read.remaining c.loop-fault.reader.reader.now) in
    let after = prepend_known c.serve_next_item.new.buffer.items (g.R.Read.remaining c.serve_next_item.new.reader.reader.now) in
    let w = g.W.Write.contents c.args.writer.now in
    let u = g.W.Write.contents c.loop-fault.writer in
    let stood : State g.row.C.Denot → Type 0 = λ s. IsStateOf (g.K.Keeper.honest c.loop-fault.keeper) (g.K.Keeper.closed c.loop-fault.keeper) (g.K.Keeper.timeline c.loop-fault.keeper) c.loop-fault.clock s in
    let stands : State g.row.C.Denot → Type 0 = λ s. IsStateOf (g.K.Keeper.honest c.serve_next_item.new.keeper) (g.K.Keeper.closed c.serve_next_item.new.keeper) (g.K.Keeper.timeline c.serve_next_item.new.keeper) c.serve_next_item.new.clock s in
    let v = g.W.Write.contents c.serve_next_item.new.writer in
    comes_to step later weaken
    stood
    stands
    from start before w u v c.loop-fault.replies (Ok (record { replies = c.loop-fault.replies + 1 }))
    (λ rest now to. ServesKnown later rest now to after u v (Ok c.in-Ok-Close.field-0))
    (λ now to so next_item. serves_last later start before after from now to w u v c.loop-fault.replies _ c.in-Ok-Close.field-0-is so next_item)
    c.loop-fault.invariant.1 (serves_known later stood stands before after u v (Ok c.in-Ok-Close.field-0) c.in-Ok-Close.ensures.next_item)

pub returns-in-Err-clause-served : goal.returns-in-Err-clause-served
returns-in-Err-clause-served g c =
    let step = StepIfHonest (g.K.Keeper.honest c.loop-fault.keeper) g.C.Clock.reads in
    let later = StepIfHonest (g.K.Keeper.honest c.serve_next_item.new.keeper) g.C.Clock.reads in
    let weaken = step_later g.C.Clock.reads (g.K.Keeper.honest c.loop-fault.keeper) (g.K.Keeper.honest c.serve_next_item.new.keeper) c.in-Err.ensures.was in
    let from : State g.row.C.Denot = record { closed = g.K.Keeper.closed c.args.keeper.now; timeline = g.K.Keeper.timeline c.args.keeper.now; clock = c.args.clock.now } in
    let start = g.R.Read.remaining c.args.reader.now.reader.now in
    let before = prepend_known c.loop-fault.buffer.items (g.R.Read.remaining c.loop-fault.reader.reader.now) in
    let after = prepend_known c.serve_next_item.new.buffer.items (g.R.Read.remaining c.serve_next_item.new.reader.reader.now) in
    let w = g.W.Write.contents c.args.writer.now in
    let u = g.W.Write.contents c.loop-fault.writer in
    let stood : State g.row.C.Denot → Type 0 = λ s. IsStateOf (g.K.Keeper.honest c.loop-fault.keeper) (g.K.Keeper.closed c.loop-fault.keeper) (g.K.Keeper.timeline c.loop-fault.keeper) c.loop-fault.clock s in
    let stands : State g.row.C.Denot → Type 0 = λ s. IsStateOf (g.K.Keeper.honest c.serve_next_item.new.keeper) (g.K.Keeper.closed c.serve_next_item.new.keeper) (g.K.Keeper.timeline c.serve_next_item.new.keeper) c.serve_next_item.new.clock s in
    let v = g.W.Write.contents c.serve_next_item.new.writer in
    comes_to step later weaken
    stood
    stands
    from start before w u v c.loop-fault.replies (Err c.in-Err.fault)
    (λ rest now to. ServesKnown later rest now to after u v (Err c.in-Err.fault))
    (λ now to so next_item. serves_fault later start before after from now to w u v c.loop-fault.replies c.in-Err.fault so next_item)
    c.loop-fault.invariant.1 (serves_known later stood stands before after u v (Err c.in-Err.fault) c.in-Err.ensures.next_item)

pub loop-fault-preserved : goal.loop-fault-preserved
loop-fault-preserved g c =
    let step = StepIfHonest (g.K.Keeper.honest c.loop-fault.keeper) g.C.Clock.reads in
    let later = StepIfHonest (g.K.Keeper.honest c.serve_next_item.new.keeper) g.C.Clock.reads in
    let weaken = step_later g.C.Clock.reads (g.K.Keeper.honest c.loop-fault.keeper) (g.K.Keeper.honest c.serve_next_item.new.keeper) c.in-Ok-KeepAlive.ensures.was in
    let from : State g.row.C.Denot = record { closed = g.K.Keeper.closed c.args.keeper.now; timeline = g.K.Keeper.timeline c.args.keeper.now; clock = c.args.clock.now } in
    let start = g.R.Read.remaining c.args.reader.now.reader.now in
    let before = prepend_known c.loop-fault.buffer.items (g.R.Read.remaining c.loop-fault.reader.reader.now) in
    let after = prepend_known c.serve_next_item.new.buffer.items (g.R.Read.remaining c.serve_next_item.new.reader.reader.now) in
    let w = g.W.Write.contents c.args.writer.now in
    let u = g.W.Write.contents c.loop-fault.writer in
    let stood : State g.row.C.Denot → Type 0 = λ s. IsStateOf (g.K.Keeper.honest c.loop-fault.keeper) (g.K.Keeper.closed c.loop-fault.keeper) (g.K.Keeper.timeline c.loop-fault.keeper) c.loop-fault.clock s in
    let stands : State g.row.C.Denot → Type 0 = λ s. IsStateOf (g.K.Keeper.honest c.serve_next_item.new.keeper) (g.K.Keeper.closed c.serve_next_item.new.keeper) (g.K.Keeper.timeline c.serve_next_item.new.keeper) c.serve_next_item.new.clock s in
    let v = g.W.Write.contents c.serve_next_item.new.writer in (
      omega (arith, c.loop-fault.invariant.0, c.in-Ok-KeepAlive.ensures.room),
      keeps_on step later weaken
          stood
          stands
          from start before after w u v c.loop-fault.replies c.in-Ok-KeepAlive.field-0 c.in-Ok-KeepAlive.field-0-is
          c.loop-fault.invariant.1 (serves_known later stood stands before after u v (Ok c.in-Ok-KeepAlive.field-0) c.in-Ok-KeepAlive.ensures.next_item),
      moves_on step later weaken
          stood
          stands
          from c.loop-fault.invariant.2 (steps_once later stood stands before after u v (Ok c.in-Ok-KeepAlive.field-0) c.in-Ok-KeepAlive.ensures.next_item),
      (λ trust. c.loop-fault.invariant.3 (c.in-Ok-KeepAlive.ensures.was trust)),
      kept_short start before (g.R.Read.remaining c.serve_next_item.new.reader.reader.now) c.loop-fault.buffer.items c.serve_next_item.new.buffer.items
          c.in-Ok-KeepAlive.field-0 c.in-Ok-KeepAlive.field-0-is c.loop-fault.invariant.4 c.in-Ok-KeepAlive.ensures.reads,
      spent_on start before after (1024 * c.args.reader.now.left) (length c.loop-fault.buffer.items + 1024 * c.loop-fault.reader.left)
          (length c.serve_next_item.new.buffer.items + 1024 * c.serve_next_item.new.reader.left) c.loop-fault.invariant.5 c.in-Ok-KeepAlive.ensures.budget,
      c.in-Ok-KeepAlive.ensures.same_reference ∙ c.loop-fault.invariant.6,
      omega (arith, c.loop-fault.invariant.7, c.in-Ok-KeepAlive.ensures.progress c.in-Ok-KeepAlive.field-0-is),
      omega (arith, c.loop-fault.invariant.8, c.in-Ok-KeepAlive.ensures.fewer),
    )

pub loop-fault-init : goal.loop-fault-init
loop-fault-init g c =
    let from : State g.row.C.Denot = record { closed = g.K.Keeper.closed c.args.keeper.now; timeline = g.K.Keeper.timeline c.args.keeper.now; clock = c.args.clock.now } in (
      c.requires.room,
      starts (StepIfHonest (g.K.Keeper.honest c.args.keeper.now) g.C.Clock.reads)
          (λ s. IsStateOf (g.K.Keeper.honest c.args.keeper.now) (g.K.Keeper.closed c.args.keeper.now) (g.K.Keeper.timeline c.args.keeper.now) c.args.clock.now s) from
          (g.R.Read.remaining c.args.reader.now.reader.now) c.new-buffer.result.items (g.W.Write.contents c.args.writer.now) (refl, refl, λ live. refl) c.new-buffer.ensures.items,
      (from, reach_self (StepIfHonest (g.K.Keeper.honest c.args.keeper.now) g.C.Clock.reads) from, (refl, refl, λ live. refl)),
      (λ trust. trust),
      begins_short (g.R.Read.remaining c.args.reader.now.reader.now) c.new-buffer.result.items c.new-buffer.ensures.items,
      spends_nothing (g.R.Read.remaining c.args.reader.now.reader.now) c.new-buffer.result.items (1024 * c.args.reader.now.left) c.new-buffer.ensures.items,
      refl,
      omega (arith, ap length c.new-buffer.ensures.items),
      omega arith,
    )

pub returns-in-Ok-Eof-clause-reached : goal.returns-in-Ok-Eof-clause-reached
returns-in-Ok-Eof-clause-reached g c =
    let step = StepIfHonest (g.K.Keeper.honest c.loop-fault.keeper) g.C.Clock.reads in
    let later = StepIfHonest (g.K.Keeper.honest c.serve_next_item.new.keeper) g.C.Clock.reads in
    let weaken = step_later g.C.Clock.reads (g.K.Keeper.honest c.loop-fault.keeper) (g.K.Keeper.honest c.serve_next_item.new.keeper) c.in-Ok-Eof.ensures.was in
    let before = prepend_known c.loop-fault.buffer.items (g.R.Read.remaining c.loop-fault.reader.reader.now) in
    let after = prepend_known c.serve_next_item.new.buffer.items (g.R.Read.remaining c.serve_next_item.new.reader.reader.now) in
    let u = g.W.Write.contents c.loop-fault.writer in
    let v = g.W.Write.contents c.serve_next_item.new.writer in
    let stood : State g.row.C.Denot → Type 0 = λ s. IsStateOf (g.K.Keeper.honest c.loop-fault.keeper) (g.K.Keeper.closed c.loop-fault.keeper) (g.K.Keeper.timeline c.loop-fault.keeper) c.loop-fault.clock s in
    let stands : State g.row.C.Denot → Type 0 = λ s. IsStateOf (g.K.Keeper.honest c.serve_next_item.new.keeper) (g.K.Keeper.closed c.serve_next_item.new.keeper) (g.K.Keeper.timeline c.serve_next_item.new.keeper) c.serve_next_item.new.clock s in
    moves_on step later weaken
    stood
    stands
    (record { closed = g.K.Keeper.closed c.args.keeper.now; timeline = g.K.Keeper.timeline c.args.keeper.now; clock = c.args.clock.now })
    c.loop-fault.invariant.2 (steps_once later stood stands before after u v (Ok c.in-Ok-Eof.field-0) c.in-Ok-Eof.ensures.next_item)

pub returns-in-Ok-Close-clause-reached : goal.returns-in-Ok-Close-clause-reached
returns-in-Ok-Close-clause-reached g c =
    let step = StepIfHonest (g.K.Keeper.honest c.loop-fault.keeper) g.C.Clock.reads in
    let later = StepIfHonest (g.K.Keeper.honest c.serve_next_item.new.keeper) g.C.Clock.reads in
    let weaken = step_later g.C.Clock.reads (g.K.Keeper.honest c.loop-fault.keeper) (g.K.Keeper.honest c.serve_next_item.new.keeper) c.in-Ok-Close.ensures.was in
    let before = prepend_known c.loop-fault.buffer.items (g.R.Read.remaining c.loop-fault.reader.reader.now) in
    let after = prepend_known c.serve_next_item.new.buffer.items (g.R.Read.remaining c.serve_next_item.new.reader.reader.now) in
    let u = g.W.Write.contents c.loop-fault.writer in
    let v = g.W.Write.contents c.serve_next_item.new.writer in
    let stood : State g.row.C.Denot → Type 0 = λ s. IsStateOf (g.K.Keeper.honest c.loop-fault.keeper) (g.K.Keeper.closed c.loop-fault.keeper) (g.K.Keeper.timeline c.loop-fault.keeper) c.loop-fault.clock s in
    let stands : State g.row.C.Denot → Type 0 = λ s. IsStateOf (g.K.Keeper.honest c.serve_next_item.new.keeper) (g.K.Keeper.closed c.serve_next_item.new.keeper) (g.K.Keeper.timeline c.serve_next_item.new.keeper) c.serve_next_item.new.clock s in
    moves_on step later weaken
    stood
    stands
    (record { closed = g.K.Keeper.closed c.args.keeper.now; timeline = g.K.Keeper.timeline c.args.keeper.now; clock = c.args.clock.now })
    c.loop-fault.invariant.2 (steps_once later stood stands before after u v (Ok c.in-Ok-Close.field-0) c.in-Ok-Close.ensures.next_item)

pub returns-in-Err-clause-reached : goal.returns-in-Err-clause-reached
returns-in-Err-clause-reached g c =
    let step = StepIfHonest (g.K.Keeper.honest c.loop-fault.keeper) g.C.Clock.reads in
    let later = StepIfHonest (g.K.Keeper.honest c.serve_next_item.new.keeper) g.C.Clock.reads in
    let weaken = step_later g.C.Clock.reads (g.K.Keeper.honest c.loop-fault.keeper) (g.K.Keeper.honest c.serve_next_item.new.keeper) c.in-Err.ensures.was in
    let before = prepend_known c.loop-fault.buffer.items (g.R.Read.remaining c.loop-fault.reader.reader.now) in
    let after = prepend_known c.serve_next_item.new.buffer.items (g.R.Read.remaining c.serve_next_item.new.reader.reader.now) in
    let u = g.W.Write.contents c.loop-fault.writer in
    let v = g.W.Write.contents c.serve_next_item.new.writer in
    let stood : State g.row.C.Denot → Type 0 = λ s. IsStateOf (g.K.Keeper.honest c.loop-fault.keeper) (g.K.Keeper.closed c.loop-fault.keeper) (g.K.Keeper.timeline c.loop-fault.keeper) c.loop-fault.clock s in
    let stands : State g.row.C.Denot → Type 0 = λ s. IsStateOf (g.K.Keeper.honest c.serve_next_item.new.keeper) (g.K.Keeper.closed c.serve_next_item.new.keeper) (g.K.Keeper.timeline c.serve_next_item.new.keeper) c.serve_next_item.new.clock s in
    moves_on step later weaken
    stood
    stands
    (record { closed = g.K.Keeper.closed c.args.keeper.now; timeline = g.K.Keeper.timeline c.args.keeper.now; clock = c.args.clock.now })
    c.loop-fault.invariant.2 (steps_once later stood stands before after u v (Err c.in-Err.fault) c.in-Err.ensures.next_item)

pub returns-in-Ok-Eof-clause-reads : goal.returns-in-Ok-Eof-clause-reads
returns-in-Ok-Eof-clause-reads g c =
    asked_to_end (StepIfHonest (g.K.Keeper.honest c.loop-fault.keeper) g.C.Clock.reads)
    (record { closed = g.K.Keeper.closed c.args.keeper.now; timeline = g.K.Keeper.timeline c.args.keeper.now; clock = c.args.clock.now })
    (λ s. IsStateOf (g.K.Keeper.honest c.loop-fault.keeper) (g.K.Keeper.closed c.loop-fault.keeper) (g.K.Keeper.timeline c.loop-fault.keeper) c.loop-fault.clock s)
    (g.R.Read.remaining c.args.reader.now.reader.now)
    (prepend_known c.loop-fault.buffer.items (g.R.Read.remaining c.loop-fault.reader.reader.now))
    (g.R.Read.remaining c.serve_next_item.new.reader.reader.now)
    (g.W.Write.contents c.args.writer.now) (g.W.Write.contents c.loop-fault.writer) c.loop-fault.buffer.items c.serve_next_item.new.buffer.items c.loop-fault.replies
    c.in-Ok-Eof.field-0 c.in-Ok-Eof.field-0-is c.loop-fault.invariant.1 c.loop-fault.invariant.4 c.in-Ok-Eof.ensures.reads

pub returns-in-Ok-Close-clause-reads : goal.returns-in-Ok-Close-clause-reads
returns-in-Ok-Close-clause-reads g c =
    asked_to_last (StepIfHonest (g.K.Keeper.honest c.loop-fault.keeper) g.C.Clock.reads)
    (record { closed = g.K.Keeper.closed c.args.keeper.now; timeline = g.K.Keeper.timeline c.args.keeper.now; clock = c.args.clock.now })
    (λ s. IsStateOf (g.K.Keeper.honest c.loop-fault.keeper) (g.K.Keeper.closed c.loop-fault.keeper) (g.K.Keeper.timeline c.loop-fault.keeper) c.loop-fault.clock s)
    (g.R.Read.remaining c.args.reader.now.reader.now)
    (prepend_known c.loop-fault.buffer.items (g.R.Read.remaining c.loop-fault.reader.reader.now))
    (g.R.Read.remaining c.serve_next_item.new.reader.reader.now)
    (g.W.Write.contents c.args.writer.now) (g.W.Write.contents c.loop-fault.writer) c.loop-fault.buffer.items c.serve_next_item.new.buffer.items c.loop-fault.replies
    c.in-Ok-Close.field-0 c.in-Ok-Close.field-0-is c.loop-fault.invariant.1 c.loop-fault.invariant.4 c.in-Ok-Close.ensures.reads

pub returns-in-Err-clause-reads : goal.returns-in-Err-clause-reads
returns-in-Err-clause-reads g c =
    let start = g.R.Read.remaining c.args.reader.now.reader.now in
    let left = g.R.Read.remaining c.serve_next_item.new.reader.reader.now in
    broken_off start left c.serve_next_item.new.buffer.items (1024 * c.args.reader.now.left) (length c.serve_next_item.new.buffer.items + 1024 * c.serve_next_item.new.reader.left) c.in-Err.fault
    (spent_on start (prepend_known c.loop-fault.buffer.items (g.R.Read.remaining c.loop-fault.reader.reader.now)) (prepend_known c.serve_next_item.new.buffer.items left)
    (1024 * c.args.reader.now.left) (length c.loop-fault.buffer.items + 1024 * c.loop-fault.reader.left)
    (length c.serve_next_item.new.buffer.items + 1024 * c.serve_next_item.new.reader.left) c.loop-fault.invariant.5 c.in-Err.ensures.budget)

pub returns-in-Ok-Eof-clause-budget : goal.returns-in-Ok-Eof-clause-budget
returns-in-Ok-Eof-clause-budget g c =
    let start = g.R.Read.remaining c.args.reader.now.reader.now in
    let left = g.R.Read.remaining c.serve_next_item.new.reader.reader.now in
    spent_all start left c.serve_next_item.new.buffer.items (1024 * c.args.reader.now.left) (1024 * c.serve_next_item.new.reader.left)
    (spent_on start (prepend_known c.loop-fault.buffer.items (g.R.Read.remaining c.loop-fault.reader.reader.now)) (prepend_known c.serve_next_item.new.buffer.items left)
    (1024 * c.args.reader.now.left) (length c.loop-fault.buffer.items + 1024 * c.loop-fault.reader.left)
    (length c.serve_next_item.new.buffer.items + 1024 * c.serve_next_item.new.reader.left) c.loop-fault.invariant.5 c.in-Ok-Eof.ensures.budget)

pub returns-in-Ok-Close-clause-budget : goal.returns-in-Ok-Close-clause-budget
returns-in-Ok-Close-clause-budget g c =
    let start = g.R.Read.remaining c.args.reader.now.reader.now in
    let left = g.R.Read.remaining c.serve_next_item.new.reader.reader.now in
    spent_all start left c.serve_next_item.new.buffer.items (1024 * c.args.reader.now.left) (1024 * c.serve_next_item.new.reader.left)
    (spent_on start (prepend_known c.loop-fault.buffer.items (g.R.Read.remaining c.loop-fault.reader.reader.now)) (prepend_known c.serve_next_item.new.buffer.items left)
    (1024 * c.args.reader.now.left) (length c.loop-fault.buffer.items + 1024 * c.loop-fault.reader.left)
    (length c.serve_next_item.new.buffer.items + 1024 * c.serve_next_item.new.reader.left) c.loop-fault.invariant.5 c.in-Ok-Close.ensures.budget)

pub returns-in-Err-clause-budget : goal.returns-in-Err-clause-budget
returns-in-Err-clause-budget g c =
    let start = g.R.Read.remaining c.args.reader.now.reader.now in
    let left = g.R.Read.remaining c.serve_next_item.new.reader.reader.now in
    spent_all start left c.serve_next_item.new.buffer.items (1024 * c.args.reader.now.left) (1024 * c.serve_next_item.new.reader.left)
    (spent_on start (prepend_known c.loop-fault.buffer.items (g.R.Read.remaining c.loop-fault.reader.reader.now)) (prepend_known c.serve_next_item.new.buffer.items left)
    (1024 * c.args.reader.now.left) (length c.loop-fault.buffer.items + 1024 * c.loop-fault.reader.left)
    (length c.serve_next_item.new.buffer.items + 1024 * c.serve_next_item.new.reader.left) c.loop-fault.invariant.5 c.in-Err.ensures.budget)

pub returns-in-Err-clause-read_fault : goal.returns-in-Err-clause-read_fault
returns-in-Err-clause-read_fault g c is =
    called_before c.args.reader.now.left c.loop-fault.reader.left c.serve_next_item.new.reader.left c.loop-fault.invariant.8 (c.in-Err.ensures.read_fault is)
