use Rattle.std.proofs.Common.{◌≡◌, ◌<◌, ℕ, List, ◌++◌, true, false, [], length, inl, inr, refl, sym, subst, ◌∙◌, arith, IfSome}
use Rattle.std.specs.Io.KnownBytes.{prepend_known}
use Rattle.std.proofs.lemmas.List.{nil_from_length}
use Rattle.land_wire.proofs.ItemLemmas.{front_known, failed_known, fault_read, head_ahead, head_small, request_known, request_of_stream, cut_known, item_fits}
use Rattle.land_wire.specs.Framing.Items.{request, IsItem, IsNextOf, ReadsUpTo}
use Rattle.land_wire.specs.declared.framing.item.NextItem.{NextItem}
use Rattle.land_wire.proofs.framing.item.read_item.Goals as goal

pub returns-in-Ok-Fault-clause-item : goal.returns-in-Ok-Fault-clause-item
returns-in-Ok-Fault-clause-item g c =
    let none : c.is_empty.result ≡ true → c.read_head.new.buffer.items ≡ [] = λ e. nil_from_length _ (grind (arith)) in
    let some : c.is_empty.result ≡ false → 0 < length c.read_head.new.buffer.items = λ e. grind (arith) in
    subst (λ (f : NextItem). IfSome (prepend_known c.read_head.new.buffer.items (g.R.Read.remaining c.read_head.new.reader.reader.now)) (λ s. IsNextOf s f))
    (sym c.next_of_fault.ensures)
    (front_known c.read_head.new.buffer.items (g.R.Read.remaining c.read_head.new.reader.reader.now) c.in-Ok-Fault.field-0 c.in-Ok-Fault.fault c.is_empty.result c.in-Ok-Fault.field-0-is
    c.in-Ok-Fault.ensures.fault c.in-Ok-Fault.ensures.end none some)

pub returns-in-Err-body_length_of-clause-item : goal.returns-in-Err-body_length_of-clause-item
returns-in-Err-body_length_of-clause-item g c =
    let bad = rw c.deref.ensures.value at c.in-Err-body_length_of.ensures.value in
    failed_known c.read_head.new.buffer.items (g.R.Read.remaining c.read_head.new.reader.reader.now) c.read_head.new.headers c.in-Ok-Whole.spans c.in-Ok-Whole.field-0
    c.in-Err-body_length_of.fault c.in-Ok-Whole.field-0-is c.in-Ok-Whole.ensures.whole bad

pub returns-in-Ok-true-clause-front : goal.returns-in-Ok-true-clause-front
returns-in-Ok-true-clause-front g c =
    let good = rw c.deref.ensures.value at c.in-Ok.ensures.value in
    let grown = c.in-Ok-true.ensures.front in
    request_known c.read_head.new.buffer.items c.read_to.new.buffer.items grown.0 c.read_head.new.headers c.in-Ok-Whole.spans c.in-Ok-Whole.field-0
    c.in-Ok.length c.in-Ok-Whole.field-0-is c.in-Ok-Whole.ensures.whole good grown.1 (c.in-Ok-true.ensures.whole c.in-Ok-true.field-0-test)

pub returns-in-Ok-true-clause-item : goal.returns-in-Ok-true-clause-item
returns-in-Ok-true-clause-item g c =
    let good = rw c.deref.ensures.value at c.in-Ok.ensures.value in
    let grown = c.in-Ok-true.ensures.front in
    request_of_stream c.read_to.new.buffer.items (g.R.Read.remaining c.read_to.new.reader.reader.now) c.read_head.new.headers c.in-Ok-Whole.spans c.in-Ok.length
    (request_known c.read_head.new.buffer.items c.read_to.new.buffer.items grown.0 c.read_head.new.headers c.in-Ok-Whole.spans c.in-Ok-Whole.field-0
    c.in-Ok.length c.in-Ok-Whole.field-0-is c.in-Ok-Whole.ensures.whole good grown.1 (c.in-Ok-true.ensures.whole c.in-Ok-true.field-0-test))

pub returns-in-Ok-false-clause-item : goal.returns-in-Ok-false-clause-item
returns-in-Ok-false-clause-item g c =
    let good = rw c.deref.ensures.value at c.in-Ok.ensures.value in
    let grown = c.in-Ok-false.ensures.front in
    cut_known c.read_head.new.buffer.items c.read_to.new.buffer.items grown.0 (g.R.Read.remaining c.read_to.new.reader.reader.now) c.read_head.new.headers
    c.in-Ok-Whole.spans c.in-Ok-Whole.field-0 c.in-Ok.length c.in-Ok-Whole.field-0-is c.in-Ok-Whole.ensures.whole good grown.1
    (c.in-Ok-false.ensures.cut c.in-Ok-false.field-0-test)

pub returns-in-Err-read_to-clause-unread : goal.returns-in-Err-read_to-clause-unread
returns-in-Err-read_to-clause-unread g c =
    let good = rw c.deref.ensures.value at c.in-Ok.ensures.value in
    λ h body rest it.
    let kept = c.in-Ok-Whole.ensures.unread h (body ++ rest) it.0 in
    let moved = subst (λ (t : List ℕ). IsItem t (request h body) rest) (sym kept.1) it in
    c.in-Err-read_to.ensures.unread
    (item_fits c.read_head.new.buffer.items c.read_head.new.headers c.in-Ok-Whole.spans c.in-Ok-Whole.field-0 c.in-Ok.length h body rest
    c.in-Ok-Whole.field-0-is c.in-Ok-Whole.ensures.whole moved good) ∙ kept.0

pub returns-in-Ok-true-clause-unread : goal.returns-in-Ok-true-clause-unread
returns-in-Ok-true-clause-unread g c =
    let good = rw c.deref.ensures.value at c.in-Ok.ensures.value in
    λ h body rest it.
    let kept = c.in-Ok-Whole.ensures.unread h (body ++ rest) it.0 in
    let moved = subst (λ (t : List ℕ). IsItem t (request h body) rest) (sym kept.1) it in
    c.in-Ok-true.ensures.unread
    (item_fits c.read_head.new.buffer.items c.read_head.new.headers c.in-Ok-Whole.spans c.in-Ok-Whole.field-0 c.in-Ok.length h body rest
    c.in-Ok-Whole.field-0-is c.in-Ok-Whole.ensures.whole moved good) ∙ kept.0

pub returns-in-Ok-false-clause-unread : goal.returns-in-Ok-false-clause-unread
returns-in-Ok-false-clause-unread g c =
    let good = rw c.deref.ensures.value at c.in-Ok.ensures.value in
    λ h body rest it.
    let kept = c.in-Ok-Whole.ensures.unread h (body ++ rest) it.0 in
    let moved = subst (λ (t : List ℕ). IsItem t (request h body) rest) (sym kept.1) it in
    c.in-Ok-false.ensures.unread
    (item_fits c.read_head.new.buffer.items c.read_head.new.headers c.in-Ok-Whole.spans c.in-Ok-Whole.field-0 c.in-Ok.length h body rest
    c.in-Ok-Whole.field-0-is c.in-Ok-Whole.ensures.whole moved good) ∙ kept.0

pub returns-in-Ok-Fault-clause-ahead : goal.returns-in-Ok-Fault-clause-ahead
returns-in-Ok-Fault-clause-ahead g c small =
    subst (λ (f : NextItem). ReadsUpTo c.read_head.new.buffer.items f) (sym c.next_of_fault.ensures)
    (fault_read c.read_head.new.buffer.items c.in-Ok-Fault.fault c.is_empty.result (c.in-Ok-Fault.ensures.ahead small))

pub returns-in-Err-body_length_of-clause-ahead : goal.returns-in-Err-body_length_of-clause-ahead
returns-in-Err-body_length_of-clause-ahead g c small = inr (c.in-Ok-Whole.ensures.ahead small)

pub returns-in-Ok-false-clause-ahead : goal.returns-in-Ok-false-clause-ahead
returns-in-Ok-false-clause-ahead g c small = inl refl

pub returns-in-Ok-true-clause-ahead : goal.returns-in-Ok-true-clause-ahead
returns-in-Ok-true-clause-ahead g c small =
    let first = head_ahead c.read_head.new.buffer.items c.read_head.new.headers c.in-Ok-Whole.spans c.in-Ok-Whole.field-0 c.in-Ok-Whole.field-0-is
    c.in-Ok-Whole.ensures.whole (c.in-Ok-Whole.ensures.ahead small) in
    c.in-Ok-true.ensures.ahead (omega (arith, first))

pub returns-in-Err-clause-limit : goal.returns-in-Err-clause-limit
returns-in-Err-clause-limit g c most wide small = c.in-Err.ensures.limit most (omega (arith, wide)) small

pub returns-in-Ok-Fault-clause-limit : goal.returns-in-Ok-Fault-clause-limit
returns-in-Ok-Fault-clause-limit g c most wide small = c.in-Ok-Fault.ensures.limit most (omega (arith, wide)) small

pub returns-in-Err-body_length_of-clause-limit : goal.returns-in-Err-body_length_of-clause-limit
returns-in-Err-body_length_of-clause-limit g c most wide small = c.in-Ok-Whole.ensures.limit most (omega (arith, wide)) small

pub returns-in-Err-read_to-clause-limit : goal.returns-in-Err-read_to-clause-limit
returns-in-Err-read_to-clause-limit g c most wide small =
    let head = head_small c.read_head.new.buffer.items c.read_head.new.headers c.in-Ok-Whole.spans c.in-Ok-Whole.field-0 c.in-Ok-Whole.field-0-is
    c.in-Ok-Whole.ensures.whole in
    c.in-Err-read_to.ensures.limit most (omega (arith, head, c.in-Ok.ensures.bound, wide)) (c.in-Ok-Whole.ensures.limit most (omega (arith, wide)) small)

pub returns-in-Ok-true-clause-limit : goal.returns-in-Ok-true-clause-limit
returns-in-Ok-true-clause-limit g c most wide small =
    let head = head_small c.read_head.new.buffer.items c.read_head.new.headers c.in-Ok-Whole.spans c.in-Ok-Whole.field-0 c.in-Ok-Whole.field-0-is
    c.in-Ok-Whole.ensures.whole in
    c.in-Ok-true.ensures.limit most (omega (arith, head, c.in-Ok.ensures.bound, wide)) (c.in-Ok-Whole.ensures.limit most (omega (arith, wide)) small)

pub returns-in-Ok-false-clause-limit : goal.returns-in-Ok-false-clause-limit
returns-in-Ok-false-clause-limit g c most wide small =
    let head = head_small c.read_head.new.buffer.items c.read_head.new.headers c.in-Ok-Whole.spans c.in-Ok-Whole.field-0 c.in-Ok-Whole.field-0-is
    c.in-Ok-Whole.ensures.whole in
    c.in-Ok-false.ensures.limit most (omega (arith, head, c.in-Ok.ensures.bound, wide)) (c.in-Ok-Whole.ensures.limit most (omega (arith, wide)) small)
