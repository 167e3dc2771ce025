use Rattle.std.proofs.Common.{string_bytes}
use Rattle.std.proofs.lemmas.Result.{IfOk-weaker}
use Rattle.land_keep.specs.declared.reply.Reply.TheVariants as reply
use Rattle.land_wire.proofs.ReplyTexts as texts
use Rattle.land_wire.proofs.text.reply_text.Goals as goal

pub returns-in-Object : goal.returns-in-Object
returns-in-Object c =
    rw c.in-Object.is
    (IfOk-weaker c.object_text.result _ _ (λ text. texts.told_plainly (reply.Object _) _ (string_bytes text) (texts.object_json _)) c.object_text.ensures)

pub returns-in-Numbers : goal.returns-in-Numbers
returns-in-Numbers c =
    let told = rw c.as_slice.ensures at c.numbers_text.ensures in
    rw c.in-Numbers.is
    (IfOk-weaker c.numbers_text.result _ _ (λ text. texts.told_plainly (reply.Numbers _) _ (string_bytes text) (texts.numbers-text _)) told)

pub returns-in-Done : goal.returns-in-Done
returns-in-Done c =
    rw c.in-Done.is
    (IfOk-weaker c.done_text.result _ _ (λ text. texts.told_plainly (reply.Done _) _ (string_bytes text) (texts.done_json _)) c.done_text.ensures)

pub returns-in-Denied : goal.returns-in-Denied
returns-in-Denied c =
    let told = rw c.from.ensures at c.short_text.ensures in
    rw c.in-Denied.is
    (IfOk-weaker c.short_text.result _ _ (λ text. texts.told_plainly (reply.Denied _) _ (string_bytes text) (texts.denied_text _)) told)

pub returns-in-Fault : goal.returns-in-Fault
returns-in-Fault c =
    let told = rw c.from-in-Fault.ensures at c.short_text-in-Fault.ensures in
    rw c.in-Fault.is
    (IfOk-weaker c.short_text-in-Fault.result _ _ (λ text. texts.told_plainly (reply.Fault _) _ (string_bytes text) (texts.fault_text _)) told)

pub returns-in-Refused : goal.returns-in-Refused
returns-in-Refused c =
    let told = rw c.from-in-Refused.ensures at c.short_text-in-Refused.ensures in
    rw c.in-Refused.is
    (IfOk-weaker c.short_text-in-Refused.result _ _ (λ text. texts.told_plainly (reply.Refused _) _ (string_bytes text) (texts.refused_text _)) told)

pub returns-in-Store : goal.returns-in-Store
returns-in-Store c =
    let told = rw c.from-in-Store.ensures at c.short_text-in-Store.ensures in
    rw c.in-Store.is
    (IfOk-weaker c.short_text-in-Store.result _ _ (λ text. texts.told_plainly (reply.Store _) _ (string_bytes text) (texts.store_text _)) told)
