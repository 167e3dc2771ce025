use Rattle.land_desk.proofs.StoreHeads.{closing_head, open_head}
use Rattle.land_desk.proofs.response.store_head.Goals as goal

pub returns-then-closing : goal.returns-then-closing
returns-then-closing c = λ fault h. rw c.if-closing.true (closing_head fault h)

pub returns-else-closing : goal.returns-else-closing
returns-else-closing c = λ fault h. rw c.if-closing.false (open_head fault h)
