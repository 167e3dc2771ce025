use Rattle.std.proofs.Common.{inl, inr}
use Rattle.land_select.proofs.cache.take_mutation.Goals as goal

-- the mutation that is approved or refused
pub returns-in-Approve : goal.returns-in-Approve
returns-in-Approve c tl kept =
    let found = c.take_value.ensures tl kept in
    elim c.in-Approve.is [ inl is ↦ rw is found | inr is ↦ rw is found ]
