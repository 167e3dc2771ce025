use Rattle.std.proofs.Common.{◌≡◌, false, arith}
use Rattle.std.specs.Fmt.{digits}
use Rattle.land_desk.proofs.StoreHeads.{store_bytes}
use Rattle.land_desk.specs.Responses.{response}
use Rattle.land_desk.proofs.response.keep_alive_store_response.Goals as goal

pub returns-in-501 : goal.returns-in-501
unfolding digits response
returns-in-501 c = store_bytes c.args.number 501 false false c.in-501.is

pub returns-in-502 : goal.returns-in-502
unfolding digits response
returns-in-502 c = store_bytes c.args.number 502 false false c.in-502.is

pub returns-in_default : goal.returns-in_default
unfolding digits response
returns-in_default c = let e : c.args.number ≡ 503 = omega arith in store_bytes c.args.number 503 false false e
