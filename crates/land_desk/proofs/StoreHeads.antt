-- The responses for store faults. For a HEAD request they do not depend on the number.
use Rattle.std.proofs.Common.{◌≡◌, ℕ, zero, suc, ◌+◌, ◌-◌, ◌≤◌, List, Bool, true, false, refl, inl, codes, arith}
use Rattle.std.specs.Fmt.{digits}
use Rattle.land_desk.specs.Responses.{response, IsResponse}
use Rattle.land_desk.specs.declared.response.Medium.TheVariants.{Json}
use Rattle.land_desk.specs.declared.response.Status.TheVariants.{Unavailable}
use Rattle.land_keep.specs.declared.reply.Reply.TheVariants as reply
use Rattle.land_wire.proofs.ReplyTexts.{store_text}
use Rattle.land_wire.specs.Replies.{IsStoreFault, short_text}

abbrev pub store_response : ℕ → (closing head : Bool) → List ℕ
store_response n closing head = response Unavailable Json (short_text (codes "store") n) closing head

pub store_bytes : (n k : ℕ) (closing head : Bool) → n ≡ k → IsResponse (reply.Store n) closing head (store_response k closing head)
store_bytes n k closing head e = record { body = short_text (codes "store") k; body_is = inl (rw e (store_text k)); bytes_are = refl }

closing_by : (k n : ℕ) → n ≡ 501 + k → k ≤ 2
    → IsResponse (reply.Store n) true true (codes "HTTP/1.1 503 Service Unavailable\r\nContent-Type: application/json\r\nContent-Length: 13\r\nConnection: close\r\n\r\n")
unfolding digits response
closing_by zero n e h = store_bytes n 501 true true e
closing_by (suc zero) n e h = store_bytes n 502 true true e
closing_by (suc (suc zero)) n e h = store_bytes n 503 true true e
closing_by (suc (suc (suc k))) n e h = absurd (omega arith)

open_by : (k n : ℕ) → n ≡ 501 + k → k ≤ 2
    → IsResponse (reply.Store n) false true (codes "HTTP/1.1 503 Service Unavailable\r\nContent-Type: application/json\r\nContent-Length: 13\r\n\r\n")
unfolding digits response
open_by zero n e h = store_bytes n 501 false true e
open_by (suc zero) n e h = store_bytes n 502 false true e
open_by (suc (suc zero)) n e h = store_bytes n 503 false true e
open_by (suc (suc (suc k))) n e h = absurd (omega arith)

pub closing_head : (n : ℕ) → IsStoreFault n
    → IsResponse (reply.Store n) true true (codes "HTTP/1.1 503 Service Unavailable\r\nContent-Type: application/json\r\nContent-Length: 13\r\nConnection: close\r\n\r\n")
closing_head n h = closing_by (n - 501) n (omega arith) (omega arith)

pub open_head : (n : ℕ) → IsStoreFault n
    → IsResponse (reply.Store n) false true (codes "HTTP/1.1 503 Service Unavailable\r\nContent-Type: application/json\r\nContent-Length: 13\r\n\r\n")
open_head n h = open_by (n - 501) n (omega arith) (omega arith)
