-- Bytes that end inside a request target: a scan from their front decides it.
use Rattle.std.specs.Prelude.{ℕ, ◌==◌, List, if◌then◌else◌, fold}
use Rattle.httparse.specs.Grammar.{is_token_byte, is_uri_byte}
use Rattle.land_wire.specs.declared.framing.target.ScanState.{ScanState}
use Rattle.land_wire.specs.declared.framing.target.ScanState.TheVariants as place

-- the state after a byte
abbrev pub next_scan_state : ScanState → ℕ → ScanState
next_scan_state place.Blank b =
    if b == 13 then place.Return else if b == 10 then place.Blank
    else if is_token_byte b then place.Method else place.Elsewhere
next_scan_state place.Return b = if b == 10 then place.Blank else place.Elsewhere
next_scan_state place.Method b =
    if b == 32 then place.Target else if is_token_byte b then place.Method else place.Elsewhere
next_scan_state place.Target b = if is_uri_byte b then place.Target else place.Elsewhere
next_scan_state place.Elsewhere b = place.Elsewhere

-- the state after bytes
abbrev pub scan_state_after : ScanState → List ℕ → ScanState
scan_state_after p bytes = fold next_scan_state p bytes
