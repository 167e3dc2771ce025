-- The lifespans of versions, with keys.
use Rattle.std.specs.Prelude.{Option, List}
use Rattle.std.specs.List.{filter_map}
use Rattle.std.specs.Option.{option_map}
use Rattle.land_tables_history.specs.declared.version.Version.{Version}
use Rattle.land_tables_history.specs.declared.sweeps.apart.Span.{Span}

-- the lifespan of a version, with a key
abbrev pub span_at : {X K : Type 0} → Version X → K → Span K
span_at v key = record { key = key; since = v.since; until = v.until }

-- likewise, if the value has a key
abbrev pub span_where : {X K : Type 0} → (key_of : X → Option K) → Version X → Option (Span K)
span_where key_of v = option_map (span_at v) (key_of v.what)

-- the lifespans of those that have a key
abbrev pub spans_where : {X K : Type 0} → (key_of : X → Option K) → List (Version X) → List (Span K)
spans_where key_of versions = filter_map (span_where key_of) versions
