use Rattle.std.proofs.Common.{◌∙◌, sym, ap₂}
use Rattle.sqlite_schema.specs.Code.{terms_in}
use Rattle.land_tables_schema.proofs.terms.is_ordered.Goals as goal

pub returns : goal.returns
returns c =
    let same = ap₂ terms_in c.as_slice.ensures c.as_slice-2.ensures ∙ c.terms.view_is in
    (λ yes. sym same ∙ c.is_interval.ensures.0 yes, λ is. c.is_interval.ensures.1 (same ∙ is))
