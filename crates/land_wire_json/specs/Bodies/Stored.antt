-- Contents that are stored as texts: those that acts may request.
use Rattle.std.specs.Prelude.{◌≡◌, true, ⊤}
use Rattle.std.specs.List.{AllByRecursion}
use Rattle.land_core.specs.Contents.{is_well_formed_content}
use Rattle.land_core.specs.declared.content.Content.{Content}
use Rattle.land_core.specs.declared.content.Content.TheVariants as content
use Rattle.land_core.specs.declared.subdivision.Part.{Part}
use Rattle.land_fraction.specs.Ratio.{IsFraction}
use Rattle.land_shape.specs.Outline.{IsOutline}

-- a part has an outline
abbrev pub HasPartOutline : Part → Type 0
HasPartOutline part = IsOutline part.outline

-- the share of a content is a fraction, and its outlines are outlines
abbrev pub IsExactContent : Content → Type 0
IsExactContent (content.Transfer it) = IsFraction it.share
IsExactContent (content.Subdivision it) = IsOutline it.first.outline × AllByRecursion HasPartOutline it.rest
IsExactContent (content.Merger it) = IsOutline it.outline
IsExactContent (content.Mortgage it) = ⊤
IsExactContent (content.Discharge it) = ⊤

-- a content that may be stored: its numbers and texts are within limits, its share is a fraction, and its
-- outlines are outlines
pub record IsStorable (it : Content) : Type 0 where
  pub within_limits : is_well_formed_content it ≡ true
  pub is_exact : IsExactContent it
