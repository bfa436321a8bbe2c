-- Private: positions and places as the code holds them.
use Rattle.std.specs.Prelude.{◌≡◌, ℕ, ◌<◌, ◌≤◌, ◌&&◌, nat_le, nat_lt, Option, Some, None, ℤ}
use Rattle.design_state.specs.declared.position.Position.{Position}
use Rattle.design_state.specs.Positions.{offset}
use Rattle.design_meaning.specs.Spans.{Span, is_place_in}
use Rattle.flow_spans.specs.declared.clip.Places.{Places}
use Rattle.flow_spans.specs.declared.clip.Range.{Range}

abbrev pub word_asked : Option Position → Option ℤ
word_asked None = None
word_asked (Some at) = Some (offset at)

abbrev pub places_asked : Option Places → Option (ℤ × ℕ)
places_asked None = None
places_asked (Some places) = Some (offset places.at, places.width)

abbrev pub span_asked : ℕ → Option Position → Option Places → Span
span_asked v word asked = record { var = v; word = word_asked word; places = places_asked asked }

-- the range has those of the places asked for that are below the width
pub record ArePlaces (width : ℕ) (asked : Option (ℤ × ℕ)) (r : Range) : Type 0 where
  pub ordered : r.from ≤ r.to
  pub within : r.to ≤ width
  pub same : (i : ℕ) → i < width → (nat_le r.from i && nat_lt i r.to) ≡ is_place_in asked i
