-- The code's sizes, as the definitions have them.
use Rattle.std.specs.Prelude.{ℕ, List, Option}
use Rattle.cov_types.specs.declared.place.Place.{Place}
use Rattle.vlog_tree.specs.declared.item.NamePlace.{NamePlace}
use Rattle.scope_meaning.specs.Constants.{option_of}
use Rattle.scope_meaning.specs.Ranges.{Span}
use Rattle.flat_variables.specs.declared.size.Size.{Size}
use Rattle.flat_variables.specs.declared.memory.Memory.{Memory}

abbrev pub span_of : Size → Span
span_of s = record { width = s.width; low = s.low; vector = s.vector }

-- the number of words and the lowest number of one
abbrev pub words_of : Option Memory → Option (ℕ × ℕ)
words_of = option_of (λ (m : Memory). (m.words, m.low))

-- a name that stands at a place
abbrev pub named : Place → List ℕ → NamePlace
named place name = record { place = place; name = name }
