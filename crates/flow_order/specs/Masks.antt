-- Words with masks: which bits they have.
use Rattle.std.specs.Prelude.{ℕ, ◌-◌, ◌^◌, ◌≤◌, ◌==◌, ◌&&◌, nat_le, nat_lt, Bool, List}
use Rattle.std.specs.Int.{bit_at}
use Rattle.std.specs.List.{list_any}
use Rattle.circuit_run.specs.States.{Bit}
use Rattle.flow_marks.specs.declared.span.Span.{Span}
use Rattle.flow_order.specs.declared.mask.WordMask.{WordMask}

-- a bit is one of a mask: of its variable and words, at a place where the mask has a one
abbrev pub mask_has : WordMask → Bit → Bool
mask_has m b = m.var == b.var && nat_le m.word b.word && nat_lt b.word m.word_end && bit_at m.mask b.place == 1

-- one of the masks has the bit
abbrev pub is_read : List WordMask → Bit → Bool
is_read reads b = list_any (λ m. mask_has m b) reads

-- the places of a span, of which a word has at most 128
pub record HasPlaces (s : Span) : Type 0 where
  pub places : s.place ≤ s.place_end
  pub few : s.place_end ≤ 128

-- the mask of a span: ones from its lowest place to its highest
abbrev pub mask_of : Span → WordMask
mask_of s = record { var = s.var; word = s.word; word_end = s.word_end; mask = 2 ^ s.place_end - 2 ^ s.place }
