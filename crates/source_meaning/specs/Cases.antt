-- Choices of a `case` (IEEE 1364-2005, 9.5). The expression and all items have the greatest of their sizes, and are
-- signed where all are.
use Rattle.std.specs.Prelude.{ℕ, ◌-◌, ◌^◌, Bool, true, false, ◌==◌, List, [], ◌∷◌, flat_map, find, Option, Some, None, bit_and}
use Rattle.std.specs.List.{list_any}
use Rattle.cov_types.specs.declared.place.Place.{Place}
use Rattle.circuit_run.specs.States.{State}
use Rattle.circuit_run.specs.Outcomes.{Act}
use Rattle.source_meaning.specs.Events.{Event}
use Rattle.source_meaning.specs.Meaning.{Meaning, greatest_size, all_signed}

-- an arm: its place, its items, none of a default, and what its body does
pub record Choice : Type 0 where
  pub place : Place
  pub items : List Meaning
  pub body : Act Event

abbrev pub is_default : Choice → Bool
is_default c = elim c.items [ [] ↦ true | item ∷ items ↦ false ]

-- the bits of an item that are compared: all but its free ones
abbrev pub compared_bits : ℕ → Meaning → ℕ
compared_bits size item = 2 ^ size - 1 - item.free

-- An item matches where the compared bits are those of the expression.
abbrev pub matches : ℕ → Bool → Meaning → State → Meaning → Bool
matches size by_sign on s item =
    bit_and (on.value s size by_sign) (compared_bits size item) == bit_and (item.value s size by_sign) (compared_bits size item)

-- the expression and all items
abbrev pub compared_all : Meaning → List Choice → List Meaning
compared_all on choices = on ∷ flat_map (λ c. c.items) choices

-- whether some item of an arm matches
abbrev pub is_chosen : Meaning → List Choice → State → Choice → Bool
is_chosen on choices s c =
    let all = compared_all on choices in
    list_any (matches (greatest_size all) (all_signed all) on s) c.items

abbrev pub or_else : Option Choice → Option Choice → Option Choice
or_else (Some a) other = Some a
or_else None other = other

-- the first arm with an item that matches, else the default, else none
abbrev pub choice_of : Meaning → List Choice → State → Option Choice
choice_of on choices s = or_else (find (is_chosen on choices s) choices) (find is_default choices)
