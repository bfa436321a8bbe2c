-- The rows of a stimulus (docs/formats.md, "Stimulus").
use Rattle.std.specs.Prelude.{ℕ, ◌^◌, ◌==◌, Bool, false, nat_lt, List, [], ◌∷◌, length, map, find, zip, Option, None, Some, if◌then◌else◌}
use Rattle.std.specs.Option.{option_map_or}
use Rattle.std.specs.Str.{bytes_eq}
use Rattle.cov_port.specs.Decimal.{decimal_of}
use Rattle.stim_lines.specs.Header.{Input, or_else}
use Rattle.cov_port.specs.Hexadecimal.{hexadecimal_of}
use Rattle.stim_lines.specs.declared.fault.StimFault.{StimFault}
use Rattle.stim_lines.specs.declared.fault.StimFault.TheVariants.{BadRepeat, WrongCount, BadValue, TooWide}
use Rattle.stim_lines.specs.declared.row.Row.{Row}

-- whether a field stands for a number of cycles
abbrev pub begins_with_x : List ℕ → Bool
begins_with_x [] = false
begins_with_x (b ∷ bs) = b == 120

-- the last of fields, if they have one
abbrev pub last_field : List (List ℕ) → Option (List ℕ)
last_field [] = None
last_field (f ∷ []) = Some f
last_field (f ∷ g ∷ fs) = last_field (g ∷ fs)

abbrev pub all_but_last : List (List ℕ) → List (List ℕ)
all_but_last [] = []
all_but_last (f ∷ []) = []
all_but_last (f ∷ g ∷ fs) = f ∷ all_but_last (g ∷ fs)

-- whether the last field stands for a number of cycles
abbrev pub is_repeated : List (List ℕ) → Bool
is_repeated fields = option_map_or begins_with_x (last_field fields) false

-- the fields that are values
abbrev pub value_fields : List (List ℕ) → List (List ℕ)
value_fields fields = if is_repeated fields then all_but_last fields else fields

-- a number of cycles is 1 to 2^32
abbrev pub if_positive : Option ℕ → Option ℕ
if_positive None = None
if_positive (Some n) = if n == 0 then None else Some n

abbrev pub cycles_in : List ℕ → Option ℕ
cycles_in [] = None
cycles_in (x ∷ digits) = if_positive (decimal_of digits (2 ^ 32))

-- the number of cycles of a row: 1, unless the last field stands for it
abbrev pub cycles_of : List (List ℕ) → Option ℕ
cycles_of fields = if is_repeated fields then option_map_or cycles_in (last_field fields) None else Some 1

-- the width of the input with this name
abbrev pub width_of : List Input → List ℕ → ℕ
width_of inputs name = option_map_or (λ (i : Input). i.width) (find (λ (i : Input). bytes_eq i.name name) inputs) 0

-- what is wrong with a value in the column of an input
abbrev pub value_fault : List Input → ℕ → List ℕ × List ℕ → Option StimFault
value_fault inputs n cell = option_map_or (λ v. if nat_lt v (2 ^ width_of inputs cell.0) then None else Some (TooWide n)) (hexadecimal_of cell.1)
    (Some (BadValue n))

-- the fault of the leftmost wrong value
abbrev pub values_fault : List Input → ℕ → List (List ℕ × List ℕ) → Option StimFault
values_fault inputs n [] = None
values_fault inputs n (cell ∷ cells) = or_else (value_fault inputs n cell) (values_fault inputs n cells)

-- what is wrong with a row, in this order
abbrev pub row_fault : List Input → List (List ℕ) → ℕ → List (List ℕ) → Option StimFault
row_fault inputs header n fields =
    or_else (option_map_or (λ cycles. None) (cycles_of fields) (Some (BadRepeat n)))
    (or_else (if length (value_fields fields) == length header then None else Some (WrongCount n))
    (values_fault inputs n (zip header (value_fields fields))))

-- the value in the column of an input
abbrev pub value_in : List (List ℕ × List ℕ) → Input → ℕ
value_in cells input =
    option_map_or (λ (cell : List ℕ × List ℕ). option_map_or (λ v. v) (hexadecimal_of cell.1) 0)
    (find (λ (cell : List ℕ × List ℕ). bytes_eq cell.0 input.name) cells) 0

abbrev pub row_of : List Input → List (List ℕ) → List (List ℕ) → Row
row_of inputs header fields = record {
  values = map (value_in (zip header (value_fields fields))) inputs;
  repeat = option_map_or (λ n. n) (cycles_of fields) 1;
}
