-- What is read from a key of the data file (docs/formats.md, "Data file").
use Rattle.std.specs.Prelude.{ℕ, ◌==◌, nat_eq, List, [], drop, find, codes, Option, None, Some, if◌then◌else◌}
use Rattle.std.specs.List.{slice_split, before_first, after_first, starts_with}
use Rattle.std.specs.Option.{option_map, option_map_or}
use Rattle.std.specs.Str.{bytes_eq}

-- the fields of a key: what byte 1 begins, up to the next byte 1
abbrev pub field_texts : List ℕ → List (List ℕ)
field_texts key = drop 1 (slice_split (λ b. b == 1) key)

-- what stands before byte 2 is the name of a field, and what stands behind it is the value
abbrev pub field_name : List ℕ → List ℕ
field_name text = before_first (λ b. b == 2) text

abbrev pub field_value : List ℕ → List ℕ
field_value text = after_first (λ b. b == 2) text

-- the value of a field, where it has this name
abbrev pub value_if : List ℕ → List ℕ → Option (List ℕ)
value_if text name = if bytes_eq (field_name text) name then Some (field_value text) else None

-- the value of the first field of a name, if there is one
abbrev pub first_value : List ℕ → List (List ℕ) → Option (List ℕ)
first_value name texts = option_map field_value (find (λ text. bytes_eq (field_name text) name) texts)

abbrev pub field : List ℕ → List ℕ → Option (List ℕ)
field key name = first_value name (field_texts key)

-- the same, a missing field being empty
abbrev pub field_or_empty : List ℕ → List ℕ → List ℕ
field_or_empty key name = option_map_or (λ value. value) (field key name) []

-- the type that a page tells: what stands between `v_` and the first `/`
abbrev pub page_kind : List ℕ → List ℕ
page_kind page = if starts_with nat_eq page (codes "v_") then before_first (λ b. b == 47) (drop 2 page) else []

-- the type of a key: its `t`, and without one what its page tells
abbrev pub kind : List ℕ → List ℕ
kind key = option_map_or (λ t. t) (field key (codes "t")) (page_kind (field_or_empty key (codes "page")))
