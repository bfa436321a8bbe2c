-- A few stimuli, by computation.
use Rattle.std.specs.Prelude.{◌≡◌, ℕ, List, [], ◌∷◌, ◌++◌, codes, length, Option, None, Some, Result, Ok, Err, refl, nat_lt, true, if◌then◌else◌}
use Rattle.std.specs.List.{flat_map}
use mathlib.Core.Path.{ap}
use Rattle.stim_lines.specs.Fields.{says, skipped, refused}
use Rattle.stim_lines.specs.Header.{Input}
use Rattle.stim_lines.specs.Stimulus.{stimulus_of}
use Rattle.stim_lines.specs.declared.fault.StimFault.{StimFault}
use Rattle.stim_lines.specs.declared.fault.StimFault.TheVariants.{BadHeader, UnknownInput, MissingInput, RepeatedInput, BadValue, TooWide, WrongCount}
use Rattle.stim_lines.specs.declared.fault.StimFault.TheVariants.{BadRepeat, TooManyCycles, LineTooLong}
use Rattle.stim_lines.specs.declared.row.Row.{Row}
use Rattle.stim_lines.specs.declared.row.StimText.{StimText}

-- lines, each ended by a line feed
abbrev text_of : List (List ℕ) → List ℕ
text_of ls = flat_map (λ l. l ++ 10 ∷ []) ls

abbrev input : List ℕ → ℕ → Input
input name width = record { name = name; width = width }

abbrev row : List ℕ → ℕ → Row
row values repeat = record { values = values; repeat = repeat }

abbrev gives : List Row → Option StimFault → Result StimText StimFault
gives rows fault = Ok (record { rows = rows; fault = fault })

-- the inputs `rst` and `a` of one bit
abbrev two : List Input
two = input (codes "rst") 1 ∷ input (codes "a") 1 ∷ []

bad_value : stimulus_of two (text_of (codes "rst a" ∷ codes "0 1" ∷ codes "0 1" ∷ codes "0 1g" ∷ []))
    ≡ gives (row (0 ∷ 1 ∷ []) 1 ∷ row (0 ∷ 1 ∷ []) 1 ∷ []) (Some (BadValue 4))
bad_value = refl

-- in another order, with notes, more blanks, and a last line without line feed
any_order : stimulus_of two (codes "# note" ++ 10 ∷ codes "a   rst" ++ 10 ∷ codes "#" ++ 10 ∷ codes " 1 0 x3") ≡ gives (row (0 ∷ 1 ∷ []) 3 ∷ []) None
any_order = refl

no_header : stimulus_of two (text_of (codes "# note" ∷ [])) ≡ Err (BadHeader 1)
no_header = refl

unknown_first : stimulus_of two (text_of (codes "rst b rst" ∷ [])) ≡ Err (UnknownInput 1)
unknown_first = refl

repeated : stimulus_of two (text_of (codes "rst rst" ∷ [])) ≡ Err (RepeatedInput 1)
repeated = refl

missing : stimulus_of two (text_of ([] ∷ [])) ≡ Err (MissingInput 1)
missing = refl

-- the number of cycles is looked at before the number of values, and those before the values
bad_repeat : stimulus_of two (text_of (codes "rst a" ∷ codes "g x0" ∷ [])) ≡ gives [] (Some (BadRepeat 2))
bad_repeat = refl

wrong_count : stimulus_of two (text_of (codes "rst a" ∷ codes "g x1" ∷ [])) ≡ gives [] (Some (WrongCount 2))
wrong_count = refl

too_wide : stimulus_of two (text_of (codes "rst a" ∷ codes "2 g" ∷ [])) ≡ gives [] (Some (TooWide 2))
too_wide = refl

-- without inputs an empty line is a header, and a row
no_inputs : stimulus_of [] (text_of ([] ∷ [] ∷ codes "x9" ∷ [])) ≡ gives (row [] 1 ∷ row [] 9 ∷ []) None
no_inputs = refl

all_cycles : stimulus_of [] (text_of ([] ∷ codes "x4294967296" ∷ [])) ≡ gives (row [] 4294967296 ∷ []) None
all_cycles = refl

too_many_cycles : stimulus_of [] (text_of ([] ∷ codes "x1" ∷ codes "x4294967296" ∷ [])) ≡ gives (row [] 1 ∷ []) (Some (TooManyCycles 3))
too_many_cycles = refl

-- a note of 65,535 bytes is skipped, and one of 65,536 is too long
longest_note : (bytes : List ℕ) → length (35 ∷ bytes) ≡ 65535 → says 65536 1 (35 ∷ bytes, true) ≡ skipped
longest_note bytes e = ap (λ n. if nat_lt 65535 n then refused (LineTooLong 1) else skipped) e

longer_note : (bytes : List ℕ) → length (35 ∷ bytes) ≡ 65536 → says 65536 1 (35 ∷ bytes, true) ≡ refused (LineTooLong 1)
longer_note bytes e = ap (λ n. if nat_lt 65535 n then refused (LineTooLong 1) else skipped) e
