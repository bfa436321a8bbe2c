-- What one line of a stimulus says, apart from the design (docs/formats.md, "Stimulus").
use Rattle.std.specs.Prelude.{ℕ, ◌+◌, ◌==◌, Bool, true, false, not, nat_lt, List, [], ◌∷◌, filter, if◌then◌else◌}
use Rattle.std.specs.List.{slice_split}
use Rattle.cov_types.specs.Limits.{most}
use Rattle.cov_types.specs.declared.limit.LimitName.TheVariants.{StimulusBytes}
use Rattle.cov_port.specs.Lines.{Line, bytes_of, is_long, lines_of}
use Rattle.stim_lines.specs.declared.fault.StimFault.{StimFault}
use Rattle.stim_lines.specs.declared.fault.StimFault.TheVariants.{Limit, LineTooLong}

abbrev pub is_not_empty : List ℕ → Bool
is_not_empty [] = false
is_not_empty (b ∷ bs) = true

abbrev pub is_blank : ℕ → Bool
is_blank b = b == 32

abbrev pub is_field_byte : ℕ → Bool
is_field_byte b = not (is_blank b)

-- the fields of a line: its runs of bytes other than blanks
abbrev pub fields_of : List ℕ → List (List ℕ)
fields_of line = filter is_not_empty (slice_split is_blank line)

-- a line that begins with '#'
abbrev pub is_note : List ℕ → Bool
is_note [] = false
is_note (b ∷ bs) = b == 35

-- what a line says: nothing, a fault of its own, or fields
pub data Said : Type 0 where
  skipped : Said
  refused : StimFault → Said
  spoken : ℕ → List (List ℕ) → Said

-- The line with this number, where the text has so many bytes up to its end: the limit on bytes comes first, and then
-- the length of the line, whatever else it is.
abbrev pub says : ℕ → ℕ → Line → Said
says bytes n l =
    if nat_lt (most StimulusBytes) bytes then refused (Limit StimulusBytes)
    else if is_long l then refused (LineTooLong n)
    else if is_note l.0 then skipped
    else spoken n (fields_of l.0)

-- what each line says, from the line with number n on, behind this many bytes
abbrev pub all_say : ℕ → ℕ → List Line → List Said
all_say n before [] = []
all_say n before (l ∷ ls) = says (before + bytes_of l) n l ∷ all_say (n + 1) (before + bytes_of l) ls

abbrev pub is_skipped : Said → Bool
is_skipped skipped = true
is_skipped (refused fault) = false
is_skipped (spoken n fields) = false

-- what the lines of a text say that aren't skipped
abbrev pub text_says : List ℕ → List Said
text_says text = filter (λ s. not (is_skipped s)) (all_say 1 0 (lines_of text))
