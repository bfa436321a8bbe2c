-- What the lines of an open stimulus say, and how much of it is taken.
use Rattle.std.specs.Prelude.{◌≡◌, ℕ, ◌+◌, ◌-◌, ◌≤◌, not, List, ◌++◌, filter, length, map, take, Option, Some}
use Rattle.std.specs.Option.{option_map}
use Rattle.cov_port.specs.Cutting.{Cutter, fresh_cutter, left_of}
use Rattle.cov_port.specs.Lines.{Line, bytes_of, lines_of}
use Rattle.cov_port.specs.Sums.{total}
use Rattle.stim_lines.specs.Fields.{Said, all_say, is_skipped}

-- what contracts see of the lines of an open stimulus: the cutter, and the number of the lines that it gave and their bytes
pub record LinesState : Type 0 where
  pub cutter : Cutter
  pub number : ℕ
  pub bytes : ℕ

-- of which nothing was read
abbrev pub fresh_lines : LinesState
fresh_lines = record { cutter = fresh_cutter; number = 0; bytes = 0 }

-- what the lines of these bytes say that aren't skipped, behind so many lines of so many bytes
abbrev pub heard : ℕ → ℕ → List ℕ → List Said
heard number bytes left = filter (λ s. not (is_skipped s)) (all_say (number + 1) bytes (lines_of left))

-- what is left to be heard, where the file's bytes are told
abbrev pub heard_left : LinesState → Option (List ℕ) → Option (List Said)
heard_left lines rest = option_map (heard lines.number lines.bytes) (left_of lines.cutter rest)

-- The lines stand in this text, behind its first ones.
pub record StandsIn (text : List ℕ) (lines : LinesState) (rest : Option (List ℕ)) : Type 0 where
  pub front : List ℕ
  pub before : List Line
  pub left : List ℕ
  pub told : left_of lines.cutter rest ≡ Some left
  pub split : text ≡ front ++ left
  pub parts : lines_of text ≡ before ++ lines_of left
  pub number : lines.number ≡ length before
  pub bytes : lines.bytes ≡ total (map bytes_of before)
  pub counted : length front ≡ lines.bytes

-- the bytes of the lines before the line with this number
abbrev pub bytes_before_line : ℕ → List ℕ → ℕ
bytes_before_line number text = total (map bytes_of (take (number - 1) (lines_of text)))

-- Of the text no more was taken than the lines before this one, and 65,536 bytes.
pub record IsFrugal (text : List ℕ) (rest : Option (List ℕ)) (number : ℕ) : Type 0 where
  pub taken : List ℕ
  pub left : List ℕ
  pub told : rest ≡ Some left
  pub split : text ≡ taken ++ left
  pub few : length taken ≤ bytes_before_line number text + 65536
