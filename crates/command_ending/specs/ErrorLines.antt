-- The lines on standard error (docs/commands.md, "Statuses").
use Rattle.std.specs.Prelude.{ℕ, List, [], ◌++◌, ◌∷◌, codes, decimal}
use Rattle.cov_types.specs.Limits.{limit_text}
use Rattle.cov_types.specs.declared.limit.LimitName.{LimitName}
use Rattle.cov_types.specs.declared.place.Place.{Place}

-- the program's name, what it says, and a line feed
abbrev pub error_line : List ℕ → List ℕ
error_line said = codes "vcov: " ++ said ++ 10 ∷ []

-- words that spell no command, want of memory, and a run that executed `$stop`
abbrev pub words_line : List ℕ
words_line = error_line (codes "BadWords")

abbrev pub memory_line : List ℕ
memory_line = error_line (codes "NoMemory")

abbrev pub stopped_line : List ℕ
stopped_line = error_line (codes "Stopped")

-- `Limit: NAME NUMBER`
abbrev pub limit_line : LimitName → List ℕ
limit_line name = error_line (codes "Limit: " ++ limit_text name)

-- `Fault: open FILE`, `Fault: read FILE`, `Fault: store FILE` and `Fault: output`
abbrev pub open_line : List ℕ → List ℕ
open_line name = error_line (codes "Fault: open " ++ name)

abbrev pub read_line : List ℕ → List ℕ
read_line name = error_line (codes "Fault: read " ++ name)

abbrev pub store_line : List ℕ → List ℕ
store_line name = error_line (codes "Fault: store " ++ name)

abbrev pub output_line : List ℕ
output_line = error_line (codes "Fault: output")

-- `BadDesign: FILE:LINE:COLUMN: CODE`
abbrev pub design_line : List ℕ → Place → List ℕ → List ℕ
design_line name place code =
    error_line (codes "BadDesign: " ++ name ++ codes ":" ++ decimal place.line ++ codes ":" ++ decimal place.column ++ codes ": " ++ code)

-- `BadData: FILE:LINE: CODE`
abbrev pub data_line : List ℕ → ℕ → List ℕ → List ℕ
data_line name n code = error_line (codes "BadData: " ++ name ++ codes ":" ++ decimal n ++ codes ": " ++ code)

-- `BadData: FILE@BYTE: CODE`
abbrev pub byte_line : List ℕ → ℕ → List ℕ → List ℕ
byte_line name n code = error_line (codes "BadData: " ++ name ++ codes "@" ++ decimal n ++ codes ": " ++ code)

-- `BadStimulus: FILE:LINE: CODE`
abbrev pub stimulus_line : List ℕ → ℕ → List ℕ → List ℕ
stimulus_line name n code = error_line (codes "BadStimulus: " ++ name ++ codes ":" ++ decimal n ++ codes ": " ++ code)
