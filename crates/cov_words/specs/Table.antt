-- The commands and their options (docs/commands.md, "Words").
use Rattle.std.specs.Prelude.{ℕ, ◌^◌, ◌-◌, Bool, true, false, is_some, List, [], ◌∷◌, Option, None, Some, codes, find}
use Rattle.std.specs.Str.{bytes_eq}
use Rattle.vlog_words.specs.Identifier.{is_identifier}
use Rattle.cov_words.specs.Values.{is_name, is_pattern, number_in}
use Rattle.cov_words.specs.declared.table.CommandName.{CommandName}
use Rattle.cov_words.specs.declared.table.CommandName.TheVariants.{Check, Build, Sim, Cover, SelfTest}
use Rattle.cov_words.specs.declared.table.OptionName.{OptionName}
use Rattle.cov_words.specs.declared.table.OptionName.TheVariants.{Top, Out, Clock, Coverage, CoverageLine, CoverageToggle, CoverageUser, CoverageUnderscore}
use Rattle.cov_words.specs.declared.table.OptionName.TheVariants.{CoverageMaxWidth, CountBits, Data, Write, WriteInfo, Rank, Annotate, AnnotateAll}
use Rattle.cov_words.specs.declared.table.OptionName.TheVariants.{AnnotatePoints, AnnotateMin, FilterType}
use Rattle.cov_words.specs.declared.table.Takes.{Takes}
use Rattle.cov_words.specs.declared.table.Takes.TheVariants.{Nothing, Name, Identifier, Pattern, Number}

-- the table of options: the word of each, and what it takes
abbrev pub about : OptionName → List ℕ × Takes
about Top = (codes "--top", Identifier)
about Out = (codes "--out", Name)
about Clock = (codes "--clock", Identifier)
about Coverage = (codes "--coverage", Nothing)
about CoverageLine = (codes "--coverage-line", Nothing)
about CoverageToggle = (codes "--coverage-toggle", Nothing)
about CoverageUser = (codes "--coverage-user", Nothing)
about CoverageUnderscore = (codes "--coverage-underscore", Nothing)
about CoverageMaxWidth = (codes "--coverage-max-width", Number 0 (2 ^ 32))
about CountBits = (codes "--count-bits", Number 1 64)
about Data = (codes "--data", Name)
about Write = (codes "--write", Name)
about WriteInfo = (codes "--write-info", Name)
about Rank = (codes "--rank", Nothing)
about Annotate = (codes "--annotate", Name)
about AnnotateAll = (codes "--annotate-all", Nothing)
about AnnotatePoints = (codes "--annotate-points", Nothing)
about AnnotateMin = (codes "--annotate-min", Number 0 (2 ^ 64 - 1))
about FilterType = (codes "--filter-type", Pattern)

abbrev pub word_of : OptionName → List ℕ
word_of o = (about o).0

abbrev pub takes : OptionName → Takes
takes o = (about o).1

-- a command is a word, its options, and the least and the greatest number of names that it takes
pub record Row : Type 0 where
  pub word : List ℕ
  pub options : List OptionName
  pub least : ℕ
  pub most : Option ℕ

abbrev pub row : List ℕ → List OptionName → ℕ → Option ℕ → Row
row word options least most = record { word = word; options = options; least = least; most = most }

-- the table of commands
abbrev pub row_of : CommandName → Row
row_of Check = row (codes "check") [] 1 None
row_of Build = row (codes "build") (Top ∷ Out ∷ Clock ∷ Coverage ∷ CoverageLine ∷ CoverageToggle ∷ CoverageUser ∷ CoverageUnderscore ∷ CoverageMaxWidth ∷ [])
    1 None
row_of Sim = row (codes "sim") (CountBits ∷ Data ∷ []) 2 (Some 2)
row_of Cover = row (codes "cover") (Write ∷ WriteInfo ∷ Rank ∷ Annotate ∷ AnnotateAll ∷ AnnotatePoints ∷ AnnotateMin ∷ FilterType ∷ []) 1 None
row_of SelfTest = row (codes "selftest") [] 1 (Some 1)

abbrev pub commands : List CommandName
commands = Check ∷ Build ∷ Sim ∷ Cover ∷ SelfTest ∷ []

-- the command with this word, if there is one
abbrev pub command_named : List ℕ → Option CommandName
command_named word = find (λ c. bytes_eq word (row_of c).word) commands

-- the option of the command with this word, if it has one
abbrev pub option_named : CommandName → List ℕ → Option OptionName
option_named c word = find (λ o. bytes_eq word (word_of o)) (row_of c).options

-- an option that takes no value
abbrev pub is_nothing : Takes → Bool
is_nothing Nothing = true
is_nothing _ = false

abbrev pub is_flag : OptionName → Bool
is_flag o = is_nothing (takes o)

-- whether a text is a value of what an option takes; one that takes nothing has the empty text
abbrev pub is_value_of : Takes → List ℕ → Bool
is_value_of Nothing text = true
is_value_of Name text = is_name text
is_value_of Identifier text = is_identifier text
is_value_of Pattern text = is_pattern text
is_value_of (Number least most) text = is_some (number_in least most text)
