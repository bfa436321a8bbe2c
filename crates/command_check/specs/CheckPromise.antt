-- What a check promises for its words alone.
use Rattle.std.specs.Prelude.{ℕ, ◌<◌, ◌≤◌, false, List, length, codes, Contains}
use Rattle.cov_types.specs.Limits.{most}
use Rattle.cov_types.specs.declared.limit.LimitName.{LimitName}
use Rattle.cov_types.specs.declared.limit.LimitName.TheVariants.{Files, DesignBytes, Identifier, Nesting, Operators, Branches}
use Rattle.cov_types.specs.declared.place.Place.{Place}
use Rattle.vlog_lexer.specs.Origins.{IsFromOne}
use Rattle.command_ending.specs.ErrorLines.{design_line, limit_line}
use Rattle.command_ending.specs.Promise.{Promise}
use Rattle.command_ending.specs.declared.status.Status.{Status}
use Rattle.command_ending.specs.declared.status.Status.TheVariants.{BadDesign, Limit}
use Rattle.command_check.specs.CheckAnswer.{IsCheckAnswer}

-- a code of a place in a design file
pub data IsDesignCode : List ℕ → Type 0 where
  bad_byte : IsDesignCode (codes "BadByte")
  bad_number : IsDesignCode (codes "BadNumber")
  number_too_wide : IsDesignCode (codes "NumberTooWide")
  open_comment : IsDesignCode (codes "OpenComment")
  open_string : IsDesignCode (codes "OpenString")
  directive : IsDesignCode (codes "Directive")
  reserved_name : IsDesignCode (codes "ReservedName")
  syntax : IsDesignCode (codes "Syntax")

-- a limit that the tokens of a file may pass
pub data IsTokenLimit : LimitName → Type 0 where
  identifier : IsTokenLimit Identifier
  nesting : IsTokenLimit Nesting
  operators : IsTokenLimit Operators
  branches : IsTokenLimit Branches

-- A file of this name may be refused so: at a place, whose line and column count from 1, with a code; or since its tokens pass a limit.
pub data DesignRefuses (name : List ℕ) : Status → List ℕ → Type 0 where
  at_place : (place : Place) (code : List ℕ) → IsFromOne place → IsDesignCode code → DesignRefuses name BadDesign (design_line name place code)
  past_limit : (limit : LimitName) → IsTokenLimit limit → DesignRefuses name Limit (limit_line limit)

-- A check of these files may be refused so: there are too many, and only then; all have too many bytes; or one of them is refused.
pub data CheckRefuses (files : List (List ℕ)) : Status → List ℕ → Type 0 where
  too_many : most Files < length files → CheckRefuses files Limit (limit_line Files)
  too_long : length files ≤ most Files → CheckRefuses files Limit (limit_line DesignBytes)
  in_file : (name : List ℕ) (status : Status) (line : List ℕ) → length files ≤ most Files → Contains files name
      → DesignRefuses name status line → CheckRefuses files status line

-- A check answers, is refused, and reads so. It stores nothing.
abbrev pub check_promise : List (List ℕ) → Promise
check_promise files = record {
  Answers = λ held answer. IsCheckAnswer held files answer;
  Refuses = CheckRefuses files;
  Reads = λ name. (length files ≤ most Files) × Contains files name;
  Stores = λ name. ⊥;
  prints_early = false;
}
