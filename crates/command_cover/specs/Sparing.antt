-- How much is taken of a data file that is refused at a line (docs/commands.md, "cover").
use Rattle.std.specs.Prelude.{◌≡◌, ℕ, List, Option, Some, IfSome, Contains}
use Rattle.cov_port.specs.Files.{Names}
use Rattle.cov_dat.specs.Reading.{reading}
use Rattle.cov_dat.specs.Streaming.{IsFrugal, line_of}
use Rattle.cov_dat.specs.declared.fault.DataFault.{DataFault}
use Rattle.command_ending.specs.declared.status.Status.{Status}
use Rattle.command_ending.specs.declared.status.Status.TheVariants.{BadData}
use Rattle.command_cover.specs.CoverReading.{refusal_of}

-- The file of this name and text was refused with this line, and of its bytes no more was taken than those of the lines before
-- the refused one, and 65,536 more.
pub record TakesFew (name text said : List ℕ) (rest : Option (List ℕ)) : Type 0 where
  pub flaw : DataFault
  pub number : ℕ
  pub refused : (reading text).fault ≡ Some flaw
  pub at : line_of flaw ≡ Some number
  pub line : said ≡ (refusal_of name flaw).line
  pub few : IsFrugal text rest number

-- the same of what a name holds
abbrev pub TakesFewAt : List ℕ → List ℕ → Option (List ℕ) → Names → Type 0
TakesFewAt name said rest held = (text : List ℕ) × (held name ≡ Some text) × TakesFew name text said rest

-- the same of one of the names
abbrev pub TakesFewOf : List (List ℕ) → List ℕ → Option (List ℕ) → Names → Type 0
TakesFewOf names said rest held = (name : List ℕ) × Contains names name × TakesFewAt name said rest held

-- where the names' contents are told, so much is taken of the one that is refused at a line
abbrev pub IsSparing : List (List ℕ) → Status → List ℕ → Option (List ℕ) → Option Names → Type 0
IsSparing names ended said rest told = ended ≡ BadData → IfSome told (TakesFewOf names said rest)
