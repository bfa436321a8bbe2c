-- The answer to a check of design files (docs/commands.md, "check").
use Rattle.std.specs.Prelude.{◌≡◌, ℕ, ◌+◌, ◌<◌, ◌≤◌, ◌++◌, List, [], ◌∷◌, length, map, sum, None, Some, Ok, Err, codes, decimal}
use Rattle.cov_port.specs.Files.{Names}
use Rattle.cov_types.specs.Limits.{most}
use Rattle.cov_types.specs.declared.limit.LimitName.TheVariants.{Files, DesignBytes}
use Rattle.cov_types.specs.declared.place.Place.{Place}
use Rattle.vlog_tokens.specs.declared.token_list.TokenList.{TokenList}
use Rattle.vlog_lexer.specs.Reading.{IsReadingOf}
use Rattle.vlog_lexer.specs.declared.fault.LexFault.{LexFault}
use Rattle.vlog_lexer.specs.declared.fault.LexFault.TheVariants as lex
use Rattle.vlog_tree.specs.declared.module.SourceFile.{SourceFile}
use Rattle.vlog_grammar.specs.Tokens.{IsPlaceOf}
use Rattle.vlog_grammar.specs.Modules.{SpellsFile}
use Rattle.command_ending.specs.Answer.{Answer, absent, bad_design, done, over_limit, refused_with}
use Rattle.command_ending.specs.ErrorLines.{memory_line}
use Rattle.command_ending.specs.declared.status.Status.TheVariants.{NoMemory}

-- The names hold these texts, which have together no more bytes than are taken.
pub record AreRead (held : Names) (names texts : List (List ℕ)) : Type 0 where
  pub hold : map held names ≡ map Some texts
  pub few : sum (map length texts) ≤ most DesignBytes

-- Reading the files to their ends in turn stops, and this is the answer.
pub data StopsReading (held : Names) (names : List (List ℕ)) : Answer → Type 0 where
  -- at a name that isn't held
  lacking : (before after texts : List (List ℕ)) (name : List ℕ) → names ≡ before ++ name ∷ after
      → AreRead held before texts → held name ≡ None → StopsReading held names (absent name)
  -- at a file with which the bytes are too many
  too_long : (before after texts : List (List ℕ)) (name text : List ℕ) → names ≡ before ++ name ∷ after
      → AreRead held before texts → held name ≡ Some text → most DesignBytes < sum (map length (texts ++ text ∷ []))
      → StopsReading held names (over_limit DesignBytes)

-- The text of the file with this number has tokens, and they have this tree.
pub record IsDesign (number : ℕ) (text : List ℕ) (file : SourceFile) : Type 0 where
  pub tokens : TokenList
  pub reading : IsReadingOf number text (Ok tokens)
  pub tree : SpellsFile tokens file

-- The texts are those of files with numbers from this one on, and the files have these trees.
abbrev pub AreDesigns : ℕ → List (List ℕ) → List SourceFile → Type 0
AreDesigns number [] [] = Unit {0}
AreDesigns number [] (file ∷ files) = ⊥
AreDesigns number (text ∷ texts) [] = ⊥
AreDesigns number (text ∷ texts) (file ∷ files) = IsDesign number text file × AreDesigns (number + 1) texts files

-- what a fault of tokens comes to; want of memory is none, and no text reads so
abbrev pub token_refusal : List ℕ → LexFault → Answer
token_refusal name (lex.BadByte place) = bad_design name place (codes "BadByte")
token_refusal name (lex.BadNumber place) = bad_design name place (codes "BadNumber")
token_refusal name (lex.NumberTooWide place) = bad_design name place (codes "NumberTooWide")
token_refusal name (lex.OpenComment place) = bad_design name place (codes "OpenComment")
token_refusal name (lex.OpenString place) = bad_design name place (codes "OpenString")
token_refusal name (lex.Directive place) = bad_design name place (codes "Directive")
token_refusal name (lex.ReservedName place) = bad_design name place (codes "ReservedName")
token_refusal name (lex.Limit limit) = over_limit limit
token_refusal name lex.NoMemory = refused_with NoMemory memory_line

-- The file with this number and name is refused: for the first fault or limit of its tokens, or, where it has none,
-- since its tokens have no tree. The place is then that of one of the tokens.
pub data RefusesDesign (number : ℕ) (name text : List ℕ) : Answer → Type 0 where
  tokens : (fault : LexFault) → IsReadingOf number text (Err fault) → RefusesDesign number name text (token_refusal name fault)
  grammar : (tokens : TokenList) (place : Place) → IsReadingOf number text (Ok tokens) → ((file : SourceFile) → SpellsFile tokens file → ⊥)
      → IsPlaceOf tokens.tokens place → RefusesDesign number name text (bad_design name place (codes "Syntax"))

-- One of the files is refused, with this name and text at one place, and those before it are designs.
pub record RefusesOne (names texts : List (List ℕ)) (answer : Answer) : Type 0 where
  pub names_before : List (List ℕ)
  pub name : List ℕ
  pub names_after : List (List ℕ)
  pub texts_before : List (List ℕ)
  pub text : List ℕ
  pub texts_after : List (List ℕ)
  pub names_split : names ≡ names_before ++ name ∷ names_after
  pub texts_split : texts ≡ texts_before ++ text ∷ texts_after
  pub same_number : length names_before ≡ length texts_before
  pub files : List SourceFile
  pub designs : AreDesigns 0 texts_before files
  pub refusal : RefusesDesign (length names_before) name text answer

-- the number of modules of all files
abbrev pub module_count : List SourceFile → ℕ
module_count files = sum (map (λ (file : SourceFile). length file.modules) files)

-- `modules N`, as a line
abbrev pub modules_line : ℕ → List ℕ
modules_line count = codes "modules " ++ decimal count ++ 10 ∷ []

abbrev pub accepted : List SourceFile → Answer
accepted files = done (modules_line (module_count files)) []

-- This is the answer to a check of the files.
pub data IsCheckAnswer (held : Names) (names : List (List ℕ)) : Answer → Type 0 where
  -- More files than the limit are refused before any is read.
  too_many : most Files < length names → IsCheckAnswer held names (over_limit Files)
  -- All files are read before any is looked at.
  stopped : (answer : Answer) → length names ≤ most Files → StopsReading held names answer → IsCheckAnswer held names answer
  -- The first file that is refused decides.
  refused_file : (texts : List (List ℕ)) (answer : Answer) → length names ≤ most Files → AreRead held names texts
      → RefusesOne names texts answer → IsCheckAnswer held names answer
  all_accepted : (texts : List (List ℕ)) (files : List SourceFile)
      → length names ≤ most Files → AreRead held names texts → AreDesigns 0 texts files → IsCheckAnswer held names (accepted files)
