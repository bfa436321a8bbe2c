-- Arms that are told by their places: where no two tokens stand at one place, arms at one place that are entered alike are one.
use Rattle.std.specs.Prelude.{◌≡◌, ℕ, List, Some, slice_get}
use Rattle.std.specs.List.{AllZip}
use Rattle.vlog_tokens.specs.declared.token.Token.{Token}
use Rattle.vlog_tokens.specs.declared.token_list.TokenList.{TokenList}
use Rattle.vlog_tree.specs.declared.module.SourceFile.{SourceFile}
use Rattle.vlog_grammar.specs.Modules.{SpellsFile}
use Rattle.point_meaning.specs.Source.{Source}
use Rattle.point_meaning.specs.FromWalk.{IsPointSource}
use Rattle.point_meaning.specs.PointLaws.{PlacesTellArms}

-- No two tokens of some files stand at one place.
abbrev pub OneTokenAPlace : List TokenList → Type 0
OneTokenAPlace lists = (i j m n : ℕ) (a b : TokenList) (t u : Token) → slice_get lists i ≡ Some a → slice_get lists j ≡ Some b
    → slice_get a.tokens m ≡ Some t → slice_get b.tokens n ≡ Some u → t.place ≡ u.place → (i ≡ j) × (m ≡ n)

-- The arms of files that are spelled by such tokens are told by their places.
abbrev pub TokensTellArms : Type 0
TokensTellArms = (lists : List TokenList) (files : List SourceFile) (top clock : List ℕ) (source : Source)
    → AllZip SpellsFile lists files → OneTokenAPlace lists → IsPointSource files top clock source → PlacesTellArms source
