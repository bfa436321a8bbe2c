-- Laws of checking files.
use Rattle.std.specs.Prelude.{◌≡◌, ◌≤◌, ℕ, List, length}
use Rattle.cov_types.specs.Limits.{most}
use Rattle.cov_types.specs.declared.limit.LimitName.TheVariants.{Files}
use Rattle.cov_port.specs.Files.{Names}
use Rattle.vlog_tree.specs.declared.module.SourceFile.{SourceFile}
use Rattle.command_ending.specs.Answer.{Answer}
use Rattle.command_check.specs.Agree.{Agree}
use Rattle.command_check.specs.CheckAnswer.{AreDesigns, AreRead, IsCheckAnswer, accepted}

-- a check has one answer at most, but for the place where tokens are outside the grammar
abbrev pub OneCheck : Type 0
OneCheck = (held : Names) (names : List (List ℕ)) (a b : Answer) → IsCheckAnswer held names a → IsCheckAnswer held names b → Agree a b

-- a check of few enough files, all of which are held and are designs, prints the number of modules
abbrev pub IsDoneUnlessWrong : Type 0
IsDoneUnlessWrong = (held : Names) (names texts : List (List ℕ)) (files : List SourceFile) (answer : Answer) → length names ≤ most Files
    → AreRead held names texts → AreDesigns 0 texts files → IsCheckAnswer held names answer → answer ≡ accepted files
