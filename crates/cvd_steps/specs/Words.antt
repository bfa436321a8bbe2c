-- The first words of steps.
use Rattle.std.specs.Prelude.{Bool, false, List, [], ◌∷◌, codes}
use Rattle.cvd_text.specs.Pieces.{Piece, fits, token}
use Rattle.cvd_text.specs.Tokens.{word}
use Rattle.cvd_nodes.specs.Heads.{Entry, entry}
use Rattle.cvd_step_laws.specs.StepMarks.{StepHead, a_set, a_later, an_if, a_case, a_show, a_finish, a_stop, a_count}
use Rattle.cvd_steps.specs.declared.word.StepWord.{StepWord}
use Rattle.cvd_steps.specs.declared.word.StepWord.TheVariants as w

abbrev pub head_of : StepWord → StepHead
head_of w.Set = a_set
head_of w.Later = a_later
head_of w.If = an_if
head_of w.Case = a_case
head_of w.Show = a_show
head_of w.Finish = a_finish
head_of w.Stop = a_stop
head_of w.Count = a_count

abbrev pub step_table : List (Entry StepHead)
step_table =
    entry (codes "set") a_set ∷ entry (codes "later") a_later ∷ entry (codes "if") an_if ∷ entry (codes "case") a_case ∷ entry (codes "show") a_show
    ∷ entry (codes "finish") a_finish ∷ entry (codes "stop") a_stop ∷ entry (codes "count") a_count ∷ []

-- whether the end of a block comes next
abbrev pub begins_with_end : List Piece → Bool
begins_with_end [] = false
begins_with_end (p ∷ ps) = fits p (token (word (codes "end")))
