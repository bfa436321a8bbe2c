-- Laws of the program's answers.
use Rattle.std.specs.Prelude.{◌≡◌, ◌↔◌, ◌⊎◌, ◌≤◌, ℕ, List, length, Option, None, Some, Ok, IsPermutation, IsSomeAnd}
use Rattle.cov_types.specs.Limits.{most}
use Rattle.cov_types.specs.declared.limit.LimitName.TheVariants.{Files}
use Rattle.cov_port.specs.Files.{Names}
use Rattle.vlog_tree.specs.declared.module.SourceFile.{SourceFile}
use Rattle.command_ending.specs.Answer.{Answer}
use Rattle.command_ending.specs.Leaves.{Leaves}
use Rattle.command_ending.specs.World.{IsCalm, World}
use Rattle.command_ending.specs.declared.status.Status.{Status}
use Rattle.command_ending.specs.declared.status.Status.TheVariants.{Done, NoMemory}
use Rattle.command_check.specs.Agree.{Agree}
use Rattle.command_check.specs.CheckAnswer.{AreDesigns, AreRead}
use Rattle.command_cover.specs.Merge.{IsMergeAnswer, merge_to}
use Rattle.cover_answer.specs.CoverAnswer.{arrivals_for, counts_in}
use Rattle.cover_answer.specs.Gathering.{IsGathered}
use Rattle.cover_answer.specs.Laws.{writing}
use Rattle.cover_answer.specs.Reports.{report_refusal}
use Rattle.cov_program.specs.Promises.{promise_of}
use Rattle.design_tree.specs.declared.instrumented.Instrumented.{Instrumented}
use Rattle.circuit_run.specs.Ends.{stopped}
use Rattle.design_meaning.specs.Runs.{IsRun}
use Rattle.stim_lines.specs.Header.{inputs_of}
use Rattle.stim_lines.specs.Stimulus.{stimulus_of}
use Rattle.stim_lines.specs.declared.row.StimText.{StimText}
use Rattle.sim_answer.specs.SimAnswer.{HoldsDesign, values_of}
use Rattle.sim_answer.specs.Simulation.{Simulation}
use Rattle.cov_program.specs.Words.{Task, checking, covering, simulating, task_of}

-- words have one answer at most, but for the place where tokens are outside the grammar
abbrev pub AnswersAgree : Type 0
AnswersAgree = (words : List (List ℕ)) (held : Names) (a b : Answer) → (promise_of words).Answers held a → (promise_of words).Answers held b → Agree a b

-- The design of a `sim` flows, no line of its stimulus is refused, and no run of the one on the other executes `$stop`.
pub record RunsWell (held : Names) (asked : Simulation) : Type 0 where
  pub design : Instrumented
  pub text : List ℕ
  pub stim : StimText
  pub holds_design : HoldsDesign held asked.design design
  pub holds : held asked.stimulus ≡ Some text
  pub read : stimulus_of (inputs_of design.design) text ≡ Ok stim
  pub whole : stim.fault ≡ None
  pub unstopped : (out : List ℕ) (counts : List ℕ) → IsRun design (values_of stim.rows) out stopped counts → ⊥

-- Nothing is wrong with what a task reads: there are few enough files; of a check, all are held and are designs, and of
-- a `cover`, none of what they hold is a reason to stop, and no report is refused. A `sim` runs well.
abbrev pub IsRight : Option Task → Names → Type 0
IsRight None held = ⊥
IsRight (Some (checking names)) held = (length names ≤ most Files)
    × ((texts : List (List ℕ)) × (files : List SourceFile) × AreRead held names texts × AreDesigns 0 texts files)
IsRight (Some (simulating asked)) held = RunsWell held asked
IsRight (Some (covering asked)) held = (length asked.files ≤ most Files)
    × (IsGathered asked.rank (arrivals_for held asked) × (report_refusal held asked (counts_in (arrivals_for held asked)) ≡ None))

-- a call with which nothing is wrong, and in which no call on files or output fails, is done, unless memory is wanted
abbrev pub IsDoneUnlessWrong : Type 0
IsDoneUnlessWrong = (words : List (List ℕ)) (said : List ℕ) (old new : World) (ended : Status) → Leaves (promise_of words) said old new ended
    → IsCalm old new → IsSomeAnd old.held (IsRight (task_of words)) → (ended ≡ Done) ⊎ (ended ≡ NoMemory)

-- words that ask for the merged file alone have the answers of a merge
abbrev pub WritingMerges : Type 0
WritingMerges = (words : List (List ℕ)) (held : Names) (out : List ℕ) (files : List (List ℕ)) (a : Answer)
    → task_of words ≡ Some (covering (writing out files)) → (promise_of words).Answers held a ↔ IsMergeAnswer held (merge_to out files) a

-- such a call that is done is done with the same answer where its files are read in another order
abbrev pub MergesInAnyOrder : Type 0
MergesInAnyOrder = (words others : List (List ℕ)) (held : Names) (out : List ℕ) (xs ys : List (List ℕ)) (a : Answer)
    → task_of words ≡ Some (covering (writing out xs)) → task_of others ≡ Some (covering (writing out ys)) → IsPermutation xs ys
    → (promise_of words).Answers held a → a.status ≡ Done → (promise_of others).Answers held a
