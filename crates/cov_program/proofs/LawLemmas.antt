-- Words have one answer at most, and are done where nothing is wrong.
use Rattle.std.proofs.Common.{◌≡◌, ◌⊎◌, ℕ, List, sym, ◌∙◌, ap, subst, Option, None, Some}
use Rattle.std.specs.Prelude.{◌↔◌, IsPermutation, IsSomeAnd}
use Rattle.cov_port.specs.Files.{Names}
use Rattle.command_ending.specs.Answer.{Answer}
use Rattle.command_ending.specs.Leaves.{Leaves}
use Rattle.command_ending.specs.World.{IsCalm, World}
use Rattle.command_ending.specs.declared.status.Status.{Status}
use Rattle.command_ending.specs.declared.status.Status.TheVariants.{Done, NoMemory}
use Rattle.command_ending.proofs.DoneLemmas.{AreDone, done_unless_wanting}
use Rattle.command_check.specs.Agree.{Agree, same}
use Rattle.command_check.specs.Laws.{OneCheck, IsDoneUnlessWrong as CheckIsDone}
use Rattle.command_cover.specs.Merge.{IsMergeAnswer, merge_to}
use Rattle.cover_answer.specs.Laws.{OneCover, IsDoneUnlessWrong as CoverIsDone, WritesInAnyOrder, WritingMerges as CoverMerges, writing}
use Rattle.sim_answer.specs.SimAnswer.{IsSimAnswer}
use Rattle.sim_answer.specs.Simulation.{Simulation}
use Rattle.cov_program.specs.Laws.{IsRight, RunsWell}
use Rattle.cov_program.specs.Promises.{promise_of, task_promise}
use Rattle.cov_program.specs.Words.{Task, checking, covering, simulating, task_of}

agree : (a b : Answer) → a ≡ b → Agree a b
agree a b is = subst (λ (x : Answer). Agree a x) is same

-- a `sim` has one answer at most
abbrev pub SimsAgree : Type 0
SimsAgree = (held : Names) (asked : Simulation) (a b : Answer) → IsSimAnswer held asked a → IsSimAnswer held asked b → a ≡ b

-- a task has one answer
pub tasks_agree : OneCheck → OneCover → SimsAgree → (task : Option Task) (held : Names) (a b : Answer)
    → (task_promise task).Answers held a → (task_promise task).Answers held b → Agree a b
tasks_agree check cover sim None held a b one two = agree a b (one ∙ sym two)
tasks_agree check cover sim (Some (checking names)) held a b one two = check held names a b one two
tasks_agree check cover sim (Some (simulating asked)) held a b one two =
    agree a b (sim held asked a b one two)
tasks_agree check cover sim (Some (covering asked)) held a b one two = agree a b (cover held asked a b one two)

-- a `sim` that runs well is done
abbrev pub SimIsDone : Type 0
SimIsDone = (held : Names) (asked : Simulation) → RunsWell held asked → (answer : Answer) → IsSimAnswer held asked answer → answer.status ≡ Done

right_done : CheckIsDone → CoverIsDone → SimIsDone → (task : Option Task) (held : Names) → IsRight task held
    → (answer : Answer) → (task_promise task).Answers held answer → answer.status ≡ Done
right_done check cover sim None held right answer is = absurd right
right_done check cover sim (Some (simulating asked)) held right answer is = sim held asked right answer is
right_done check cover sim (Some (checking names)) held right answer is =
    ap (λ (a : Answer). a.status) (check held names right.1.0 right.1.1 answer right.0 right.1.2 right.1.3 is)
right_done check cover sim (Some (covering asked)) held right answer is =
    let made = cover held asked answer right.0 right.1.0 right.1.1 is in ap (λ (a : Answer). a.status) made.1

each_done : CheckIsDone → CoverIsDone → SimIsDone → (task : Option Task) (told : Option Names)
    → IsSomeAnd told (IsRight task) → AreDone (task_promise task) told
each_done check cover sim task None right = right
each_done check cover sim task (Some held) right = right_done check cover sim task held right

-- words with which nothing is wrong
pub words_done : CheckIsDone → CoverIsDone → SimIsDone → (words : List (List ℕ)) (said : List ℕ) (old new : World) (ended : Status)
    → Leaves (promise_of words) said old new ended
    → IsCalm old new → IsSomeAnd old.held (IsRight (task_of words)) → (ended ≡ Done) ⊎ (ended ≡ NoMemory)
words_done check cover sim words said old new ended leaves calm right =
    done_unless_wanting (promise_of words) said old new ended leaves calm (each_done check cover sim (task_of words) old.held right)

-- what answers a task answers words that ask for it
asked_for : (words : List (List ℕ)) (task : Task) (held : Names) (a : Answer) → task_of words ≡ Some task
    → (promise_of words).Answers held a ↔ (task_promise (Some task)).Answers held a
asked_for words task held a asks = (
  λ is. subst (λ (t : Option Task). (task_promise t).Answers held a) asks is,
  λ is. subst (λ (t : Option Task). (task_promise t).Answers held a) (sym asks) is,
)

-- words that ask for the merged file alone
pub words_merge : CoverMerges → (words : List (List ℕ)) (held : Names) (out : List ℕ) (files : List (List ℕ)) (a : Answer)
    → task_of words ≡ Some (covering (writing out files)) → (promise_of words).Answers held a ↔ IsMergeAnswer held (merge_to out files) a
words_merge law words held out files a asks =
    let same = asked_for words (covering (writing out files)) held a asks in
    let merges = law held out files a in
    (λ is. merges.0 (same.0 is), λ is. same.1 (merges.1 is))

-- and in another order of their files
pub words_in_any_order : WritesInAnyOrder → (words others : List (List ℕ)) (held : Names) (out : List ℕ) (xs ys : List (List ℕ)) (a : Answer)
    → task_of words ≡ Some (covering (writing out xs)) → task_of others ≡ Some (covering (writing out ys)) → IsPermutation xs ys
    → (promise_of words).Answers held a → a.status ≡ Done → (promise_of others).Answers held a
words_in_any_order law words others held out xs ys a asks asks_too moved is all_done =
    let one = asked_for words (covering (writing out xs)) held a asks in
    let two = asked_for others (covering (writing out ys)) held a asks_too in
    two.1 (law held out xs ys a moved (one.0 is) all_done)
