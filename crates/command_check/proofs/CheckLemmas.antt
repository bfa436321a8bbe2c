-- How a check ends.
use Rattle.std.proofs.Common.{◌≡◌, ℕ, ◌<◌, ◌≤◌, List, [], length, map, refl, sym, subst, Option, arith}
use Rattle.std.specs.Prelude.{IfSome, Contains}
use Rattle.cov_types.specs.declared.limit.LimitName.TheVariants.{Files, DesignBytes}
use Rattle.cov_port.specs.Files.{Names, FileFaults}
use Rattle.vlog_tree.specs.declared.module.SourceFile.{SourceFile}
use Rattle.command_ending.specs.Answer.{Answer, done, over_limit, refused_with}
use Rattle.command_ending.specs.ErrorLines.{limit_line}
use Rattle.command_ending.specs.Ending.{line_at, status_at}
use Rattle.command_ending.specs.Finish.{IsFinish}
use Rattle.command_ending.specs.Leaves.{Leaves}
use Rattle.command_ending.specs.Stops.{IsRefusal, Stops}
use Rattle.command_ending.specs.World.{World}
use Rattle.command_ending.specs.declared.ending.Ending.{Ending}
use Rattle.command_ending.specs.declared.status.Status.{Status}
use Rattle.command_ending.specs.declared.status.Status.TheVariants.{Limit}
use Rattle.command_ending.proofs.FinishLemmas.{finish_leaves}
use Rattle.command_ending.proofs.PutLemmas.{always_told, if_told}
use Rattle.command_ending.proofs.StopLemmas.{refusal_stops, stops_weaker}
use Rattle.command_check.specs.CheckAnswer.{AreDesigns, AreRead, IsCheckAnswer, too_many, stopped, refused_file, all_accepted, RefusesOne, accepted}
use Rattle.command_check.specs.CheckAnswer.{module_count, modules_line}
use Rattle.command_check.specs.CheckPromise.{CheckRefuses, check_promise}
use Rattle.command_check.specs.CheckPromise as promise
use Rattle.command_check.specs.Steps.{IsTooLong, designs_promise}
use Rattle.vlog_lexer.specs.Origins.{FaultFromOne, TokensFromOne}
use Rattle.command_check.proofs.PlaceLemmas.{one_refuses}

limit_of : (files : List (List ℕ)) (status : Status) (line : List ℕ) → 4096 < length files → refused_with status line ≡ over_limit Files
    → CheckRefuses files status line
limit_of files status line many is = subst (λ (a : Answer). CheckRefuses files a.status a.line) (sym is) (promise.too_many many)

-- more files than are read
pub many_stop : (names : List (List ℕ)) (told : Option Names) (faults : FileFaults) (e : Ending) → 4096 < length names
    → IsRefusal (λ answer. answer ≡ over_limit Files) e
    → Stops (check_promise names) told faults faults e
many_stop names told faults e many is =
    refusal_stops (check_promise names) (λ answer. answer
    ≡ over_limit Files) told faults faults e refl (λ status line same. limit_of names status line many same)
    (always_told told _ (λ held answer same. subst (IsCheckAnswer held names) (sym same) (too_many many))) is

long_refuses : (names : List (List ℕ)) (status : Status) (line : List ℕ) → length names ≤ 4096 → IsTooLong status line → CheckRefuses names status line
long_refuses names status line few is =
    subst (λ (s : Status). CheckRefuses names s line) (sym is.status_is)
    (subst (λ (l : List ℕ). CheckRefuses names Limit l) (sym is.line_is) (promise.too_long few))

-- files that were not read
pub unread_stop : (names : List (List ℕ)) (told : Option Names) (before now : FileFaults) (e : Ending) → length names ≤ 4096
    → Stops (designs_promise names) told before now e → Stops (check_promise names) told before now e
unread_stop names told before now e few is =
    stops_weaker (designs_promise names) (check_promise names) told before now e (λ name there. (few, there))
    (λ status line may. long_refuses names status line few may)
    (always_told told _ (λ held answer one. stopped answer few one)) is

-- a design that is refused
pub refusal_stop : FaultFromOne → TokensFromOne → (names texts : List (List ℕ)) (told : Option Names) (before now : FileFaults) (e : Ending)
    → length names ≤ 4096 → now ≡ before
    → IfSome told (λ held. AreRead held names texts) → IsRefusal (RefusesOne names texts) e → Stops (check_promise names) told before now e
refusal_stop from_fault from_tokens names texts told before now e few quiet read is =
    refusal_stops (check_promise names) (RefusesOne names texts) told before now e quiet
    (λ status line one. one_refuses from_fault from_tokens names texts (refused_with status line) few one)
    (if_told told _ _ (λ held whole answer one. refused_file texts answer few whole one) read) is

-- the number of modules is put out
pub saying_leaves : (names texts : List (List ℕ)) (files : List SourceFile) (old new : World) (e : Ending) → length names ≤ 4096
    → IfSome old.held (λ held. AreRead held names texts) → AreDesigns 0 texts files → IsFinish (modules_line (module_count files)) [] old new e
    → Leaves (check_promise names) (line_at e) old new (status_at e)
saying_leaves names texts files old new e few read designs finished =
    finish_leaves (check_promise names) (modules_line (module_count files)) [] old new e
    (if_told old.held _ _ (λ held whole. all_accepted texts files few whole designs) read) (λ name there. absurd (omega (arith, there.1))) finished
