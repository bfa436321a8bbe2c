-- Sources that are taken, and refusals of reports.
use Rattle.std.proofs.Common.{◌≡◌, ℕ, ◌+◌, ◌<◌, true, List, length, take, refl, sym, ◌∙◌, ap, Option, None, Some, arith}
use Rattle.std.specs.Prelude.{IfSome, nat_lt, min}
use Rattle.std.proofs.lemmas.List.{length-take}
use Rattle.cov_types.specs.declared.limit.LimitName.TheVariants.{SourceBytes}
use Rattle.cov_port.specs.Files.{Names, FileFaults}
use Rattle.cov_port.specs.Taking.{IsFrontOf}
use Rattle.report_text.specs.declared.report_fault.ReportFault.{ReportFault}
use Rattle.command_ending.specs.Answer.{Answer, over_limit}
use Rattle.command_ending.specs.Stops.{IsRefusal, Stops, taking}
use Rattle.command_ending.specs.declared.ending.Ending.{Ending}
use Rattle.command_ending.proofs.PutLemmas.{always_told}
use Rattle.command_ending.proofs.StopLemmas.{refusal_stops, refusal_weaker, stops_weaker}
use Rattle.cover_answer.specs.Reports.{first_reason}
use Rattle.cover_reports.specs.Sources.{answer_to, taking_reasons, source_promise}

-- the refusal of a fault
pub told : (e : Ending) (fault : ReportFault) (found : Answer) → answer_to fault ≡ Some found → IsRefusal (λ answer. answer ≡ found) e
    → IsRefusal (λ answer. answer_to fault ≡ Some answer) e
told e fault found is refusal = refusal_weaker _ _ e (λ a same. is ∙ ap {B = Option Answer} Some (sym same)) refusal

longer : (left : ℕ) (text bytes : List ℕ) → text ≡ take (left + 1) bytes → left < length text → nat_lt left (length bytes) ≡ true
longer left text bytes is past =
    let size : length text ≡ min (left + 1) (length bytes) = ap length is ∙ length-take (left + 1) bytes in
    lt_true left (length bytes) (omega (arith, past, size)) where
      lt_true : (a b : ℕ) → a < b → nat_lt a b ≡ true
      lt_true a b less = grind arith

past_held : (left : ℕ) (name text : List ℕ) (held : Option (List ℕ)) (bytes : List ℕ) (answer : Answer) → held ≡ Some bytes → text ≡ take (left + 1) bytes
    → left < length text
    → answer ≡ over_limit SourceBytes → first_reason (taking_reasons left held name) ≡ Some answer
past_held left name text held bytes answer is front past same = rw (is, longer left text bytes front past, same) refl

past_left : (told : Option Names) (left : ℕ) (name text : List ℕ) → IsFrontOf told name (left + 1) text → left < length text
    → IfSome told (λ held. (answer : Answer) → answer ≡ over_limit SourceBytes → first_reason (taking_reasons left (held name) name) ≡ Some answer)
past_left None left name text front past = tt
past_left (Some names) left name text front past = λ answer same. past_held left name text (names name) front.0 answer front.1 front.2 past same

-- a source that takes more than is left
pub long_stops : (told : Option Names) (left : ℕ) (name text : List ℕ) (before now : FileFaults) (e : Ending) → now ≡ before
    → IsFrontOf told name (left + 1) text → left < length text
    → IsRefusal (λ answer. answer ≡ over_limit SourceBytes) e → Stops (source_promise left name) told before now e
long_stops told left name text before now e quiet front past is =
    refusal_stops (source_promise left name) (λ answer. answer ≡ over_limit SourceBytes) told before now e quiet
    (λ status line same. (ap (λ (a : Answer). a.status) same, ap (λ (a : Answer). a.line) same)) (past_left told left name text front past) is

-- one that can't be taken
pub untaken_stops : (told : Option Names) (left : ℕ) (name : List ℕ) (before now : FileFaults) (e : Ending) → Stops (taking name) told before now e
    → Stops (source_promise left name) told before now e
untaken_stops told left name before now e is =
    stops_weaker (taking name) (source_promise left name) told before now e (λ other same. same) (λ status line never. absurd never)
    (always_told told _ (λ held answer one. ap (λ (o : Option (List ℕ)). first_reason (taking_reasons left o name)) one.0
    ∙ ap {B = Option Answer} Some (sym one.1))) is
