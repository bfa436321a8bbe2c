-- What reading all files comes to.
use Rattle.std.proofs.Common.{◌≡◌, ℕ, Bool, List, [], ◌∙◌, ap, subst, map, Option, Some, Result, Ok, Err}
use Rattle.std.specs.Prelude.{IfSome, Contains}
use Rattle.cov_port.specs.Files.{Names, FileFaults}
use Rattle.cov_dat.specs.Laws.{AddsOneByOne}
use Rattle.cov_dat.specs.Merging.{Counts}
use Rattle.command_ending.specs.Answer.{Answer}
use Rattle.command_ending.specs.Stops.{Stops}
use Rattle.command_ending.specs.declared.ending.Ending.{Ending}
use Rattle.command_ending.specs.declared.status.Status.{Status}
use Rattle.command_ending.specs.ErrorLines.{limit_line}
use Rattle.command_ending.specs.declared.status.Status.TheVariants.{Limit}
use Rattle.command_ending.proofs.PutLemmas.{always_told, if_told}
use Rattle.command_ending.proofs.StopLemmas.{stops_weaker}
use Rattle.command_cover.specs.CoverReading.{Arrival, all_arrivals}
use Rattle.command_cover.specs.MergePromise.{past_limit}
use Rattle.cover_answer.specs.Gathering.{keeps, covered_points, tests_in, Gathers}
use Rattle.cover_answer.proofs.GatherLemmas.{gathers}
use Rattle.cover_gather.specs.Gather.{GatherRefuses, IsGatheredTo, gather_promise, in_file, too_many_pairs}
use Rattle.cover_gather.specs.Steps.{StopsAt, TallyState, at_file, at_limit, continued, files_promise, no_tally, of_data, of_pairs}
use Rattle.cover_gather.proofs.TallyLemmas.{Tallies, holds_none, tallies}

-- arrivals that are all read
read_all : AddsOneByOne → (ranks : Bool) (arrivals : List Arrival) (t : TallyState) → continued ranks no_tally arrivals ≡ Ok t
    → IsGatheredTo ranks arrivals t.counts t.covers
read_all law ranks arrivals t is =
    let all = subst (λ (r : Result TallyState Answer). Tallies ranks [] arrivals r) is (tallies law ranks [] arrivals no_tally (holds_none ranks)) in
    record {
      gathers = subst (Gathers ranks arrivals) all.0 (gathers ranks arrivals);
      counts_is = all.1.counts_is;
      covers_is = λ on. (all.1.ranked on).covers_is ∙ ap (λ (c : Counts). map (covered_points c) (tests_in arrivals)) all.1.counts_is;
    }

-- arrivals of which one is a reason to stop
read_stops : AddsOneByOne → (ranks : Bool) (arrivals : List Arrival) (answer : Answer) → continued ranks no_tally arrivals ≡ Err answer
    → Gathers ranks arrivals (Some answer)
read_stops law ranks arrivals answer is =
    let first = subst (λ (r : Result TallyState Answer). Tallies ranks [] arrivals r) is (tallies law ranks [] arrivals no_tally (holds_none ranks)) in
    subst (Gathers ranks arrivals) first (gathers ranks arrivals)

-- files that are all read
pub all_gathered : AddsOneByOne → (filter : Option (List ℕ)) (ranks : Bool) (told : Option Names) (names : List (List ℕ)) (t : TallyState)
    → IfSome told (λ held. continued ranks no_tally (all_arrivals held (keeps filter) names) ≡ Ok t)
    → IfSome told (λ held. IsGatheredTo ranks (all_arrivals held (keeps filter) names) t.counts t.covers)
all_gathered law filter ranks told names t is = if_told told _ _ (λ held one. read_all law ranks (all_arrivals held (keeps filter) names) t one) is

refuses_at : (ranks : Bool) (names : List (List ℕ)) (name : List ℕ) (status : Status) (line : List ℕ) → Contains names name → StopsAt ranks name status line
    → GatherRefuses ranks names status line
refuses_at ranks names name status line there (at_file s l is) = in_file name s l there is
refuses_at ranks names name status line there (at_limit limit (of_data l is)) = in_file name Limit (limit_line l) there (past_limit l is)
refuses_at ranks names name status line there (at_limit limit (of_pairs on)) = too_many_pairs on

-- files of which one is refused
pub gather_stops : AddsOneByOne → (filter : Option (List ℕ)) (ranks : Bool) (told : Option Names) (names : List (List ℕ)) (before now : FileFaults) (e : Ending)
    → Stops (files_promise (keeps filter) ranks no_tally names) told before now e → Stops (gather_promise ranks filter names) told before now e
gather_stops law filter ranks told names before now e is =
    stops_weaker (files_promise (keeps filter) ranks no_tally names) (gather_promise ranks filter names) told before now e (λ name there. there)
    (λ status line one. refuses_at ranks names one.0 status line one.1 one.2)
    (always_told told _ (λ held answer one. read_stops law ranks (all_arrivals held (keeps filter) names) answer one)) is
