-- The text of a design, taken whole.
use Rattle.std.proofs.Common.{◌≡◌, ℕ, ◌+◌, ◌<◌, ◌≤◌, List, length, take_all, sym, ◌∙◌, ap, subst, inl, Option, None, Some, arith}
use Rattle.std.specs.Prelude.{IfSome, min}
use Rattle.std.proofs.lemmas.List.{length-take}
use Rattle.cov_types.specs.Limits.{most}
use Rattle.cov_types.specs.declared.limit.LimitName.TheVariants.{CvdBytes}
use Rattle.cov_port.specs.Files.{Names, FileFaults}
use Rattle.cov_port.specs.Taking.{IsFrontOf}
use Rattle.command_ending.specs.Answer.{Answer, over_limit}
use Rattle.command_ending.specs.Stops.{IsRefusal, Stops, taking}
use Rattle.command_ending.specs.declared.ending.Ending.{Ending}
use Rattle.command_ending.specs.declared.status.Status.{Status}
use Rattle.command_ending.specs.declared.status.Status.TheVariants.{Limit}
use Rattle.command_ending.proofs.PutLemmas.{always_told}
use Rattle.command_ending.proofs.StopLemmas.{refusal_stops, stops_weaker}
use Rattle.sim_answer.specs.SimAnswer as sim
use Rattle.sim_answer.specs.SimAnswer.{IsSimAnswer}
use Rattle.sim_answer.specs.SimPromise as may
use Rattle.sim_answer.specs.SimPromise.{SimRefuses, sim_promise}
use Rattle.sim_answer.specs.Simulation.{Simulation}
use Rattle.sim_frame.specs.DesignText.{IsUntaken, lacking, too_long, design_promise}

past_left : (told : Option Names) (name text : List ℕ) → IsFrontOf told name (most CvdBytes + 1) text → most CvdBytes < length text
    → IfSome told (λ held. (answer : Answer) → answer ≡ over_limit CvdBytes → IsUntaken held name answer)
past_left None name text front past = tt
past_left (Some names) name text front past = λ answer same.
    let size : length text ≡ min (most CvdBytes + 1) (length front.0) = ap length front.2 ∙ length-take (most CvdBytes + 1) front.0 in
    subst (IsUntaken names name) (sym same) (too_long front.0 front.1 (omega (arith, past, size)))

-- a text that has more bytes
pub long_stops : (told : Option Names) (name text : List ℕ) (before now : FileFaults) (e : Ending) → now ≡ before → IsFrontOf told name (most CvdBytes + 1) text
    → most CvdBytes < length text → IsRefusal (λ answer. answer ≡ over_limit CvdBytes) e → Stops (design_promise name) told before now e
long_stops told name text before now e quiet front past is =
    refusal_stops (design_promise name) (λ answer. answer ≡ over_limit CvdBytes) told before now e quiet
    (λ status line same. (ap (λ (a : Answer). a.status) same, ap (λ (a : Answer). a.line) same)) (past_left told name text front past) is

-- one that can't be taken
pub untaken_stops : (told : Option Names) (name : List ℕ) (before now : FileFaults) (e : Ending) → Stops (taking name) told before now e
    → Stops (design_promise name) told before now e
untaken_stops told name before now e is =
    stops_weaker (taking name) (design_promise name) told before now e (λ other same. same) (λ status line never. absurd never)
    (always_told told _ (λ held answer one. subst (IsUntaken held name) (sym one.1) (lacking one.0))) is

-- one that fits is the whole
pub whole : (told : Option Names) (name text : List ℕ) → IsFrontOf told name (most CvdBytes + 1) text → length text ≤ most CvdBytes
    → IfSome told (λ held. held name ≡ Some text)
whole None name text front within = tt
whole (Some names) name text front within =
    let size : length text ≡ min (most CvdBytes + 1) (length front.0) = ap length front.2 ∙ length-take (most CvdBytes + 1) front.0 in
    front.1 ∙ ap {B = Option (List ℕ)} Some (sym (front.2 ∙ take_all (most CvdBytes + 1) front.0 (omega (arith, within, size))))

-- ---- the same of a `sim`

no_text : (asked : Simulation) (held : Names) (answer : Answer) → IsUntaken held asked.design answer → IsSimAnswer held asked answer
no_text asked held answer (lacking none) = sim.no_design none
no_text asked held answer (too_long text holds many) = sim.too_long text holds many

pub untaken_sim : (asked : Simulation) (told : Option Names) (before now : FileFaults) (e : Ending) → Stops (design_promise asked.design) told before now e
    → Stops (sim_promise asked) told before now e
untaken_sim asked told before now e is =
    stops_weaker (design_promise asked.design) (sim_promise asked) told before now e (λ name same. inl same)
    (λ status line one. subst (λ (s : Status). SimRefuses asked s line) (sym one.0) (subst (SimRefuses asked Limit) (sym one.1) may.too_long))
    (always_told told _ (λ held answer one. no_text asked held answer one)) is
