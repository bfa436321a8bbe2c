-- One design file that was not read.
use Rattle.std.proofs.Common.{◌≡◌, ℕ, ◌+◌, ◌<◌, List, length, refl, ◌∙◌, ap, Option, None, Some, arith, inl, inr}
use Rattle.std.specs.Prelude.{IfSome}
use Rattle.std.proofs.lemmas.List.{length-take}
use Rattle.cov_types.specs.declared.limit.LimitName.TheVariants.{DesignBytes}
use Rattle.cov_port.specs.Files.{Names, FileFaults}
use Rattle.cov_port.specs.Taking.{IsFrontOf}
use Rattle.command_ending.specs.Answer.{Answer, over_limit}
use Rattle.command_ending.specs.Stops.{IsRefusal, Stops, taking}
use Rattle.command_ending.specs.declared.ending.Ending.{Ending}
use Rattle.command_ending.proofs.PutLemmas.{always_told, if_told}
use Rattle.command_ending.proofs.StopLemmas.{refusal_stops, stops_weaker}
use Rattle.command_check.specs.Steps.{IsLonger, design_promise}

-- a front that is longer than is taken is that of a longer file
front_longer : (told : Option Names) (name text : List ℕ) (room : ℕ) → IsFrontOf told name (room + 1) text → room < length text
    → IfSome told (IsLonger name room)
front_longer None name text room front long = tt
front_longer (Some names) name text room front long =
    let size = ap length front.2 ∙ length-take (room + 1) front.0 in (front.0, front.1, omega (arith, size))

-- a file that is longer than there is room for
pub long_stops : (told : Option Names) (name text : List ℕ) (room : ℕ) (before now : FileFaults) (e : Ending) → now ≡ before
    → IsFrontOf told name (room + 1) text → room < length text
    → IsRefusal (λ answer. answer ≡ over_limit DesignBytes) e → Stops (design_promise name room) told before now e
long_stops told name text room before now e quiet front long is =
    refusal_stops (design_promise name room) (λ answer. answer ≡ over_limit DesignBytes) told before now e quiet
    (λ status line same. record { status_is = ap (λ (a : Answer). a.status) same; line_is = ap (λ (a : Answer). a.line) same })
    (if_told told _ _ (λ held one answer same. inr (one, same)) (front_longer told name text room front long)) is

-- a file that can't be taken
pub short_stops : (told : Option Names) (name : List ℕ) (room : ℕ) (before now : FileFaults) (e : Ending) → Stops (taking name) told before now e
    → Stops (design_promise name room) told before now e
short_stops told name room before now e is =
    stops_weaker (taking name) (design_promise name room) told before now e (λ other same. same) (λ status line never. absurd never)
    (always_told told _ (λ held answer one. inl one)) is
