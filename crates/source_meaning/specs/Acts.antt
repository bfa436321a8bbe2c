-- What the kinds of statements do, given what their expressions mean and what their parts do (IEEE 1364-2005, 9 and 17).
use Rattle.std.specs.Prelude.{ℕ, if◌then◌else◌, List, Option, Some, None}
use Rattle.cov_types.specs.declared.place.Place.{Place}
use Rattle.circuit_run.specs.Outcomes.{Act, unchanged, joined, notes, writes, defers, prints}
use Rattle.source_meaning.specs.Events.{Event, Arm, yes_arm, no_arm, case_arm, unwritten}
use Rattle.source_meaning.specs.Meaning.{Meaning, holds}
use Rattle.source_meaning.specs.Assignments.{assigned_parts}
use Rattle.source_meaning.specs.Cases.{Choice, choice_of}
use Rattle.source_meaning.specs.Texts.{display_text}

-- an arm of a place is entered in a scope
abbrev pub enters : ℕ → Place → Arm → Act Event
enters scope p arm = notes (record { scope = scope; place = p; arm = arm })

-- an arm gives its event, and then what it has is run
abbrev pub arm_runs : ℕ → Place → Arm → Act Event → Act Event
arm_runs scope p arm act s = joined (enters scope p arm s) (act s)

-- An unwritten arm does nothing.
abbrev pub or_nothing : Option (Act Event) → Act Event
or_nothing (Some act) = act
or_nothing None = unchanged

-- `if`: the event of the chosen arm, and then that arm
abbrev pub if_runs : ℕ → Place → Meaning → Act Event → Option (Act Event) → Act Event
if_runs scope p test first second s = if holds test s then arm_runs scope p yes_arm first s else arm_runs scope p no_arm (or_nothing second) s

-- the chosen arm of a `case`, or the one that no choice matches
abbrev pub choice_runs : ℕ → Place → Option Choice → Act Event
choice_runs scope p (Some c) = arm_runs scope c.place case_arm c.body
choice_runs scope p None = enters scope p unwritten

-- `case` and `casez`
abbrev pub case_runs : ℕ → Place → Meaning → List Choice → Act Event
case_runs scope p on choices s = choice_runs scope p (choice_of on choices s) s

-- a blocking and a nonblocking assignment
abbrev pub sets : Meaning → Meaning → Act Event
sets target a = writes (assigned_parts target a)

abbrev pub sets_later : Meaning → Meaning → Act Event
sets_later target a = defers (assigned_parts target a)

-- `$display`
abbrev pub displays : Option (List ℕ) → List Meaning → Act Event
displays text values = prints (display_text text values)
