-- Files that can't be opened.
use Rattle.std.proofs.Common.{◌≡◌, ℕ, Bool, true, false, List, refl, Option, None, Some, Ok, Err}
use Rattle.std.specs.Prelude.{IsSomeAnd, is_none}
use Rattle.cov_port.specs.Files.{Names, FileFaults, HasOpenCause, Opens, lacks}
use Rattle.cov_port.specs.Taking.{CannotOpen}
use Rattle.command_ending.specs.Answer.{absent}
use Rattle.command_ending.specs.ErrorLines.{open_line}
use Rattle.command_ending.specs.Opening.{IsOpened}
use Rattle.command_ending.specs.Stops.{Stops, cannot_open, lacks_name, taking}
use Rattle.command_ending.specs.declared.ending.Ending.TheVariants as ending
use Rattle.command_ending.specs.declared.status.Status.TheVariants.{Fault}

pub absent_name : (told : Option Names) (name : List ℕ) → lacks told name ≡ true → IsSomeAnd told (λ held. (held name ≡ None) × (absent name ≡ absent name))
absent_name None name lack = absurd (cc)
absent_name (Some names) name lack = (none_of (names name) lack, refl) where
  none_of : (o : Option (List ℕ)) → lacks (Some (λ q. o)) name ≡ true → o ≡ None
  none_of None is = refl
  none_of (Some text) is = absurd (cc)

-- a file that could not be opened: the number of `open` rose, or told files lack its name
pub unopened : (told : Option Names) (name line : List ℕ) (before now : FileFaults) → line ≡ open_line name → CannotOpen (lacks told name) before now
    → Stops (taking name) told before now (ending.Refused Fault line)
unopened told name line before now is cannot =
    elim (lacks told name) as (λ t. lacks told name ≡ t → Stops (taking name) told before now (ending.Refused Fault line)) [
      | true ↦ λ lack. lacks_name name line refl is (cannot.absent_kept lack) (absent_name told name lack)
      | false ↦ λ there. cannot_open name line refl is (cannot.present_rose there)
    ] refl

abbrev three : ℕ → ℕ → ℕ → FileFaults
three opens reads stores = record { opens = opens; reads = reads; stores = stores }

same_three : (o p r s t u : ℕ) → o ≡ p → r ≡ s → t ≡ u → three o r t ≡ three p s u
same_three o p r s t u opens reads stores = rw (opens, reads, stores) refl

same_faults : (a b : FileFaults) → a.opens ≡ b.opens → a.reads ≡ b.reads → a.stores ≡ b.stores → a ≡ b
same_faults a b opens reads stores = same_three a.opens b.opens a.reads b.reads a.stores b.stores opens reads stores

-- a call to open that failed could not open
pub cannot_be_opened : {T E : Type 0} (absent : Bool) (before now : FileFaults) (e : E) → HasOpenCause {T = T} {E = E} absent before.opens now.opens (Err e)
    → now.reads ≡ before.reads → now.stores ≡ before.stores → CannotOpen absent before now
cannot_be_opened absent before now e cause reads stores = record {
  absent_kept = λ none. same_faults now before (cause.absent_kept none) reads stores;
  present_rose = λ there. record { rose = cause.failed there; reads = reads; stores = stores };
}

-- a file that was opened is open, and is there
pub opened : {T E : Type 0} (told : Option Names) (name : List ℕ) (left : Option (List ℕ)) (before now : ℕ) (value : T)
    → Opens told name left → HasOpenCause {T = T} {E = E} (lacks told name) before now (Ok value) → IsOpened told name left
opened None name left before now value opens cause = tt
opened (Some names) name left before now value opens cause = there (names name) opens (λ none. apart (cause.absent_fails none)) where
  apart : false ≡ true → ⊥
  apart is = absurd (cc)

  there : (o : Option (List ℕ)) → left ≡ o → (is_none o ≡ true → ⊥) → (text : List ℕ) × (o ≡ Some text) × (left ≡ Some text)
  there None is none = absurd (none refl)
  there (Some text) is none = (text, refl, is)
