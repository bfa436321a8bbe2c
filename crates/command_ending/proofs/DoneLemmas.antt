-- Commands in which nothing is wrong.
use Rattle.std.proofs.Common.{◌≡◌, ◌⊎◌, ℕ, List, refl, ◌∙◌, Option, None, Some, inl, inr, arith}
use Rattle.std.specs.Prelude.{IfSome, IsSomeAnd}
use Rattle.cov_port.specs.Files.{Names}
use Rattle.command_ending.specs.Answer.{Answer, absent}
use Rattle.command_ending.specs.Leaves.{IsFault, no_such_name, open_failed, read_failed, put_failed, store_failed, IsLeft, Leaves}
use Rattle.command_ending.specs.Promise.{Promise}
use Rattle.command_ending.specs.World.{IsCalm, World}
use Rattle.command_ending.specs.declared.status.Status.{Status}
use Rattle.command_ending.specs.declared.status.Status.TheVariants.{Done, BadWords, BadDesign, BadStimulus, BadData, Fault, Limit, NoMemory, Stopped}

-- each answer is that all is done
abbrev pub AreDone : Promise → Option Names → Type 0
AreDone p told = IsSomeAnd told (λ held. (answer : Answer) → p.Answers held answer → answer.status ≡ Done)

lacks_none : (p : Promise) (told : Option Names) (name : List ℕ) → AreDone p told → IsSomeAnd told (λ held. p.Answers held (absent name)) → ⊥
lacks_none p None name all is = is
lacks_none p (Some held) name all is = let no : Fault ≡ Done = all (absent name) is in absurd (cc)

no_fault : (p : Promise) (said : List ℕ) (old new : World) → IsCalm old new → AreDone p old.held → IsFault p said old new → ⊥
no_fault p said old new calm all (no_such_name name reads line unharmed untouched is) = lacks_none p old.held name all is
no_fault p said old new calm all (open_failed name reads line rose put before) = let r = rose.rose in let q = calm.files.opens in absurd (omega arith)
no_fault p said old new calm all (read_failed name reads line rose put before) = let r = rose.rose in let q = calm.files.reads in absurd (omega arith)
no_fault p said old new calm all (put_failed line rose files part) = let q = calm.out in absurd (omega arith)
no_fault p said old new calm all (store_failed name stores line rose put part) = let r = rose.rose in let q = calm.files.stores in absurd (omega arith)

answered : (p : Promise) (said : List ℕ) (old new : World) (ended : Status) → AreDone p old.held
    → IfSome old.held (λ names. (answer : Answer) × p.Answers names answer × IsLeft answer said old new ended) → ended ≡ Done
answered p said old new ended all is = told old.held all is where
  told : (held : Option Names) → AreDone p held → IfSome held (λ names. (answer : Answer) × p.Answers names answer × IsLeft answer said old new ended)
      → ended ≡ Done
  told None every one = absurd every
  told (Some names) every one = one.2.status ∙ every one.0 one.1

-- a command whose every answer is that all is done ends so, unless memory is wanted
pub done_unless_wanting : (p : Promise) (said : List ℕ) (old new : World) (ended : Status) → Leaves p said old new ended → IsCalm old new → AreDone p old.held
    → (ended ≡ Done) ⊎ (ended ≡ NoMemory)
done_unless_wanting p said old new Done leaves calm all = inl refl
done_unless_wanting p said old new BadWords leaves calm all = inl (answered p said old new BadWords all (leaves.answer (λ no. absurd (cc)) (λ no. absurd (cc))))
done_unless_wanting p said old new BadDesign leaves calm all = inl
    (answered p said old new BadDesign all (leaves.answer (λ no. absurd (cc)) (λ no. absurd (cc))))
done_unless_wanting p said old new BadStimulus leaves calm all = inl
    (answered p said old new BadStimulus all (leaves.answer (λ no. absurd (cc)) (λ no. absurd (cc))))
done_unless_wanting p said old new BadData leaves calm all = inl (answered p said old new BadData all (leaves.answer (λ no. absurd (cc)) (λ no. absurd (cc))))
done_unless_wanting p said old new Fault leaves calm all = absurd (no_fault p said old new calm all (leaves.fault refl))
done_unless_wanting p said old new Limit leaves calm all = inl (answered p said old new Limit all (leaves.answer (λ no. absurd (cc)) (λ no. absurd (cc))))
done_unless_wanting p said old new NoMemory leaves calm all = inr refl
done_unless_wanting p said old new Stopped leaves calm all = inl (answered p said old new Stopped all (leaves.answer (λ no. absurd (cc)) (λ no. absurd (cc))))
