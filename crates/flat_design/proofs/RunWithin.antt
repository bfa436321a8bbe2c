-- A run of a process leaves no more than the room that is counted for it.
use Rattle.std.proofs.Common.{◌≡◌, subst, ℕ, true, List, [], ◌∷◌}
use Rattle.std.specs.Prelude.{All}
use Rattle.std.specs.List.{AllByRecursion}
use Rattle.design_tree.specs.declared.design.Design.{Design}
use Rattle.design_tree.specs.declared.step.Step.{Step}
use Rattle.circuit_run.specs.States.{State}
use Rattle.design_meaning.specs.States.{IsStateOf}
use Rattle.design_meaning.specs.Steps.{does}
use Rattle.design_meaning.specs.WellFormed.{is_step}
use Rattle.design_meaning.specs.Processes.{process_of, no_process}
use Rattle.design_meaning.specs.ValidVariables.{IsVariable}
use Rattle.std.proofs.lemmas.List.{get_or_default}
use Rattle.flat_design.specs.Effects.{IsWithin, room_for}
use Rattle.flat_design.specs.InDesign.{mentions_in}
use Rattle.flat_design.specs.Laws.{RunsWithin}
use Rattle.flat_design.proofs.NeedsIn.{process_formed}
use Rattle.flat_design.proofs.Within.{within, all_within}

-- a step leaves no more than the room for what it mentions
abbrev FewOf : Design → ℕ → Step → Type 0
FewOf d k x = (s : State) → IsStateOf d s → is_step d k x ≡ true → IsWithin (does x s) (room_for d (mentions_in x))

every : (d : Design) (k : ℕ) (vars : All IsVariable d.vars) (xs : List Step) → AllByRecursion (FewOf d k) xs
every d k vars [] = tt
every d k vars (x ∷ xs) = (within d k vars x, every d k vars xs)

pub runs_within : RunsWithin
runs_within d p s valid hs lt =
    let k : ℕ = valid.0.counters in
    let vars : All IsVariable d.vars = subst (λ x. All IsVariable x.vars) valid.2 valid.1.variables in
    let process = process_of d p in
    all_within d k vars process.body (every d k vars process.body) s hs
    (process_formed d process valid p lt (get_or_default d.processes p no_process process lt))
