-- The steps of a block as a loop reads them: so many are read, and one more or the end is to come.
use Rattle.std.proofs.Common.{◌≡◌, ℕ, Bool, true, false, List, [], ◌∷◌, ◌++◌, refl, ◌∙◌, ap}
use Rattle.std.specs.Prelude.{◌&&◌, codes}
use Rattle.design_tree.specs.declared.step.Step.{Step}
use Rattle.cvd_text.specs.Tokens.{Token, word}
use Rattle.cvd_text.specs.Lines.{Load, line, is_within, stands}
use Rattle.cvd_text.specs.Pieces.{Mark, token}
use Rattle.cvd_text.specs.Steps.{Around}
use Rattle.spelling_laws.specs.Lists.{state_behind, all_marks}
use Rattle.cvd_cursor.specs.Places.{Reading}
use Rattle.cvd_cursor.specs.Reads.{Takes, Refused}
use Rattle.cvd_cursor.specs.declared.fault.ReadFault.{ReadFault}
use Rattle.cvd_cursor.proofs.Single.{starts}
use Rattle.cvd_cursor.proofs.Lists as lists
use Rattle.cvd_step_laws.specs.StepMarks.{Within, block_step, behind_step, block_end, steps_marks, step_word}
use Rattle.cvd_step_laws.proofs.LineMarks.{added_nothing}
use Rattle.cvd_step_laws.proofs.PartsApart.{end_told}
use Rattle.cvd_step_laws.proofs.StepParts.{parts_of_step}
use Rattle.cvd_step_laws.proofs.StepsApart.{after_end, end_begins, after_head, step_begins, apart_step}

-- within the limits, a line that adds nothing stands where its conditions hold
pub plain_stands : (before : Load) (tokens : List Token) (holds : Bool) → is_within before ≡ true → stands before (line tokens holds) ≡ holds
plain_stands before tokens holds e = ap (λ b. holds && is_within b) (added_nothing before) ∙ ap (λ b. holds && b) e ∙ and_true holds
  where
    and_true : (b : Bool) → (b && true) ≡ b
    and_true true = refl
    and_true false = refl

abbrev end_mark : Mark
end_mark = token (word (codes "end"))

module _ (around : Around) (deep : ℕ) (w : Within) where
  -- the steps that were read, and where the next stands
  abbrev pub turn : List Step → List Mark
  turn = all_marks (block_step around deep) (behind_step around deep) w

  abbrev pub there : List Step → Within
  there = state_behind (block_step around deep) (behind_step around deep) w

  pub takes_no_step : (old : Reading) → Takes turn old old []
  takes_no_step = lists.takes_none Step Within (block_step around deep) (behind_step around deep) w

  pub takes_step : (steps : List Step) (one : Step) (old mid new : Reading) → Takes turn old mid steps
      → Takes (block_step around deep (there steps)) mid new one
      → Takes turn old new (steps ++ one ∷ [])
  takes_step = lists.takes_more Step Within (block_step around deep) (behind_step around deep) w

  pub takes_end : (steps : List Step) (old mid new : Reading) → Takes turn old mid steps
      → Takes (λ (u : Unit {0}). block_end around deep (there steps)) mid new tt
      → Takes (steps_marks around deep w) old new steps
  takes_end = lists.takes_end Step Within (block_step around deep) (behind_step around deep) (block_end around deep) w

  -- `end` doesn't come, and a step is refused
  pub refused_step : (steps : List Step) (old mid new : Reading) (fault : ReadFault) → Takes turn old mid steps → starts mid.rest end_mark ≡ false
      → Refused (block_step around deep (there steps)) mid fault new → Refused (steps_marks around deep w) old fault new
  refused_step =
      lists.refused_more Step Within (block_step around deep) (behind_step around deep) (block_end around deep) (λ v. end_mark) (after_end around deep)
      (end_begins around deep) (λ v one. token (word (step_word (parts_of_step one).0))) (after_head around deep) (step_begins around deep)
      (λ v one p e. end_told (parts_of_step one).0 p e) (λ v. apart_step around v.load (record { deep = deep; before = v.before })) w

  -- `end` comes, and its line is refused
  pub refused_end : (steps : List Step) (old mid new : Reading) (fault : ReadFault) → Takes turn old mid steps → starts mid.rest end_mark ≡ true
      → Refused (λ (u : Unit {0}). block_end around deep (there steps)) mid fault new → Refused (steps_marks around deep w) old fault new
  refused_end =
      lists.refused_end Step Within (block_step around deep) (behind_step around deep) (block_end around deep) (λ v. end_mark) (after_end around deep)
      (end_begins around deep) (λ v one. token (word (step_word (parts_of_step one).0))) (after_head around deep) (step_begins around deep)
      (λ v one p e. end_told (parts_of_step one).0 p e) (λ v. apart_step around v.load (record { deep = deep; before = v.before })) w
