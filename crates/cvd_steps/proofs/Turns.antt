-- The steps of a block as they are read: one more, or the end.
use Rattle.std.proofs.Common.{◌≡◌, ℕ, true, false, List, [], ◌∷◌, ◌++◌, codes, length, refl, sym, ◌∙◌, ap, subst, arith}
use Rattle.design_tree.specs.declared.step.Step.{Step}
use Rattle.spelling_laws.proofs.Counted.{behind_more}
use Rattle.cvd_text.specs.Lines.{Load}
use Rattle.cvd_text.specs.Pieces.{Piece, token, fits}
use Rattle.cvd_text.specs.Steps.{Around, spot, lines_of_step}
use Rattle.cvd_text.specs.Tokens.{word}
use Rattle.cvd_cursor.specs.Places.{Reading}
use Rattle.cvd_cursor.specs.Reads.{Takes, Refused}
use Rattle.cvd_cursor.specs.declared.fault.ReadFault.{ReadFault}
use Rattle.cvd_cursor.proofs.Single.{starts}
use Rattle.cvd_step_laws.specs.LineMarks.{load_behind}
use Rattle.cvd_step_laws.specs.StepMarks.{Within, within, block_step, behind_step, block_end, block_lines_at, step_marks, steps_marks}
use Rattle.cvd_step_laws.proofs.BlockReads.{turn, there, takes_step, takes_end, refused_step, refused_end}
use Rattle.cvd_step_laws.proofs.StepParts.{count_behind}
use Rattle.cvd_steps.specs.Bodies.{AreSums}
use Rattle.cvd_steps.specs.Words.{begins_with_end}
use Rattle.cvd_steps.specs.declared.sums.Sums.{Sums}
use Rattle.cvd_steps.proofs.Loads.{load_block}

same_start : (ps : List Piece) → starts ps (token (word (codes "end"))) ≡ begins_with_end ps
same_start [] = refl
same_start (p ∷ ps) = refl

module _ (around : Around) (deep : ℕ) (start : Load) (steps : List Step) (load : Load) (n : ℕ) where
  abbrev w : Within
  w = within start 0

  abbrev place : Within
  place = there around deep w steps

  module _ (same : load ≡ (there around deep (within start 0) steps).load) (count : n ≡ length steps) where
    count_is : n ≡ place.before
    count_is = let c = count_behind around deep w steps in omega (arith, count)

    marks_at : (one : Step) → step_marks around load (spot deep n) one ≡ block_step around deep place one
    marks_at one =
        ap (λ l. step_marks around l (spot deep n) one) same ∙ ap (λ k. step_marks around place.load (spot deep k) one) count_is

    pub refused_at : (old mid new : Reading) (fault : ReadFault) → Takes (turn around deep w) old mid steps → begins_with_end mid.rest ≡ false
        → Refused (step_marks around load (spot deep n)) mid fault new → Refused (steps_marks around deep w) old fault new
    refused_at old mid new fault h e r =
        refused_step around deep w steps old mid new fault h (same_start mid.rest ∙ e)
        (subst (λ k. Refused (step_marks around place.load (spot deep k)) mid fault new) count_is
        (subst (λ l. Refused (step_marks around l (spot deep n)) mid fault new) same r))

    pub takes_at : (one : Step) (old mid new : Reading) → Takes (turn around deep w) old mid steps → Takes (step_marks around load (spot deep n)) mid new one
        → Takes (turn around deep w) old new (steps ++ one ∷ [])
    takes_at one old mid new h t =
        takes_step around deep w steps one old mid new h
        (subst (λ k. Takes (step_marks around place.load (spot deep k)) mid new one) count_is
        (subst (λ l. Takes (step_marks around l (spot deep n)) mid new one) same t))

    pub sums_at : (one : Step) (s : Sums) → AreSums (load_behind load (lines_of_step around one (spot deep n))) s
        → AreSums (there around deep w (steps ++ one ∷ [])).load s
    sums_at one s h =
        subst (λ l. AreSums l s)
        (ap (λ l. load_behind l (lines_of_step around one (spot deep n))) same
        ∙ ap (λ k. load_behind place.load (lines_of_step around one (spot deep k))) count_is
        ∙ sym (ap (λ (v : Within). v.load) (behind_more fits Step Within (block_step around deep) (behind_step around deep) w steps (one ∷ [])))) h

    pub end_refused : (old mid new : Reading) (fault : ReadFault) → Takes (turn around deep w) old mid steps → begins_with_end mid.rest ≡ true
        → Refused (λ (u : Unit {0}). block_end around deep (within load n)) mid fault new → Refused (steps_marks around deep w) old fault new
    end_refused old mid new fault h e r =
        refused_end around deep w steps old mid new fault h (same_start mid.rest ∙ e)
        (subst (λ k. Refused (λ (u : Unit {0}). block_end around deep (within place.load k)) mid fault new) count_is
        (subst (λ l. Refused (λ (u : Unit {0}). block_end around deep (within l n)) mid fault new) same r))

    pub end_takes : (old mid new : Reading) → Takes (turn around deep w) old mid steps
        → Takes (λ (u : Unit {0}). block_end around deep (within load n)) mid new tt → Takes (steps_marks around deep w) old new steps
    end_takes old mid new h t =
        takes_end around deep w steps old mid new h
        (subst (λ k. Takes (λ (u : Unit {0}). block_end around deep (within place.load k)) mid new tt) count_is
        (subst (λ l. Takes (λ (u : Unit {0}). block_end around deep (within l n)) mid new tt) same t))

-- the sums behind a block are those behind its steps
pub block_sums : (around : Around) (deep : ℕ) (start : Load) (steps : List Step) (s : Sums) → AreSums (there around deep (within start 0) steps).load s
    → AreSums (load_behind start (block_lines_at around deep steps)) s
block_sums around deep start steps s h = subst (λ l. AreSums l s) (sym (load_block around deep start steps)) h
