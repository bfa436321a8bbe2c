-- Items and arms that were read so far, with what their lines add up to.
use Rattle.std.proofs.Common.{◌≡◌, List, [], ◌∷◌, ◌++◌, sym, ◌∙◌, ap, subst}
use Rattle.spelling_laws.specs.Lists.{state_behind}
use Rattle.spelling_laws.proofs.Counted.{behind_more}
use Rattle.cvd_text.specs.Lines.{Load, Line}
use Rattle.cvd_text.specs.Pieces.{fits}
use Rattle.cvd_step_laws.specs.LineMarks.{load_behind, each_lines, each_load}
use Rattle.cvd_steps.specs.Bodies.{AreSums}
use Rattle.cvd_steps.specs.declared.sums.Sums.{Sums}

module _ {A : Type 0} (lines : A → List Line) (before : Load) where
  abbrev pub behind : List A → Load
  behind xs = state_behind (each_lines lines) (each_load lines) before xs

  -- what is kept of those that were read
  pub record Kept (kept : List A) (sums : Sums) (xs : List A) : Type 0 where
    pub are : kept ≡ xs
    pub sums_are : AreSums (behind xs) sums

  pub at_first : (kept : List A) (sums : Sums) → kept ≡ [] → AreSums before sums → Kept kept sums []
  at_first kept sums e s = record { are = e; sums_are = s }

  pub one_more : (kept more : List A) (sums after : Sums) (xs : List A) (x y : A) → Kept kept sums xs → more ≡ kept ++ y ∷ [] → y ≡ x
      → AreSums (load_behind (behind xs) (lines x)) after → Kept more after (xs ++ x ∷ [])
  one_more kept more sums after xs x y k e same s = record {
    are = e ∙ ap (λ l. l ++ y ∷ []) k.are ∙ ap (λ z. xs ++ z ∷ []) same;
    sums_are = subst (λ l. AreSums l after) (sym (behind_more fits A Load (each_lines lines) (each_load lines) before xs (x ∷ []))) s;
  }
