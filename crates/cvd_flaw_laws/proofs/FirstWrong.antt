-- What a reader that stops tells of a text.
use Rattle.std.proofs.Common.{◌≡◌, ℕ, Bool, true, false, List, [], ◌∷◌, ◌++◌, length, refl, sym, ◌∙◌, ap, subst}
use Rattle.std.specs.Prelude.{if◌then◌else◌}
use Rattle.design_tree.specs.declared.design.Design.{Design}
use Rattle.cvd_text.specs.Fault.{IsWrong, EndsFirst, Flaw, bad_token, bad_number, bad_shape, truncated, has_first_line, flaw_at, is_end, line_start}
use Rattle.cvd_text.specs.Fault.{IsFlaw, wrong_piece, cut_off}
use Rattle.cvd_text.specs.Pieces.{Piece, a_word, feed, Mark, token, line_end, fits, pieces_of, design_marks}
use Rattle.cvd_text.specs.Tokens.{is_numeric}
use Rattle.spelling_laws.specs.Spelled as laws
use Rattle.spelling_laws.proofs.Fitting.{no_more}
use Rattle.cvd_cursor.specs.Places.{Reading, IsLineStart}
use Rattle.cvd_cursor.specs.Reads.{Stops, fault_at}
use Rattle.cvd_cursor.specs.declared.fault.ReadFault.{ReadFault}
use Rattle.cvd_cursor.specs.declared.fault.ReadFault.TheVariants.{NoMemory, BadNumber, BadToken, BadShape, Truncated}
use Rattle.cvd_line_ends.specs.Ends.{IsEndFault, EndsLines, Halts}
use Rattle.cvd_file_laws.proofs.OneFlaw.{from_awaits, to_awaits}

module _ (FlowFault : Type 0) (IsFlowFault : Design → FlowFault → Type 0) (text : List ℕ) where
  abbrev Is : Flaw FlowFault → Type 0
  Is f = IsFlaw FlowFault IsFlowFault text f

  -- the flaw that a reader's fault is, at a place; memory may always be wanting
  abbrev pub TellsFlaw : ReadFault → ℕ → Type 0
  TellsFlaw NoMemory place = Unit {0}
  TellsFlaw BadNumber place = IsFlaw FlowFault IsFlowFault text (bad_number place)
  TellsFlaw BadToken place = IsFlaw FlowFault IsFlowFault text (bad_token place)
  TellsFlaw BadShape place = IsFlaw FlowFault IsFlowFault text (bad_shape place)
  TellsFlaw Truncated place = IsFlaw FlowFault IsFlowFault text (truncated (length text))

  by_number : (numeric : Bool) (place : ℕ) → Is (if numeric then bad_number place else bad_token place)
      → TellsFlaw (if numeric then BadNumber else BadToken) place
  by_number true place h = h
  by_number false place h = h

  told_by : (p : Piece) (ps : List Piece) (m : Mark) (place : ℕ) → Is (flaw_at FlowFault IsFlowFault p m place) → TellsFlaw (fault_at (p ∷ ps) m) place
  told_by (a_word w) ps (token t) place h = by_number (is_numeric t) place h
  told_by (a_word w) ps (line_end s) place h = h
  told_by feed ps (token t) place h = by_number (is_numeric t) place h
  told_by feed ps (line_end s) place h = h

  token_end : (numeric : Bool) → IsEndFault (if numeric then BadNumber else BadToken) → ⊥
  token_end true h = h
  token_end false h = h

  end_wanted : (ps : List Piece) (m : Mark) → IsEndFault (fault_at (feed ∷ ps) m) → is_end m ≡ true
  end_wanted ps (token t) h = absurd (token_end (is_numeric t) h)
  end_wanted ps (line_end s) h = refl

  module _ (first : has_first_line text ≡ true) (old new : Reading) (place : ℕ) (same : old.text ≡ text) (all : old.rest ≡ pieces_of text)
      (at : IsLineStart new place) where
    stopped : (fault : ReadFault) → Stops design_marks old new fault → EndsLines design_marks old fault new → TellsFlaw fault place
    stopped fault s ends = by new.rest refl
      where
        given : List Piece
        given = s.wrong.given

        by : (left : List Piece) → new.rest ≡ left → TellsFlaw fault place
        by [] e =
            let kind : fault ≡ Truncated = s.kind ∙ ap (λ l. fault_at l s.wanted) e in
            let whole : pieces_of text ≡ given = sym all ∙ s.wrong.split ∙ ap (λ l. given ++ l) e ∙ no_more given in
            subst (λ f. TellsFlaw f place) (sym kind)
            (cut_off s.wanted first (from_awaits (pieces_of text) s.wanted (subst (λ l. laws.Awaits fits design_marks l s.wanted) (sym whole) s.wrong.awaits)))
        by (p ∷ ps) e =
            let kind : fault ≡ fault_at (p ∷ ps) s.wanted = s.kind ∙ ap (λ l. fault_at l s.wanted) e in
            let split : pieces_of text ≡ given ++ p ∷ ps = sym all ∙ s.wrong.split ∙ ap (λ l. given ++ l) e in
            let here : place ≡ line_start text given
            = at given (ap pieces_of (s.same ∙ same) ∙ sym all ∙ s.wrong.split) ∙ ap (λ t. line_start t given) (s.same ∙ same) in
            let none : laws.NoneFits fits design_marks given (p ∷ ps) = subst (laws.NoneFits fits design_marks given) e s.wrong.none in
            let wrong : IsWrong (pieces_of text) given p s.wanted = record {
              rest = ps;
              split = split;
              awaits = from_awaits given s.wanted s.wrong.awaits;
              none = λ other a. none other (to_awaits given other a);
            } in
            subst (λ f. TellsFlaw f place) (sym kind)
            (told_by p ps s.wanted place
            (subst (λ n. Is (flaw_at FlowFault IsFlowFault p s.wanted n)) (sym here) (wrong_piece given p s.wanted first wrong (ends_first p ps e kind))))
          where
            ends_first : (p : Piece) (ps : List Piece) → new.rest ≡ p ∷ ps → fault ≡ fault_at (p ∷ ps) s.wanted → EndsFirst given p s.wanted
            ends_first (a_word w) ps e kind = tt
            ends_first feed ps e kind = λ stand a.
                end_wanted ps s.wanted (subst IsEndFault kind (ends given ps stand s.wrong.split e (to_awaits given (line_end stand) a)))

    pub halted : (fault : ReadFault) → Halts design_marks old fault new → TellsFlaw fault place
    halted NoMemory h = tt
    halted BadNumber h = stopped BadNumber h.refused h.ends
    halted BadToken h = stopped BadToken h.refused h.ends
    halted BadShape h = stopped BadShape h.refused h.ends
    halted Truncated h = stopped Truncated h.refused h.ends
