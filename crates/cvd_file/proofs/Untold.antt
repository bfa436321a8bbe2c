-- A text that is no flowing design's has a flaw: that of its first wrong piece, of its end, or of what comes behind a design's text.
use Rattle.std.proofs.Common.{◌≡◌, ℕ, true, false, List, [], ◌∷◌, ◌++◌, codes, drop, refl, sym, ◌∙◌, subst, append_assoc}
use Rattle.std.proofs.lemmas.Bool.{cases_Bool, false_from_ne_true}
use mathlib.Core.Logic.{inl, inr}
use Rattle.design_tree.specs.declared.instrumented.Instrumented.{Instrumented}
use Rattle.design_meaning.specs.FlowFaults.{Fault, Flows, IsFaultOf}
use Rattle.design_meaning.specs.SettledLaws.{FlowsOrFaults}
use Rattle.cvd_text.specs.Fault.{Awaits, EndsFirst, Flaw, IsFlaw, breaks_flow, cut_off, goes_on, has_first_line, has_name, invalid, no_line, other_text}
use Rattle.cvd_text.specs.Fault.{other_version, wrong_piece}
use Rattle.cvd_text.specs.Lines.{no_load}
use Rattle.cvd_text.specs.Pieces.{Mark, Piece, a_word, all_fit, design_marks, feed, fits, line_end, pieces_of, token}
use Rattle.cvd_text.specs.Spelling.{AllStand, Cvd, design_lines, spelling}
use Rattle.cvd_text.specs.Tokens.{word}
use Rattle.spelling_laws.proofs.Fitting.{both_true, join, no_more}
use Rattle.cvd_read.proofs.VarLines.{fit_stand}
use Rattle.cvd_valid_laws.proofs.Whole.{valid_where_stands}
use Rattle.cvd_flaw_laws.proofs.Whole.{whole}
use Rattle.cvd_file.specs.Laws.{FlowsOrTold, NoneUntold}

pub flows_or_told : FlowsOrFaults → FlowsOrTold
flows_or_told law x text h = elim (law x.design (x, h.valid, refl)) [
  | inl flows ↦ inl flows
  | inr broken ↦ inr (broken.0, breaks_flow x broken.0 h broken.1)
]

-- the smallest design there is
abbrev nothing : Instrumented
nothing = record {
  design = record { vars = []; inputs = []; outputs = []; processes = [] };
  counters = 0;
  toggles = [];
  points = [];
}

-- the first piece has to be the first word of the first line
at_first : Awaits [] (token (word (codes "CVD")))
at_first = record { design = nothing; first = []; more = drop 1 (design_marks nothing); split = refl; fit = refl }

module _ (law : FlowsOrFaults) (text : List ℕ) (no_design : (x : Instrumented) → Cvd x text → Flows x.design → ⊥)
    (no_flaw : (flaw : Flaw Fault) → IsFlaw Fault IsFaultOf text flaw → ⊥) where
  -- a design's text is that of one that flows, or has a flow fault
  not_spelled : (x : Instrumented) → Cvd x text → ⊥
  not_spelled x h = elim (flows_or_told law x text h) [ inl flows ↦ no_design x h flows | inr broken ↦ no_flaw (invalid broken.0) broken.1 ]

  -- a text that begins with a design's is that, or goes on
  not_ended : (x : Instrumented) (given rest : List Piece) → all_fit given (design_marks x) ≡ true → pieces_of text ≡ given ++ rest → ⊥
  not_ended x given rest fit split =
      let stand = fit_stand no_load (design_lines x) given fit in
      let valid = valid_where_stands x stand in
      let t = whole x valid text given rest fit split in
      by stand (λ e. record { valid = valid; spelled = e ∙ no_more (spelling x) }) t.tail t.split
    where
      by : AllStand x → (text ≡ spelling x ++ [] → Cvd x text) → (tail : List ℕ) → text ≡ spelling x ++ tail → ⊥
      by stand cvd [] e = not_spelled x (cvd e)
      by stand cvd (b ∷ tail) e = no_flaw _ (goes_on x b tail stand e)

  module _ (first : has_first_line text ≡ true) where
    -- a piece that doesn't fit, whatever comes next
    not_wrong : (given : List Piece) (p : Piece) (ps : List Piece) (next : Mark) → pieces_of text ≡ given ++ p ∷ ps → Awaits given next
        → ((other : Mark) → Awaits given other → fits p other ≡ false) → ⊥
    not_wrong given p ps next e a none = by p e none
      where
        wrong : (q : Piece) → pieces_of text ≡ given ++ q ∷ ps → ((other : Mark) → Awaits given other → fits q other ≡ false)
            → (wanted : Mark) → Awaits given wanted → EndsFirst given q wanted → ⊥
        wrong q split none wanted b ends =
            no_flaw _ (wrong_piece given q wanted first (record { rest = ps; split = split; awaits = b; none = none }) ends)

        by : (q : Piece) → pieces_of text ≡ given ++ q ∷ ps → ((other : Mark) → Awaits given other → fits q other ≡ false) → ⊥
        by (a_word w) split none = wrong (a_word w) split none next a tt
        by feed split none = wrong feed split none next a (λ stands b. absurd (wrong feed split none (line_end stands) b (λ s c. refl)))

    -- behind pieces that some design's text begins with
    goes : (given rest : List Piece) (next : Mark) → pieces_of text ≡ given ++ rest → Awaits given next → ⊥
    goes given [] next e a = no_flaw _ (cut_off next first (subst (λ l. Awaits l next) (sym (e ∙ no_more given)) a))
    goes given (p ∷ ps) next e a =
        not_wrong given p ps next e a
        (λ other b. false_from_ne_true (fits p other)
        (λ same. fitting given p ps other e b same (λ m c. goes (given ++ p ∷ []) ps m (e ∙ sym (append_assoc given (p ∷ []) ps)) c)))
      where
        fitting : (given : List Piece) (p : Piece) (ps : List Piece) (other : Mark) → pieces_of text ≡ given ++ p ∷ ps → (b : Awaits given other)
            → fits p other ≡ true → ((m : Mark) → Awaits (given ++ p ∷ []) m → ⊥) → ⊥
        fitting given p ps other e b same further = by b.more b.split
          where
            fit : all_fit (given ++ p ∷ []) (b.first ++ other ∷ []) ≡ true
            fit = join fits given (p ∷ []) b.first (other ∷ []) b.fit (both_true (fits p other) true same refl)

            by : (more : List Mark) → design_marks b.design ≡ b.first ++ other ∷ more → ⊥
            by [] s = not_ended b.design (given ++ p ∷ []) ps (subst (λ ms. all_fit (given ++ p ∷ []) ms ≡ true) (sym s) fit)
                (e ∙ sym (append_assoc given (p ∷ []) ps))
            by (m ∷ more) s =
                further m
                (record {
                  design = b.design;
                  first = b.first ++ other ∷ [];
                  more = more;
                  split = s ∙ sym (append_assoc b.first (other ∷ []) (m ∷ more));
                  fit = fit;
                })

  -- the first line is right
  first_is : has_name text ≡ true → (ps : List Piece) → pieces_of text ≡ ps → has_first_line text ≡ true
  first_is name ps e = elim (cases_Bool (has_first_line text)) [ inl first ↦ first | inr other ↦ absurd (by ps e other) ]
    where
      by : (ps : List Piece) → pieces_of text ≡ ps → has_first_line text ≡ false → ⊥
      by [] e other = no_flaw _ (no_line name e)
      by (p ∷ ps) e other = no_flaw _ (other_version p ps name e other)

  pub untold : ⊥
  untold = elim (cases_Bool (has_name text)) [
    | inl name ↦ goes (first_is name (pieces_of text) refl) [] (pieces_of text) (token (word (codes "CVD"))) refl at_first
    | inr other ↦ no_flaw _ (other_text other)
  ]

pub none_untold : FlowsOrFaults → NoneUntold
none_untold law text no_design no_flaw = untold law text no_design no_flaw
