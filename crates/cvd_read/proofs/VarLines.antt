-- Variables that were read: each is one, and their bits are what their lines add up to.
use Rattle.std.proofs.Common.{◌≡◌, ℕ, ◌+◌, ◌*◌, ◌≤◌, Bool, true, List, [], ◌∷◌, map, refl, ◌∙◌, ap, subst, arith}
use Rattle.std.specs.Prelude.{◌&&◌, All}
use Rattle.cov_types.specs.declared.var.Var.{Var}
use Rattle.cvd_text.specs.Lines.{Load, Line, no_load, added, is_within, stands, all_stand}
use Rattle.cvd_text.specs.Pieces.{Mark, Piece, a_word, feed, token, line_end, fits, marks_of, all_fit}
use Rattle.cvd_text.specs.Sections.{var_line, var_lines}
use Rattle.spelling_laws.proofs.Fitting.{cut_pieces, first_true, second_true, both_true}
use Rattle.cvd_cursor.specs.Places.{Reading}
use Rattle.cvd_cursor.specs.Reads.{Takes, Refused}
use Rattle.cvd_cursor.specs.declared.fault.ReadFault.{ReadFault}
use Rattle.cvd_line_ends.specs.Ends.{Halts}
use Rattle.cvd_step_laws.specs.LineMarks.{load_behind}
use Rattle.cvd_section_laws.proofs.Sections.{apart_vars}
use Rattle.cvd_section_laws.proofs.Whole.{Inputs, inputs_on, variables_on}
use Rattle.cvd_sort_laws.proofs.TokenSorts.{line_ends}
use Rattle.cvd_sort_laws.proofs.DesignSorts.{vars_sorted}
use Rattle.cvd_sections.specs.Fields.{bits_of, load_of}
use Rattle.cvd_sections.proofs.VarSection.{section}
use Rattle.cvd_valid_laws.proofs.Standing.{of_few, stands_all}
use Rattle.cvd_valid_laws.proofs.Things.{vars_told}
use Rattle.design_meaning.proofs.Listed.{by_index}
use Rattle.design_meaning.specs.ValidVariables.{IsVariable}
use Rattle.cvd_read.proofs.Chain.{takes_then, section_sorted, more_halts}

-- lines that pieces fit stand
pub fit_stand : (load : Load) (ls : List Line) (gs : List Piece) → all_fit gs (marks_of load ls) ≡ true → all_stand load ls ≡ true
fit_stand load [] gs e = refl
fit_stand load (l ∷ ls) gs e =
    let c = cut_pieces fits gs (map token l.tokens) (line_end (stands load l) ∷ marks_of (added load l.load) ls) e in
    by (stands load l) (marks_of (added load l.load) ls) (all_stand (added load l.load) ls) (λ hs f. fit_stand (added load l.load) ls hs f) c.back c.back_fits
  where
    by : (s : Bool) (ms : List Mark) (later : Bool) → ((hs : List Piece) → all_fit hs ms ≡ true → later ≡ true) → (hs : List Piece)
        → all_fit hs (line_end s ∷ ms) ≡ true → (s && later) ≡ true
    by s ms later more [] f = absurd (cc)
    by s ms later more (a_word w ∷ hs) f = absurd (cc)
    by s ms later more (feed ∷ hs) f = both_true s later (first_true s (all_fit hs ms) f) (more hs (second_true s (all_fit hs ms) f))

pub variables_stand : (old new : Reading) (vars : List Var) → Takes section old new vars → All IsVariable vars
variables_stand old new vars h =
    by_index IsVariable vars (vars_told vars (stands_all no_load (var_lines vars) (fit_stand no_load (var_lines vars) h.read.given h.read.fit)))

pub bits_within : (bits : ℕ) → bits ≤ 16777216 → is_within (load_of bits) ≡ true
bits_within bits h = of_few (load_of bits) (record { bits = h; steps = omega arith; nodes = omega arith; shown = omega arith })

behind_bits : (vars : List Var) (bits : ℕ) → load_behind (load_of bits) (map var_line vars) ≡ load_of (bits + bits_of vars)
behind_bits [] bits = let same : bits ≡ bits + 0 = omega arith in ap load_of same
behind_bits (v ∷ vars) bits =
    let same : (bits + v.width * v.words) + bits_of vars ≡ bits + (v.width * v.words + bits_of vars) = omega arith in
    behind_bits vars (bits + v.width * v.words) ∙ ap load_of same

pub behind_vars : (vars : List Var) → load_behind no_load (var_lines vars) ≡ load_of (bits_of vars)
behind_vars vars = let same : 0 + bits_of vars ≡ bits_of vars = omega arith in behind_bits vars 0 ∙ ap load_of same

-- ---- what comes behind them

abbrev some_inputs : Inputs
some_inputs = ([], ([], ([], ([], ([], tt)))))

module _ (n : ℕ) where
  pub vars_halt : (old new : Reading) (fault : ReadFault) → Refused section old fault new → Halts (variables_on n no_load) old fault new
  vars_halt = section_sorted var_lines (λ vars. inputs_on vars n) no_load (apart_vars no_load) (λ top. vars_sorted line_ends top no_load) some_inputs

  module _ (old mid new : Reading) (vars held : List Var) (load : Load) (same : held ≡ vars) (sum : load ≡ load_behind no_load (var_lines vars))
      (h : Takes section old mid vars) where
    pub vars_then : (p : Inputs) → Takes (inputs_on held n load) mid new p → Takes (variables_on n no_load) old new (vars, p)
    vars_then p k =
        takes_then var_lines (λ vs. inputs_on vs n) no_load old mid new vars p h
        (subst (λ l. Takes (inputs_on vars n l) mid new p) sum (subst (λ vs. Takes (inputs_on vs n load) mid new p) same k))

    pub halts_then : (fault : ReadFault) → Halts (inputs_on held n load) mid fault new → Halts (variables_on n no_load) old fault new
    halts_then fault r =
        more_halts var_lines (λ vs. inputs_on vs n) no_load (apart_vars no_load) old mid new vars fault h
        (subst (λ l. Halts (inputs_on vars n l) mid fault new) sum (subst (λ vs. Halts (inputs_on vs n load) mid fault new) same r))
