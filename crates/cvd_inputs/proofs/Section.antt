-- The section of inputs.
use Rattle.std.proofs.Common.{◌≡◌, ℕ, Bool, true, List, [], ◌∷◌, ◌++◌, length, refl, sym, ◌∙◌, ap, subst, Option, Some, None}
use Rattle.std.specs.Prelude.{◌==◌, ◌||◌, codes, is_some, nat_lt}
use Rattle.cov_types.specs.declared.var.Var.{Var}
use Rattle.design_tree.specs.declared.design.Input.{Input}
use Rattle.spelling_laws.specs.Spelled.{Apart}
use Rattle.spelling_laws.proofs.One as single
use Rattle.cvd_text.specs.Lines.{Line}
use Rattle.cvd_text.specs.Tokens.{word}
use Rattle.cvd_text.specs.Pieces.{Mark, Piece, a_word, feed, fits, token}
use Rattle.cvd_text.specs.Sections.{heading, input_line, input_lines, input_numbers, lines_behind}
use Rattle.cvd_laws.proofs.Typeds.{same_text}
use Rattle.cvd_cursor.specs.Numerals.{number_tokens}
use Rattle.cvd_cursor.specs.Places.{Reading}
use Rattle.cvd_cursor.specs.Reads.{Takes, Refused, marks}
use Rattle.cvd_cursor.specs.declared.fault.ReadFault.{ReadFault}
use Rattle.cvd_nodes.proofs.Fields.{apart_number}
use Rattle.std.proofs.lemmas.Bool.{true≢false}
use Rattle.cvd_sections.specs.Alone.{design_of, marks_alone, row_marks}
use Rattle.cvd_sections.proofs.Lists.{row}
use Rattle.cvd_sections.proofs.Lines.{apart_line}
use Rattle.cvd_sections.proofs.Tokens as tokens
use Rattle.cvd_sections.specs.Closing.{Judges}
use Rattle.cvd_inputs.specs.Names.{input_tokens, may_be_input}

abbrev pub some_input : Input
some_input = record { var = 0; name = [] }

same_words : (p : Piece) (v w : List ℕ) → fits p (token (word v)) ≡ true → fits p (token (word w)) ≡ true → v ≡ w
same_words (a_word text) v w e f = sym (same_text text v e) ∙ same_text text w f
same_words feed v w e f = absurd (true≢false (sym e))

pub apart_word : Apart fits (marks (λ w. word w ∷ []))
apart_word w = single.apart_one fits (List ℕ) (λ v. token (word v)) same_words w

abbrev pub input_by : (v : ℕ) × List ℕ → Input
input_by p = record { var = p.0; name = p.1 }

abbrev pub input_parts : Input → (v : ℕ) × List ℕ
input_parts i = (i.var, i.name)

pub takes_input : (old mid new : Reading) (v : ℕ) (w : List ℕ) → Takes (marks number_tokens) old mid v → Takes (marks (λ n. word n ∷ [])) mid new w
    → Takes (marks input_tokens) old new (input_by (v, w))
takes_input =
    tokens.takes_parts ℕ (List ℕ) Input number_tokens (λ w. word w ∷ []) input_tokens input_by input_parts (λ i. refl) (λ i. refl) (λ p. refl) apart_number

pub refused_var : (old new : Reading) (fault : ReadFault) → Refused (marks number_tokens) old fault new → Refused (marks input_tokens) old fault new
refused_var =
    tokens.refused_front ℕ (List ℕ) Input number_tokens (λ w. word w ∷ []) input_tokens input_by input_parts (λ i. refl) (λ i. refl) (λ p. refl) apart_number []

pub refused_name : (old mid new : Reading) (v : ℕ) (fault : ReadFault) → Takes (marks number_tokens) old mid v
    → Refused (marks (λ w. word w ∷ [])) mid fault new
    → Refused (marks input_tokens) old fault new
refused_name =
    tokens.refused_back ℕ (List ℕ) Input number_tokens (λ w. word w ∷ []) input_tokens input_by input_parts (λ i. refl) (λ i. refl) (λ p. refl) apart_number

pub apart_input : Apart fits (marks input_tokens)
apart_input =
    tokens.apart_parts ℕ (List ℕ) Input number_tokens (λ w. word w ∷ []) input_tokens input_by input_parts (λ i. refl) (λ i. refl) (λ p. refl) apart_number
    apart_word

module _ (vars : List Var) where
  abbrev pub each : ℕ → List Input → Input → Line
  each n before i = input_line (design_of vars [] []) n before i

  -- whether there may be so many inputs
  abbrev pub may_be : ℕ → Bool
  may_be n = nat_lt 0 n || length (input_numbers vars) == 0

  abbrev pub section : List Input → List Mark
  section is = marks_alone (input_lines (design_of vars is []))

  pub alike : (is : List Input) → section is ≡ row_marks (heading (codes "inputs") (length is) (may_be (length is)))
      ++ marks_alone (lines_behind (each (length is)) [] is)
  alike is = refl

  pub apart_rows : (s : ℕ × List Input) → Apart fits (row each s)
  apart_rows s = apart_line input_tokens (λ i. (each s.0 s.1 i).holds) apart_input

  -- what was found of an input tells whether its line stands
  pub is_found : (all : ℕ) (before : List Input) (i : Input) (found : Option ℕ) → Judges (may_be_input vars all before) (λ j held. held ≡ j.var) i found
      → is_some found ≡ may_be_input vars all before i
  is_found all before i (Some v) j = sym j.0
  is_found all before i None j = sym j

  pub var_found : (all : ℕ) (before : List Input) (i : Input) (found : Option ℕ) (held : ℕ) → found ≡ Some held
      → Judges (may_be_input vars all before) (λ j held. held ≡ j.var) i found → held ≡ i.var
  var_found all before i found held e j = (subst (λ f. Judges (may_be_input vars all before) (λ j h. h ≡ j.var) i f) e j).1

pub input_same : (v : ℕ) (w : List ℕ) (i : Input) → v ≡ i.var → w ≡ i.name → input_by (v, w) ≡ i
input_same v w i e f = ap (λ x. input_by (x, w)) e ∙ ap (λ x. input_by (i.var, x)) f
