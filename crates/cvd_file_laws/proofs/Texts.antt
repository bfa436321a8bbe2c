-- A text is that of one design, and no text is the front of another.
use Rattle.std.proofs.Common.{◌≡◌, ℕ, true, List, [], ◌∷◌, ◌++◌, map, length, refl, sym, ◌∙◌, ap, arith, append_assoc}
use Rattle.std.specs.Prelude.{codes}
use mathlib.Core.Logic.{inl}
use Rattle.cov_types.specs.LineLists.{separated}
use Rattle.design_tree.specs.declared.instrumented.Instrumented.{Instrumented}
use Rattle.design_meaning.specs.Valid.{IsValid}
use Rattle.cvd_text.specs.Laws.{OneDesign, NoFront, StandsWhereValid}
use Rattle.cvd_text.specs.Lines.{Line, no_load, lines_text}
use Rattle.cvd_text.specs.Pieces.{fits, pieces_of, design_marks}
use Rattle.cvd_text.specs.Spelling.{design_lines, spelling}
use Rattle.cvd_text.specs.Tokens.{token_text}
use Rattle.spelling_laws.specs.Spelled.{all_fit}
use Rattle.spelling_laws.proofs.Fitting.{no_more, cut_marks, length-joined}
use Rattle.spelling_laws.proofs.One.{one_value}
use Rattle.cvd_cursor.specs.Places.{is_ended}
use Rattle.cvd_section_laws.proofs.Whole.{apart_design}
use Rattle.cvd_valid_laws.proofs.Whole.{valid_where_stands, stands_where_valid}
use Rattle.cvd_file_laws.proofs.SectionsClean.{design_clean}
use Rattle.cvd_file_laws.proofs.TextPieces.{Fit, lines_fit}

pub where_valid : StandsWhereValid
where_valid x = (valid_where_stands x, stands_where_valid x)

-- ---- lines end with a line feed

feed_ended : (rest : List ℕ) → is_ended rest ≡ true → is_ended (10 ∷ rest) ≡ true
feed_ended [] e = refl
feed_ended (r ∷ rest) e = e

behind_ended : (xs rest : List ℕ) → is_ended rest ≡ true → is_ended (xs ++ 10 ∷ rest) ≡ true
behind_ended [] rest e = feed_ended rest e
behind_ended (x ∷ []) rest e = feed_ended rest e
behind_ended (x ∷ y ∷ xs) rest e = behind_ended (y ∷ xs) rest e

line_ended : (xs rest : List ℕ) → is_ended rest ≡ true → is_ended ((xs ++ 10 ∷ []) ++ rest) ≡ true
line_ended xs rest e = ap is_ended (append_assoc xs (10 ∷ []) rest) ∙ behind_ended xs rest e

pub text_ended : (ls : List Line) → is_ended (lines_text ls) ≡ true
text_ended [] = refl
text_ended (l ∷ ls) = line_ended (separated (codes " ") (map token_text l.tokens)) (lines_text ls) (text_ended ls)

-- ---- the pieces of a design's text fit its marks

module _ (x : Instrumented) (valid : IsValid x) where
  pub pieces_then : (more : List ℕ) → is_ended (spelling x ++ more) ≡ true → Fit no_load (design_lines x) more
  pieces_then more ended = lines_fit no_load (design_lines x) more (design_clean x valid) (stands_where_valid x valid) ended

  pub pieces_fit : all_fit fits (pieces_of (spelling x)) (design_marks x) ≡ true
  pieces_fit =
      let f = pieces_then [] (ap is_ended (no_more (spelling x)) ∙ text_ended (design_lines x)) in
      let same : pieces_of (spelling x) ≡ f.given = sym (ap pieces_of (no_more (spelling x))) ∙ f.split ∙ no_more f.given in
      ap (λ gs. all_fit fits gs (design_marks x)) same ∙ f.fit

pub one_design : OneDesign
one_design x y text h k =
    one_value fits Instrumented design_marks apart_design x y (pieces_of text)
    (ap (λ t. all_fit fits (pieces_of t) (design_marks x)) h.spelled ∙ pieces_fit x h.valid)
    (ap (λ t. all_fit fits (pieces_of t) (design_marks y)) k.spelled ∙ pieces_fit y k.valid)

nothing_behind : (text more : List ℕ) → text ++ more ≡ text → more ≡ []
nothing_behind text more e = by more (let l = ap length e ∙ refl in let j = length-joined text more in omega arith)
  where
    by : (more : List ℕ) → length more ≡ 0 → more ≡ []
    by [] l = refl
    by (b ∷ more) l = absurd (omega arith)

pub no_front : NoFront
no_front x y text more h k =
    let whole : spelling x ++ more ≡ spelling y = ap (λ t. t ++ more) (sym h.spelled) ∙ k.spelled in
    let f = pieces_then x h.valid more (ap is_ended whole ∙ text_ended (design_lines y)) in
    let other : all_fit fits (f.given ++ pieces_of more) (design_marks y) ≡ true
    = ap (λ gs. all_fit fits gs (design_marks y)) (sym f.split ∙ ap pieces_of whole) ∙ pieces_fit y k.valid in
    let c = cut_marks fits f.given (pieces_of more) (design_marks y) other in
    let same = apart_design x y (inl (record { given = f.given; first = c.front; more = c.back; whole = f.fit; split = c.split; front = c.front_fits })) in
    nothing_behind text more (k.spelled ∙ ap spelling (sym same) ∙ sym h.spelled)
