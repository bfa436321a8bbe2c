-- A text that begins with a design's: where that ends.
use Rattle.std.proofs.Common.{◌≡◌, ℕ, suc, ◌+◌, ◌<◌, true, List, [], ◌∷◌, ◌++◌, length, refl, sym, ◌∙◌, ap, arith}
use Rattle.std.proofs.lemmas.Bool.{true≢false, eqb-true}
use Rattle.design_tree.specs.declared.instrumented.Instrumented.{Instrumented}
use Rattle.design_meaning.specs.Valid.{IsValid}
use Rattle.cvd_text.specs.Fault.{has_first_line, line_start}
use Rattle.cvd_text.specs.Lines.{no_load}
use Rattle.cvd_text.specs.Pieces.{Piece, fits, pieces_of, design_marks}
use Rattle.cvd_text.specs.Spelling.{design_lines, spelling}
use Rattle.spelling_laws.specs.Spelled.{all_fit}
use Rattle.spelling_laws.proofs.Fitting.{no_more, length-joined}
use Rattle.cvd_cursor.specs.Places.{is_ended}
use Rattle.cvd_cursor.proofs.Starts.{feeds, lines, lines-append, feeds_given, start_behind}
use Rattle.cvd_file_laws.proofs.SectionsClean.{design_clean}
use Rattle.cvd_file_laws.proofs.Texts.{text_ended}
use Rattle.cvd_flaw_laws.proofs.TextLines.{Tail, lines_front}

-- bytes that end with a line feed
record Fed (s : List ℕ) : Type 0 where
  start : List ℕ
  is : s ≡ start ++ 10 ∷ []

fed_of : (b : ℕ) (bs : List ℕ) → is_ended (b ∷ bs) ≡ true → Fed (b ∷ bs)
fed_of b [] e = record { start = []; is = ap (λ x. x ∷ []) (eqb-true b 10 e) }
fed_of b (c ∷ bs) e = let f = fed_of c bs e in record { start = b ∷ f.start; is = ap (λ l. b ∷ l) f.is }

first_fed : (s : List ℕ) → is_ended s ≡ true → has_first_line s ≡ true → Fed s
first_fed [] e h = absurd (true≢false (sym h))
first_fed (b ∷ bs) e h = fed_of b bs e

module _ (x : Instrumented) (valid : IsValid x) (text : List ℕ) (given rest : List Piece) (fit : all_fit fits given (design_marks x) ≡ true)
    (split : pieces_of text ≡ given ++ rest) where
  pub whole : Tail (design_lines x) rest text
  whole = lines_front no_load (design_lines x) given rest text (design_clean x valid) fit split

  spelled : Fed (spelling x)
  spelled = first_fed (spelling x) (text_ended (design_lines x)) refl

  -- the line behind the design's begins where its text ends
  pub whole_place : line_start text given ≡ length (spelling x)
  whole_place =
      let t = whole in
      let s = spelled in
      let e : pieces_of (spelling x ++ (t.tail ++ [])) ≡ given ++ pieces_of t.tail
      = ap (λ l. pieces_of (spelling x ++ l)) (no_more t.tail) ∙ ap pieces_of (sym t.split) ∙ split ∙ ap (λ l. given ++ l) (sym t.pieces) in
      let counted = feeds_given (spelling x) t.tail [] given refl e in
      let fed = ap lines s.is ∙ lines-append s.start (10 ∷ []) in
      let count : feeds given ≡ suc (lines s.start) = omega arith in
      let long = ap length s.is ∙ length-joined s.start (10 ∷ []) in
      let here : text ≡ s.start ++ 10 ∷ ([] ++ t.tail)
      = t.split ∙ ap (λ l. l ++ t.tail) s.is ∙ append_one s.start t.tail in
      start_behind text given s.start [] t.tail here count ∙ size (length s.start) (length (spelling x)) long
    where
      append_one : (xs ys : List ℕ) → (xs ++ 10 ∷ []) ++ ys ≡ xs ++ 10 ∷ ys
      append_one [] ys = refl
      append_one (b ∷ xs) ys = ap (λ l. b ∷ l) (append_one xs ys)

      size : (m n : ℕ) → n ≡ m + 1 → m + 1 ≡ n
      size m n e = sym e

  -- nothing comes behind it
  pub whole_text : length text ≡ length (spelling x) → text ≡ spelling x
  whole_text e =
      let t = whole in
      let l = ap length t.split ∙ length-joined (spelling x) t.tail in
      by t.tail t.split (omega arith)
    where
      by : (tail : List ℕ) → text ≡ spelling x ++ tail → length tail ≡ 0 → text ≡ spelling x
      by [] s n = s ∙ no_more (spelling x)
      by (b ∷ tail) s n = absurd (omega arith)

  -- a byte comes behind it
  pub whole_more : length (spelling x) < length text → (byte : ℕ) × ((more : List ℕ) × (text ≡ spelling x ++ byte ∷ more))
  whole_more less =
      let t = whole in
      let l = ap length t.split ∙ length-joined (spelling x) t.tail in
      by t.tail t.split (omega arith)
    where
      by : (tail : List ℕ) → text ≡ spelling x ++ tail → 0 < length tail → (byte : ℕ) × ((more : List ℕ) × (text ≡ spelling x ++ byte ∷ more))
      by [] s n = absurd (omega arith)
      by (b ∷ tail) s n = (b, (tail, s))
