-- The pieces of the text of lines whose tokens have no blank and no line feed: they fit the lines' marks.
use Rattle.std.proofs.Common.{◌≡◌, ℕ, Bool, true, false, List, [], ◌∷◌, ◌++◌, map, refl, sym, ◌∙◌, ap, append_assoc}
use Rattle.std.specs.Prelude.{codes}
use Rattle.std.specs.List.{list_all}
use Rattle.std.specs.Cmp.Lexicographic.{bytes_decides}
use Rattle.std.specs.Str.{bytes_eq}
use Rattle.std.proofs.lemmas.Bool.{true≢false}
use Rattle.cov_types.specs.LineLists.{separated}
use Rattle.cvd_text.specs.Tokens.{Token, token_text}
use Rattle.cvd_text.specs.Lines.{Load, Line, added, stands, all_stand, line_text, lines_text}
use Rattle.cvd_text.specs.Pieces.{Piece, a_word, feed, token, line_end, fits, pieces_of, marks_of}
use Rattle.spelling_laws.specs.Spelled.{all_fit}
use Rattle.spelling_laws.proofs.Fitting.{first_true, second_true, both_true, join}
use Rattle.cvd_cursor.specs.Places.{is_ended}
use Rattle.cvd_cursor.proofs.Cutting.{first_cut, ended_behind}
use Rattle.cvd_file_laws.proofs.Clean.{is_clean, all_clean}

-- a line has tokens, and none has a blank or a line feed
abbrev pub is_line : List Token → Bool
is_line [] = false
is_line (t ∷ ts) = all_clean (t ∷ ts)

abbrev pub lines_clean : List Line → Bool
lines_clean ls = list_all (λ (l : Line). is_line l.tokens) ls

-- the words of a line, and the line feed
abbrev token_pieces : List Token → List Piece
token_pieces ts = map (λ (t : Token). a_word (token_text t)) ts

abbrev tokens_text : List Token → List ℕ
tokens_text ts = separated (codes " ") (map token_text ts)

line_pieces : (t : Token) (ts : List Token) (more : List ℕ) → all_clean (t ∷ ts) ≡ true → is_ended ((tokens_text (t ∷ ts) ++ 10 ∷ []) ++ more) ≡ true
    → pieces_of ((tokens_text (t ∷ ts) ++ 10 ∷ []) ++ more) ≡ token_pieces (t ∷ ts) ++ feed ∷ pieces_of more
line_pieces t [] more clean ended =
    let same = append_assoc (token_text t) (10 ∷ []) more in
    ap pieces_of same ∙ first_cut (token_text t) 10 more (first_true (is_clean t) true clean) refl (sym (ap is_ended same) ∙ ended)
line_pieces t (u ∷ ts) more clean ended =
    let w = token_text t in
    let rest = (tokens_text (u ∷ ts) ++ 10 ∷ []) ++ more in
    let same : (tokens_text (t ∷ u ∷ ts) ++ 10 ∷ []) ++ more ≡ w ++ 32 ∷ rest
    = ap (λ l. (l ++ 10 ∷ []) ++ more) (append_assoc w (codes " ") (tokens_text (u ∷ ts)))
    ∙ ap (λ l. l ++ more) (append_assoc w (32 ∷ tokens_text (u ∷ ts)) (10 ∷ []))
    ∙ append_assoc w (32 ∷ (tokens_text (u ∷ ts) ++ 10 ∷ [])) more in
    let ended2 = sym (ap is_ended same) ∙ ended in
    ap pieces_of same ∙ first_cut w 32 rest (first_true (is_clean t) _ clean) refl ended2
    ∙ ap (λ l. a_word w ∷ l) (line_pieces u ts more (second_true (is_clean t) _ clean) (ended_behind w 32 rest ended2))

line_front : (ts : List Token) (more : List ℕ) → is_line ts ≡ true → is_ended ((tokens_text ts ++ 10 ∷ []) ++ more) ≡ true
    → pieces_of ((tokens_text ts ++ 10 ∷ []) ++ more) ≡ token_pieces ts ++ feed ∷ pieces_of more
line_front [] more clean ended = absurd (true≢false (sym clean))
line_front (t ∷ ts) more clean ended = line_pieces t ts more clean ended

-- what comes behind a line is ended where the whole is
ended_more : (xs : List ℕ) (more : List ℕ) → is_ended ((xs ++ 10 ∷ []) ++ more) ≡ true → is_ended more ≡ true
ended_more xs more e = ended_behind xs 10 more (sym (ap is_ended (append_assoc xs (10 ∷ []) more)) ∙ e)

tokens_fit : (ts : List Token) → all_fit fits (token_pieces ts) (map token ts) ≡ true
tokens_fit [] = refl
tokens_fit (t ∷ ts) =
    both_true (bytes_eq (token_text t) (token_text t)) _ ((bytes_decides (token_text t) (token_text t)).1 refl) (tokens_fit ts)

-- the pieces of lines, and of what comes behind them
pub record Fit (before : Load) (ls : List Line) (more : List ℕ) : Type 0 where
  pub given : List Piece
  pub split : pieces_of (lines_text ls ++ more) ≡ given ++ pieces_of more
  pub fit : all_fit fits given (marks_of before ls) ≡ true

pub lines_fit : (before : Load) (ls : List Line) (more : List ℕ) → lines_clean ls ≡ true → all_stand before ls ≡ true → is_ended (lines_text ls ++ more) ≡ true
    → Fit before ls more
lines_fit before [] more clean stand ended = record { given = []; split = refl; fit = refl }
lines_fit before (l ∷ ls) more clean stand ended =
    let rest = lines_text ls ++ more in
    let words = token_pieces l.tokens in
    let same = append_assoc (line_text l) (lines_text ls) more in
    let ended2 = sym (ap is_ended same) ∙ ended in
    let later = lines_fit (added before l.load) ls more (second_true (is_line l.tokens) (lines_clean ls) clean)
    (second_true (stands before l) (all_stand (added before l.load) ls) stand) (ended_more (tokens_text l.tokens) rest ended2) in
    record {
      given = words ++ feed ∷ later.given;
      split = ap pieces_of same ∙ line_front l.tokens rest (first_true (is_line l.tokens) (lines_clean ls) clean) ended2
          ∙ ap (λ z. words ++ feed ∷ z) later.split ∙ sym (append_assoc words (feed ∷ later.given) (pieces_of more));
      fit = join fits words (feed ∷ later.given) (map token l.tokens) (line_end (stands before l) ∷ marks_of (added before l.load) ls) (tokens_fit l.tokens)
          (both_true (stands before l) (all_fit fits later.given (marks_of (added before l.load) ls))
          (first_true (stands before l) (all_stand (added before l.load) ls) stand) later.fit);
    }
