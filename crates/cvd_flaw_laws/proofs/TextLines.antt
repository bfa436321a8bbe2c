-- The text whose pieces fit the marks of lines: it begins with these lines.
use Rattle.std.proofs.Common.{◌≡◌, ℕ, Bool, true, false, List, [], ◌∷◌, ◌++◌, map, refl, sym, ◌∙◌, ap, append_assoc, eqb}
use Rattle.std.specs.Prelude.{codes, if◌then◌else◌}
use Rattle.std.specs.Cmp.Lexicographic.{bytes_decides}
use Rattle.std.specs.Str.{bytes_eq}
use Rattle.std.proofs.lemmas.Bool.{eqb-true, true≢false}
use Rattle.cov_types.specs.LineLists.{separated}
use Rattle.cvd_text.specs.Tokens.{Token, token_text}
use Rattle.cvd_text.specs.Lines.{Load, Line, added, stands, line_text, lines_text}
use Rattle.cvd_text.specs.Pieces.{Piece, a_word, feed, Mark, token, line_end, fits, pieces_of, onto_word, empty_word, marks_of}
use Rattle.spelling_laws.specs.Spelled.{all_fit}
use Rattle.spelling_laws.proofs.Fitting.{first_true, second_true, tail_of}
use Rattle.cvd_file_laws.proofs.Clean.{is_clean}
use Rattle.cvd_file_laws.proofs.TextPieces.{is_line, lines_clean}

-- a text is a first word, a blank or a line feed, and a text
data Cut (text w : List ℕ) (ps : List Piece) : Type 0 where
  at_blank : (rest : List ℕ) → text ≡ w ++ 32 ∷ rest → ps ≡ pieces_of rest → Cut text w ps
  at_feed : (rest : List ℕ) → text ≡ w ++ 10 ∷ rest → ps ≡ feed ∷ pieces_of rest → Cut text w ps

-- the pieces of a text with one byte more in front
abbrev more_pieces : Bool → Bool → ℕ → List Piece → List Piece
more_pieces feeds blank b ps = if feeds then a_word [] ∷ feed ∷ ps else if blank then empty_word ps else onto_word b ps

-- no text's pieces begin with a line feed
no_feed_first : (text : List ℕ) (ps : List Piece) → pieces_of text ≡ feed ∷ ps → ⊥
no_feed_first [] ps e = cc
no_feed_first (b ∷ bs) ps e = by (eqb b 10) (eqb b 32) (pieces_of bs) e
  where
    by : (feeds blank : Bool) (qs : List Piece) → more_pieces feeds blank b qs ≡ feed ∷ ps → ⊥
    by true blank qs f = cc
    by false true [] f = cc
    by false true (q ∷ qs) f = cc
    by false false [] f = cc
    by false false (a_word v ∷ qs) f = cc
    by false false (feed ∷ qs) f = cc

longer : (b : ℕ) (bs v : List ℕ) (qs : List Piece) → Cut bs v qs → Cut (b ∷ bs) (b ∷ v) qs
longer b bs v qs (at_blank rest e f) = at_blank rest (ap (λ l. b ∷ l) e) f
longer b bs v qs (at_feed rest e f) = at_feed rest (ap (λ l. b ∷ l) e) f

moved : (text v w : List ℕ) (qs ps : List Piece) → v ≡ w → qs ≡ ps → Cut text v qs → Cut text w ps
moved text v w qs ps same others (at_blank rest e f) = at_blank rest (e ∙ ap (λ l. l ++ 32 ∷ rest) same) (sym others ∙ f)
moved text v w qs ps same others (at_feed rest e f) = at_feed rest (e ∙ ap (λ l. l ++ 10 ∷ rest) same) (sym others ∙ f)

word_cut : (text w : List ℕ) (ps : List Piece) → pieces_of text ≡ a_word w ∷ ps → Cut text w ps
word_cut [] w ps e = absurd (cc)
word_cut (b ∷ bs) w ps e = by (λ v qs here. word_cut bs v qs here) (eqb b 10) (eqb b 32) (pieces_of bs) refl refl refl e
  where
    by : ((v : List ℕ) (qs : List Piece) → pieces_of bs ≡ a_word v ∷ qs → Cut bs v qs) → (feeds blank : Bool) (qs : List Piece) → eqb b 10 ≡ feeds
        → eqb b 32 ≡ blank → pieces_of bs ≡ qs → more_pieces feeds blank b qs ≡ a_word w ∷ ps
        → Cut (b ∷ bs) w ps
    by later true blank qs h k here f =
        let word : [] ≡ w = cc in
        moved (b ∷ bs) [] w (feed ∷ qs) ps word (ap tail_of f)
        (at_feed bs (ap (λ x. x ∷ bs) (eqb-true b 10 h)) (ap (λ l. feed ∷ l) (sym here)))
    by later false true [] h k here f = absurd (cc)
    by later false true (q ∷ qs) h k here f =
        let word : [] ≡ w = cc in
        moved (b ∷ bs) [] w (q ∷ qs) ps word (ap tail_of f) (at_blank bs (ap (λ x. x ∷ bs) (eqb-true b 32 k)) (sym here))
    by later false false [] h k here f = absurd (cc)
    by later false false (a_word v ∷ qs) h k here f =
        let word : b ∷ v ≡ w = cc in
        moved (b ∷ bs) (b ∷ v) w qs ps word (ap tail_of f) (longer b bs v qs (later v qs here))
    by later false false (feed ∷ qs) h k here f = absurd (no_feed_first bs qs here)

-- ---- one line

abbrev tokens_text : List Token → List ℕ
tokens_text ts = separated (codes " ") (map token_text ts)

-- a text begins with a line; the pieces of what is behind it fit the marks that are left
record Behind (ts : List Token) (ms : List Mark) (rest : List Piece) (text : List ℕ) : Type 0 where
  tail : List ℕ
  given : List Piece
  split : text ≡ (tokens_text ts ++ 10 ∷ []) ++ tail
  pieces : pieces_of tail ≡ given ++ rest
  fit : all_fit fits given ms ≡ true

module _ (stand : Bool) (ms : List Mark) (rest : List Piece) where
  -- the last word of a line
  line_ends : (t : Token) (gs : List Piece) (text : List ℕ) (w : List ℕ) → bytes_eq w (token_text t) ≡ true
      → all_fit fits gs (line_end stand ∷ ms) ≡ true → pieces_of text ≡ a_word w ∷ (gs ++ rest) → Behind (t ∷ []) ms rest text
  line_ends t [] text w same fit e = absurd (true≢false (sym fit))
  line_ends t (a_word v ∷ gs) text w same fit e = absurd (true≢false (sym fit))
  line_ends t (feed ∷ gs) text w same fit e = by (word_cut text w (feed ∷ (gs ++ rest)) e)
    where
      by : Cut text w (feed ∷ (gs ++ rest)) → Behind (t ∷ []) ms rest text
      by (at_blank back h k) = absurd (no_feed_first back (gs ++ rest) (sym k))
      by (at_feed back h k) = record {
        tail = back;
        given = gs;
        split = h ∙ ap (λ l. l ++ 10 ∷ back) ((bytes_decides w (token_text t)).0 same) ∙ sym (append_assoc (token_text t) (10 ∷ []) back);
        pieces = sym (ap tail_of k);
        fit = second_true stand (all_fit fits gs ms) fit;
      }

  -- one word more in front
  word_more : (t u : Token) (ts : List Token) (text back w : List ℕ) → bytes_eq w (token_text t) ≡ true → text ≡ w ++ 32 ∷ back
      → Behind (u ∷ ts) ms rest back → Behind (t ∷ u ∷ ts) ms rest text
  word_more t u ts text back w same h b =
      let v = token_text t in
      let line : (tokens_text (t ∷ u ∷ ts) ++ 10 ∷ []) ++ b.tail ≡ v ++ 32 ∷ ((tokens_text (u ∷ ts) ++ 10 ∷ []) ++ b.tail)
      = ap (λ l. (l ++ 10 ∷ []) ++ b.tail) (append_assoc v (codes " ") (tokens_text (u ∷ ts)))
      ∙ ap (λ l. l ++ b.tail) (append_assoc v (32 ∷ tokens_text (u ∷ ts)) (10 ∷ []))
      ∙ append_assoc v (32 ∷ (tokens_text (u ∷ ts) ++ 10 ∷ [])) b.tail in
      record {
        tail = b.tail;
        given = b.given;
        split = h ∙ ap (λ l. l ++ 32 ∷ back) ((bytes_decides w v).0 same) ∙ ap (λ l. v ++ 32 ∷ l) b.split ∙ sym line;
        pieces = b.pieces;
        fit = b.fit;
      }

  line_front : (ts : List Token) (gs : List Piece) (text : List ℕ) → is_line ts ≡ true → all_fit fits gs (map token ts ++ line_end stand ∷ ms) ≡ true
      → pieces_of text ≡ gs ++ rest → Behind ts ms rest text
  line_front [] gs text clean fit e = absurd (true≢false (sym clean))
  line_front (t ∷ ts) [] text clean fit e = absurd (true≢false (sym fit))
  line_front (t ∷ ts) (feed ∷ gs) text clean fit e = absurd (true≢false (sym fit))
  line_front (t ∷ []) (a_word w ∷ gs) text clean fit e =
      line_ends t gs text w (first_true (bytes_eq w (token_text t)) _ fit) (second_true (bytes_eq w (token_text t)) _ fit) e
  line_front (t ∷ u ∷ ts) (a_word w ∷ gs) text clean fit e =
      by (λ hs back f k. line_front (u ∷ ts) hs back (second_true (is_clean t) _ clean) f k) gs (second_true (bytes_eq w (token_text t)) _ fit)
      (word_cut text w (gs ++ rest) e)
    where
      by : ((hs : List Piece) (back : List ℕ) → all_fit fits hs (map token (u ∷ ts) ++ line_end stand ∷ ms) ≡ true → pieces_of back ≡ hs ++ rest
          → Behind (u ∷ ts) ms rest back) → (hs : List Piece) → all_fit fits hs (map token (u ∷ ts) ++ line_end stand ∷ ms) ≡ true → Cut text w (hs ++ rest)
          → Behind (t ∷ u ∷ ts) ms rest text
      by later hs f (at_blank back h k) =
          word_more t u ts text back w (first_true (bytes_eq w (token_text t)) _ fit) h (later hs back f (sym k))
      by later [] f (at_feed back h k) = absurd (true≢false (sym f))
      by later (feed ∷ hs) f (at_feed back h k) = absurd (true≢false (sym f))
      by later (a_word v ∷ hs) f (at_feed back h k) = absurd (cc)

-- ---- lines

-- a text begins with lines
pub record Tail (ls : List Line) (rest : List Piece) (text : List ℕ) : Type 0 where
  pub tail : List ℕ
  pub split : text ≡ lines_text ls ++ tail
  pub pieces : pieces_of tail ≡ rest

pub lines_front : (before : Load) (ls : List Line) (gs rest : List Piece) (text : List ℕ) → lines_clean ls ≡ true → all_fit fits gs (marks_of before ls) ≡ true
    → pieces_of text ≡ gs ++ rest → Tail ls rest text
lines_front before [] [] rest text clean fit e = record { tail = text; split = refl; pieces = e }
lines_front before [] (g ∷ gs) rest text clean fit e = absurd (true≢false (sym fit))
lines_front before (l ∷ ls) gs rest text clean fit e =
    let b =
    line_front (stands before l) (marks_of (added before l.load) ls) rest l.tokens gs text (first_true (is_line l.tokens) (lines_clean ls) clean) fit e
    in
    let later = lines_front (added before l.load) ls b.given rest b.tail (second_true (is_line l.tokens) (lines_clean ls) clean) b.fit b.pieces in
    record {
      tail = later.tail;
      split = b.split ∙ ap (λ z. line_text l ++ z) later.split ∙ sym (append_assoc (line_text l) (lines_text ls) later.tail);
      pieces = later.pieces;
    }
