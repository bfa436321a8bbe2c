-- What begins at the front of a text, test by test.
use Rattle.std.proofs.Common.{◌≡◌, ◌≢◌, ℕ, ◌+◌, ◌-◌, ◌<◌, Bool, true, false, cond, eqb, List, [], ◌∷◌, length, get_or, take, drop, refl, sym, ◌∙◌, ap, subst}
use Rattle.std.proofs.Common.{arith}
use Rattle.std.specs.Prelude.{nat_eq, Result}
use Rattle.std.specs.Prelude.{◌||◌}
use Rattle.std.specs.Int.{is_in_range}
use Rattle.std.specs.List.{prefix_len, starts_with}
use Rattle.std.proofs.lemmas.Bool.{false≢true, ne_eqb}
use Rattle.std.proofs.lemmas.List.{drop-drop, take_rest}
use Rattle.vlog_lexer.specs.Bytes.{begins_number, is_white}
use Rattle.vlog_lexer.specs.Numbers.{number_of}
use Rattle.vlog_lexer.specs.Pieces.{Front, Gives, block_comment_piece, directive_piece, front_of, line_comment_piece, name_piece, number_front, piece}
use Rattle.vlog_lexer.specs.Pieces.{string_piece, symbol_front, system_piece}
use Rattle.vlog_lexer.specs.declared.piece.Meaning.TheVariants.{Blank}
use Rattle.vlog_lexer.specs.declared.piece.Piece.{Piece}
use Rattle.vlog_lexer.specs.declared.piece.Stop.{Stop}
use Rattle.vlog_words.specs.Names.{begins_name, continues_name}
use Rattle.vlog_words.specs.Symbols.{symbol_of}

same : (a b : ℕ) → a ≡ b → eqb b b ≡ true → eqb a b ≡ true
same a b e r = ap (λ (x : ℕ). eqb x b) e ∙ r

abbrev chain : List ℕ → Bool → Bool → Bool → Bool → Bool → Bool → Bool → Bool → Front
chain s white name number quote dollar back line block =
    cond white (piece Blank 1) (
    cond name (name_piece s) (
    cond number (number_front (number_of s)) (
    cond quote (string_piece (drop 1 s)) (
    cond dollar (system_piece (drop 1 s)) (
    cond back (directive_piece (drop 1 s)) (
    cond line (line_comment_piece (drop 1 (drop 1 s))) (
    cond block (block_comment_piece (drop 1 (drop 1 s))) (
    symbol_front (symbol_of s)))))))))

front-is : (s : List ℕ) → 0 < length s → front_of s
    ≡ chain s (is_white (get_or s 0 0)) (begins_name (get_or s 0 0)) (begins_number (get_or s 0 0)) (eqb (get_or s 0 0) 34) (eqb (get_or s 0 0) 36)
    (eqb (get_or s 0 0) 96) (starts_with nat_eq s (47 ∷ (47 ∷ []))) (starts_with nat_eq s (47 ∷ (42 ∷ [])))
unfolding front_of
front-is [] l = absurd (omega arith)
front-is (b ∷ rest) l = refl

-- no white space, name or number
pub record IsOther (s : List ℕ) : Type 0 where
  pub whole : 0 < length s
  pub white : is_white (get_or s 0 0) ≡ false
  pub name : begins_name (get_or s 0 0) ≡ false
  pub number : begins_number (get_or s 0 0) ≡ false

pub at-white : (s : List ℕ) → 0 < length s → is_white (get_or s 0 0) ≡ true → front_of s ≡ piece Blank 1
at-white s l e = front-is s l ∙ rw e refl

pub at-name : (s : List ℕ) → 0 < length s → is_white (get_or s 0 0) ≡ false → begins_name (get_or s 0 0) ≡ true → front_of s ≡ name_piece s
at-name s l w e = front-is s l ∙ rw (w, e) refl

pub at-number : (s : List ℕ) → 0 < length s → is_white (get_or s 0 0) ≡ false → begins_name (get_or s 0 0) ≡ false → begins_number (get_or s 0 0) ≡ true
    → front_of s ≡ number_front (number_of s)
at-number s l w n e = front-is s l ∙ rw (w, n, e) refl

pub at-quote : (s : List ℕ) → IsOther s → get_or s 0 0 ≡ 34 → front_of s ≡ string_piece (drop 1 s)
at-quote s o e = front-is s o.whole ∙ rw (o.white, o.name, o.number, same (get_or s 0 0) 34 e refl) refl

pub at-dollar : (s : List ℕ) → IsOther s → get_or s 0 0 ≢ 34 → get_or s 0 0 ≡ 36 → front_of s ≡ system_piece (drop 1 s)
at-dollar s o q e = front-is s o.whole ∙ rw (o.white, o.name, o.number, ne_eqb (get_or s 0 0) 34 q, same (get_or s 0 0) 36 e refl) refl

pub at-back : (s : List ℕ) → IsOther s → get_or s 0 0 ≢ 34 → get_or s 0 0 ≢ 36 → get_or s 0 0 ≡ 96 → front_of s ≡ directive_piece (drop 1 s)
at-back s o q d e =
    front-is s o.whole
    ∙ rw (o.white, o.name, o.number, ne_eqb (get_or s 0 0) 34 q, ne_eqb (get_or s 0 0) 36 d, same (get_or s 0 0) 96 e refl) refl

-- none of the bytes that decide alone
pub record IsMark (s : List ℕ) : Type 0 where
  pub other : IsOther s
  pub quote : get_or s 0 0 ≢ 34
  pub dollar : get_or s 0 0 ≢ 36
  pub back : get_or s 0 0 ≢ 96

mark-is : (s : List ℕ) → IsMark s → front_of s
    ≡ chain s false false false false false false (starts_with nat_eq s (47 ∷ (47 ∷ []))) (starts_with nat_eq s (47 ∷ (42 ∷ [])))
mark-is s m =
    front-is s m.other.whole
    ∙ rw (m.other.white, m.other.name, m.other.number, ne_eqb (get_or s 0 0) 34 m.quote, ne_eqb (get_or s 0 0) 36 m.dollar, ne_eqb (get_or s 0 0) 96 m.back)
    refl

pub at-line : (s : List ℕ) → IsMark s → starts_with nat_eq s (47 ∷ (47 ∷ [])) ≡ true → front_of s ≡ line_comment_piece (drop 2 s)
at-line s m e = mark-is s m ∙ ap (λ (t : Bool). chain s false false false false false false t (starts_with nat_eq s (47 ∷ (42 ∷ [])))) e
    ∙ ap line_comment_piece (drop-drop 1 1 s)

pub at-block : (s : List ℕ) → IsMark s → starts_with nat_eq s (47 ∷ (47 ∷ [])) ≡ false → starts_with nat_eq s (47 ∷ (42 ∷ [])) ≡ true
    → front_of s ≡ block_comment_piece (drop 2 s)
at-block s m n e =
    mark-is s m ∙ ap (λ (t : Bool). chain s false false false false false false t (starts_with nat_eq s (47 ∷ (42 ∷ [])))) n
    ∙ ap (λ (t : Bool). chain s false false false false false false false t) e ∙ ap block_comment_piece (drop-drop 1 1 s)

pub at-symbol : (s : List ℕ) → IsMark s → starts_with nat_eq s (47 ∷ (47 ∷ [])) ≡ false → starts_with nat_eq s (47 ∷ (42 ∷ [])) ≡ false
    → front_of s ≡ symbol_front (symbol_of s)
at-symbol s m n e =
    mark-is s m ∙ ap (λ (t : Bool). chain s false false false false false false t (starts_with nat_eq s (47 ∷ (42 ∷ [])))) n
    ∙ ap (λ (t : Bool). chain s false false false false false false false t) e

-- a call gave what begins at the front
pub given : (s : List ℕ) (front : Front) (result : Result Piece Stop) → front_of s ≡ front → Gives front result → Gives (front_of s) result
given s front result e gives = subst (λ (x : Front). Gives x result) (sym e) gives

pub given-at : (k : ℕ) (s : List ℕ) (f : List ℕ → Front) (result : Result Piece Stop) → front_of s ≡ f (drop k s)
    → Gives (f (take (length s - k) (drop k s))) result → Gives (front_of s) result
given-at k s f result e gives = given s (f (drop k s)) result e (subst (λ (x : List ℕ). Gives (f x) result) (take_rest s k) gives)

-- an identifier has at least one byte
begins-continues : (upper lower digit e f : Bool) → ((upper || lower) || e) ≡ true → ((((digit || upper) || lower) || e) || f) ≡ true
begins-continues upper lower true e f h = refl
begins-continues true lower false e f h = refl
begins-continues false true false e f h = refl
begins-continues false false false true f h = refl
begins-continues false false false false f h = absurd (false≢true h)

pub continues : (b : ℕ) → begins_name b ≡ true → continues_name b ≡ true
unfolding begins_name continues_name
continues b h = begins-continues (is_in_range 65 90 b) (is_in_range 97 122 b) (is_in_range 48 57 b) (eqb b 95) (eqb b 36) h

pub name-some : (s : List ℕ) (n : ℕ) → 0 < length s → begins_name (get_or s 0 0) ≡ true → n ≡ prefix_len continues_name s → 0 < n
name-some [] n l begins is = absurd (omega arith)
name-some (b ∷ rest) n l begins is =
    let some : prefix_len continues_name (b ∷ rest)
    ≡ 1 + prefix_len continues_name rest = ap (λ (t : Bool). cond t (1 + prefix_len continues_name rest) 0) (continues b begins) in
    omega arith
