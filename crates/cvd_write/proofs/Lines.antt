-- The text that is written is the spelling.
use Rattle.std.specs.Prelude.{◌≡◌, ℕ, zero, suc, ◌-◌, ◌≤◌, ◌==◌, Bool, true, false, List, [], ◌∷◌, ◌++◌, codes, map, flat_map, length, refl, cond}
use Rattle.std.proofs.Common.{◌<◌, sym, ap, ◌∙◌, arith, append_assoc, get_or, take, drop}
use Rattle.std.proofs.lemmas.List.{append-nil}
use Rattle.std.specs.List.{slice_split, onto_first}
use Rattle.std.proofs.lemmas.Grind.{flat_map-append}
use Rattle.std.proofs.lemmas.List.Folds.{flat_map-map}
use Rattle.cov_types.specs.LineLists.{separated}
use Rattle.cvd_text.specs.Tokens.{Token, word, token_text, words_of, decimal_text, counters_text}
use Rattle.cvd_text.specs.Lines.{Line, line_text, lines_text}
use Rattle.cvd_write.specs.Writing.{spaced, row}

-- texts with a blank between are the first, and a blank before each further one
pub blanks_between : (t : Token) (ts : List Token) → separated (codes " ") (map token_text (t ∷ ts)) ≡ token_text t ++ spaced ts
blanks_between t [] = sym (append-nil (token_text t))
blanks_between t (u ∷ us) =
    append_assoc (token_text t) (codes " ") (separated (codes " ") (map token_text (u ∷ us)))
    ∙ ap (λ l. token_text t ++ (32 ∷ l)) (blanks_between u us)

-- a line by its tokens
pub a_line : (first : Token) (tokens : List Token) (l : Line) → l.tokens ≡ first ∷ tokens → line_text l ≡ row (token_text first) tokens
a_line first tokens l e =
    ap (λ ts. separated (codes " ") (map token_text ts) ++ 10 ∷ []) e ∙ ap (λ t. t ++ 10 ∷ []) (blanks_between first tokens)
    ∙ append_assoc (token_text first) (spaced tokens) (10 ∷ [])

-- numbers with a comma between
pub commas_between : (n : ℕ) (ns : List ℕ) → counters_text (n ∷ ns) ≡ decimal_text n ++ flat_map (λ m. 44 ∷ decimal_text m) ns
commas_between n [] = sym (append-nil (decimal_text n))
commas_between n (m ∷ ms) =
    append_assoc (decimal_text n) (codes ",") (separated (codes ",") (map decimal_text (m ∷ ms)))
    ∙ ap (λ l. decimal_text n ++ (44 ∷ l)) (commas_between m ms)

abbrev behind_blanks : List (List ℕ) → List ℕ
behind_blanks = flat_map (λ (w : List ℕ). 32 ∷ w)

-- one byte onto the first of some pieces
onto : (b : ℕ) (pieces : List (List ℕ)) (rest : List ℕ) → behind_blanks pieces ≡ 32 ∷ rest → behind_blanks (onto_first b pieces) ≡ 32 ∷ b ∷ rest
onto b [] rest e = cc
onto b (p ∷ ps) rest e = ap (λ l. 32 ∷ b ∷ drop 1 l) e

by_byte : (b : ℕ) (bs : List ℕ) (blank : Bool) → (blank ≡ true → b ≡ 32) → behind_blanks (slice_split (λ byte. byte == 32) bs) ≡ 32 ∷ bs
    → behind_blanks (cond blank ([] ∷ slice_split (λ byte. byte == 32) bs) (onto_first b (slice_split (λ byte. byte == 32) bs))) ≡ 32 ∷ b ∷ bs
by_byte b bs true same e = ap (λ l. 32 ∷ l) e ∙ ap (λ c. 32 ∷ c ∷ bs) (sym (same refl))
by_byte b bs false same e = onto b (slice_split (λ byte. byte == 32) bs) bs e

is_blank : (b : ℕ) → (b == 32) ≡ true → b ≡ 32
is_blank b e = grind arith

pieces_joined : (key : List ℕ) → behind_blanks (slice_split (λ byte. byte == 32) key) ≡ 32 ∷ key
pieces_joined [] = refl
pieces_joined (b ∷ bs) = by_byte b bs (b == 32) (is_blank b) (pieces_joined bs)

-- the pieces of a text between its blanks, a blank before each, are the text behind a blank
pub key_spaced : (key : List ℕ) → spaced (words_of key) ≡ 32 ∷ key
key_spaced key = flat_map-map (λ (t : Token). 32 ∷ token_text t) word (slice_split (λ byte. byte == 32) key) ∙ pieces_joined key

-- lines of lists of lines
pub lines_joined : (ls ms : List Line) → lines_text (ls ++ ms) ≡ lines_text ls ++ lines_text ms
lines_joined ls ms = flat_map-append line_text ls ms

whole_taken : (ns : List ℕ) (k : ℕ) → length ns ≤ k → take k ns ≡ ns
whole_taken [] zero h = refl
whole_taken [] (suc k) h = refl
whole_taken (n ∷ ns) zero h = absurd (omega (arith, h))
whole_taken (n ∷ ns) (suc k) h = ap (λ l. n ∷ l) (whole_taken ns k (omega (arith, h)))

-- the first of some numbers, and those behind it
pub first_counter : (ns : List ℕ) → 0 < length ns
    → decimal_text (get_or ns 0 0) ++ flat_map (λ m. 44 ∷ decimal_text m) (take (length ns - 1) (drop 1 ns)) ≡ counters_text ns
first_counter [] h = absurd (omega (arith, h))
first_counter (n ∷ ns) h =
    ap (λ l. decimal_text n ++ flat_map (λ m. 44 ∷ decimal_text m) l) (whole_taken ns (length (n ∷ ns) - 1) (omega arith)) ∙ sym (commas_between n ns)
