-- No token of an expression, a target or a displayed piece has a blank or a line feed in it.
use Rattle.std.proofs.Common.{◌≡◌, ℕ, ◌<◌, Bool, true, false, not, List, [], ◌∷◌, ◌++◌, map, refl, ◌∙◌, ap, arith}
use Rattle.std.specs.Prelude.{◌&&◌, ◌/◌, ◌%◌, nat_lt, flat_map, codes, if◌then◌else◌}
use Rattle.std.specs.List.{list_all}
use Rattle.std.proofs.lemmas.Bool.Decides.{nat_tests}
use Rattle.cov_types.specs.LineLists.{separated}
use Rattle.circuit_run.specs.Digits.{digit}
use Rattle.design_tree.specs.declared.operator.TypedUnary.{TypedUnary}
use Rattle.design_tree.specs.declared.operator.TypedUnary.TheVariants as u
use Rattle.design_tree.specs.declared.operator.TypedBinary.{TypedBinary}
use Rattle.design_tree.specs.declared.operator.TypedBinary.TheVariants as b
use Rattle.design_tree.specs.declared.step.Piece.{Piece}
use Rattle.design_tree.specs.declared.step.Piece.TheVariants as piece
use Rattle.design_tree.specs.declared.step.Target.{Target}
use Rattle.design_tree.specs.declared.step.Target.TheVariants as target
use Rattle.design_tree.specs.declared.typed.Index.{Index}
use Rattle.design_tree.specs.declared.typed.Typed.{Typed}
use Rattle.design_tree.specs.declared.typed.Typed.TheOpen as t
use Rattle.design_meaning.proofs.TypedFolds as folds
use Rattle.design_meaning.proofs.TypedInduction.{typed_induction}
use Rattle.cvd_text.specs.Tokens.{Token, word, number, hex, digits, counters, token_text, decimal_text, hex_text, byte_text}
use Rattle.cvd_text.specs.Expressions.{Position, node_tokens, index_tokens, tokens_of, position_tokens, unary_word, binary_word, sign_word}
use Rattle.cvd_text.specs.Targets.{target_tokens, piece_tokens}
use Rattle.cvd_cursor.specs.Numerals.{is_digit}
use Rattle.cvd_cursor.proofs.Cutting.{none_passes, separates}
use Rattle.cvd_cursor.proofs.Digits.{numeral_is, numeral_digits, shown_digit}
use Rattle.cvd_laws.proofs.Targets.{position_alike}
use Rattle.cvd_laws.proofs.Typeds.{position_at}
use Rattle.spelling_laws.proofs.Fitting.{first_true, second_true, both_true}
use Rattle.cvd_valid_laws.proofs.Conditions.{all_join}

-- ---- tokens

abbrev pub is_clean : Token → Bool
is_clean t = none_passes separates (token_text t)

abbrev pub all_clean : List Token → Bool
all_clean ts = list_all is_clean ts

abbrev clear : ℕ → Bool
clear b = not (separates b)

digit_clear : (base b : ℕ) → is_digit base b ≡ true → clear b ≡ true
digit_clear base b h = grind (arith, nat_tests)

digits_clear : (base : ℕ) (bs : List ℕ) → list_all (is_digit base) bs ≡ true → none_passes separates bs ≡ true
digits_clear base [] h = refl
digits_clear base (x ∷ bs) h =
    both_true (clear x) (none_passes separates bs) (digit_clear base x (first_true (is_digit base x) _ h))
    (digits_clear base bs (second_true (is_digit base x) _ h))

pub number_clean : (n : ℕ) → is_clean (number n) ≡ true
number_clean n = digits_clear 10 (decimal_text n) (numeral_digits 10 (decimal_text n) (numeral_is 10 n (omega arith) (omega arith)))

pub hex_clean : (n : ℕ) → is_clean (hex n) ≡ true
hex_clean n = digits_clear 16 (hex_text n) (numeral_digits 16 (hex_text n) (numeral_is 16 n (omega arith) (omega arith)))

high_clear : (n : ℕ) → nat_lt n 256 ≡ false → clear n ≡ true
high_clear n h = grind (arith, nat_tests)

small_byte : (n : ℕ) → nat_lt n 256 ≡ true → n < 256
small_byte n h = grind (arith, nat_tests)

byte_clean : (n : ℕ) → none_passes separates (byte_text n) ≡ true
byte_clean n = by (nat_lt n 256) refl
  where
    by : (small : Bool) → nat_lt n 256 ≡ small → none_passes separates (byte_text n) ≡ true
    by true h =
        let lt = small_byte n h in
        ap (λ s. none_passes separates (if s then digit (n / 16) ∷ digit (n % 16) ∷ [] else n ∷ [])) h
        ∙ both_true (clear (digit (n / 16))) (clear (digit (n % 16)) && true)
        (digit_clear 16 (digit (n / 16)) (shown_digit 16 (n / 16) (omega arith) (omega arith)))
        (both_true (clear (digit (n % 16))) true (digit_clear 16 (digit (n % 16)) (shown_digit 16 (n % 16) (omega arith) (omega arith))) refl)
    by false h =
        ap (λ s. none_passes separates (if s then digit (n / 16) ∷ digit (n % 16) ∷ [] else n ∷ [])) h ∙ both_true (clear n) true (high_clear n h) refl

pub bytes_clean : (bytes : List ℕ) → is_clean (digits bytes) ≡ true
bytes_clean [] = refl
bytes_clean (n ∷ bytes) = all_join clear (byte_text n) (flat_map byte_text bytes) (byte_clean n) (bytes_clean bytes)

joined_clean : (n : ℕ) (ns : List ℕ) → none_passes separates (separated (codes ",") (map decimal_text (n ∷ ns))) ≡ true
joined_clean n [] = number_clean n
joined_clean n (m ∷ ns) =
    all_join clear (decimal_text n ++ codes ",") (separated (codes ",") (map decimal_text (m ∷ ns)))
    (all_join clear (decimal_text n) (codes ",") (number_clean n) refl)
    (joined_clean m ns)

pub counters_clean : (ns : List ℕ) → is_clean (counters ns) ≡ true
counters_clean [] = refl
counters_clean (n ∷ ns) = joined_clean n ns

-- ---- expressions

unary_clean : (op : TypedUnary) → is_clean (word (unary_word op)) ≡ true
unary_clean u.Not = refl
unary_clean u.Neg = refl
unary_clean u.ReduceAnd = refl
unary_clean u.ReduceOr = refl
unary_clean u.ReduceXor = refl

binary_clean : (op : TypedBinary) → is_clean (word (binary_word op)) ≡ true
binary_clean b.Add = refl
binary_clean b.Sub = refl
binary_clean b.Mul = refl
binary_clean b.DivideUnsigned = refl
binary_clean b.DivideSigned = refl
binary_clean b.RemainderUnsigned = refl
binary_clean b.RemainderSigned = refl
binary_clean b.And = refl
binary_clean b.Or = refl
binary_clean b.Xor = refl
binary_clean b.Equal = refl
binary_clean b.BelowUnsigned = refl
binary_clean b.AtMostUnsigned = refl
binary_clean b.BelowSigned = refl
binary_clean b.AtMostSigned = refl
binary_clean b.ShiftLeft = refl
binary_clean b.ShiftRight = refl
binary_clean b.ShiftRightSigned = refl

sign_clean : (s : Bool) → is_clean (word (sign_word s)) ≡ true
sign_clean true = refl
sign_clean false = refl

abbrev Clean : Typed → Type 0
Clean x = all_clean (tokens_of x) ≡ true

-- one token in front
pub onto : (x : Token) (more : Bool) → is_clean x ≡ true → more ≡ true → (is_clean x && more) ≡ true
onto x more p q = both_true (is_clean x) more p q

two : (xs ys : List Token) → all_clean xs ≡ true → all_clean ys ≡ true → all_clean (xs ++ ys) ≡ true
two xs ys = all_join is_clean xs ys

abbrev TK : Type 0
TK = List Token

place_clean : (at : Index) (ts : List Token) → all_clean ts ≡ true → all_clean (number at.low ∷ word (sign_word at.signed) ∷ ts) ≡ true
place_clean at ts p = onto (number at.low) (is_clean (word (sign_word at.signed)) && all_clean ts) (number_clean at.low)
    (onto (word (sign_word at.signed)) (all_clean ts) (sign_clean at.signed) p)

pub typed_clean : (x : Typed) → Clean x
typed_clean = typed_induction Clean
    (λ w n. ap all_clean (folds.fold-Number TK Position node_tokens index_tokens w n)
    ∙ onto (number w) _ (number_clean w) (onto (hex n) true (hex_clean n) refl))
    (λ v. ap all_clean (folds.fold-Var TK Position node_tokens index_tokens v) ∙ onto (number v) true (number_clean v) refl)
    (λ v at p. ap all_clean (folds.fold-Word TK Position node_tokens index_tokens v at)
    ∙ ap (λ (q : Position). all_clean (node_tokens (t.Word v q))) (position_at at)
    ∙ onto (number v) _ (number_clean v) (place_clean at (tokens_of at.value) p))
    (λ w of at p q. ap all_clean (folds.fold-Part TK Position node_tokens index_tokens w of at)
    ∙ ap (λ (r : Position). all_clean (node_tokens (t.Part w (tokens_of of) r))) (position_at at)
    ∙ onto (number w) _ (number_clean w) (place_clean at (tokens_of of ++ tokens_of at.value) (two (tokens_of of) (tokens_of at.value) p q)))
    (λ w of p. ap all_clean (folds.fold-ZeroExtend TK Position node_tokens index_tokens w of) ∙ onto (number w) _ (number_clean w) p)
    (λ w of p. ap all_clean (folds.fold-SignExtend TK Position node_tokens index_tokens w of) ∙ onto (number w) _ (number_clean w) p)
    (λ w of p. ap all_clean (folds.fold-Truncate TK Position node_tokens index_tokens w of) ∙ onto (number w) _ (number_clean w) p)
    (λ op of p. ap all_clean (folds.fold-Unary TK Position node_tokens index_tokens op of) ∙ onto (word (unary_word op)) _ (unary_clean op) p)
    (λ op l r p q. ap all_clean (folds.fold-Binary TK Position node_tokens index_tokens op l r)
    ∙ onto (word (binary_word op)) _ (binary_clean op) (two (tokens_of l) (tokens_of r) p q))
    (λ h l p q. ap all_clean (folds.fold-Join TK Position node_tokens index_tokens h l) ∙ two (tokens_of h) (tokens_of l) p q)
    (λ n of p. ap all_clean (folds.fold-Repeat TK Position node_tokens index_tokens n of) ∙ onto (number n) _ (number_clean n) p)
    (λ c l r p q s. ap all_clean (folds.fold-Choose TK Position node_tokens index_tokens c l r)
    ∙ two (tokens_of c) (tokens_of l ++ tokens_of r) p (two (tokens_of l) (tokens_of r) q s))

-- ---- targets and pieces

position_clean : (at : Index) → all_clean (position_tokens at) ≡ true
position_clean at = ap all_clean (position_alike at) ∙ place_clean at (tokens_of at.value) (typed_clean at.value)

pub target_clean : (x : Target) → all_clean (target_tokens x) ≡ true
target_clean (target.Whole v) = onto (number v) true (number_clean v) refl
target_clean (target.Part v w at) = onto (number v) _ (number_clean v) (onto (number w) _ (number_clean w) (position_clean at))
target_clean (target.Word v at) = onto (number v) _ (number_clean v) (position_clean at)
target_clean (target.WordPart v at w low) =
    onto (number v) _ (number_clean v)
    (two (position_tokens at) (number w ∷ position_tokens low) (position_clean at) (onto (number w) _ (number_clean w) (position_clean low)))

pub piece_clean : (x : Piece) → all_clean (piece_tokens x) ≡ true
piece_clean (piece.Text bytes) = onto (digits bytes) true (bytes_clean bytes) refl
piece_clean (piece.Dec is_signed true value) = onto (word (sign_word is_signed)) _ (sign_clean is_signed) (typed_clean value)
piece_clean (piece.Dec is_signed false value) = onto (word (sign_word is_signed)) _ (sign_clean is_signed) (typed_clean value)
piece_clean (piece.Hex true value) = typed_clean value
piece_clean (piece.Hex false value) = typed_clean value
piece_clean (piece.Bin true value) = typed_clean value
piece_clean (piece.Bin false value) = typed_clean value

pub list_clean : {A : Type 0} (tokens : A → List Token) → ((x : A) → all_clean (tokens x) ≡ true) → (xs : List A) → all_clean (flat_map tokens xs) ≡ true
list_clean tokens each [] = refl
list_clean tokens each (x ∷ xs) = two (tokens x) (flat_map tokens xs) (each x) (list_clean tokens each xs)
