-- Which token a spelling is.
use Rattle.std.proofs.Common.{◌≡◌, ◌≢◌, ℕ, ◌+◌, ◌^◌, ◌<◌, ◌≤◌, ◌&&◌, ◌||◌, Bool, true, false, cond, eqb, not, nat_le, nat_eq, suc, List, [], ◌∷◌, ◌++◌, length}
use Rattle.std.proofs.Common.{take, drop, Option, None, Some, Ok, Err, codes, refl, sym, ◌∙◌, ap, subst, inl, inr, arith, append_assoc, length-append, ◌⊎◌}
use Rattle.std.proofs.Common.{if◌then◌else◌}
use Rattle.std.proofs.Math.Bool.{and-false}
use Rattle.std.proofs.Math.Seq.{drop-append_seam, take-append_seam}
use Rattle.std.proofs.lemmas.Bool.{eqb-true, false≢true, true≢false, le-leb, leb-true, lt-leb, ne_eqb}
use Rattle.std.proofs.lemmas.List.{take-append-drop}
use Rattle.std.specs.Char.{is_ascii_alphabetic, is_ascii_digit}
use Rattle.std.specs.Int.{is_in_range}
use Rattle.std.specs.List.{list_all, prefix_len, starts_with, take_while}
use Rattle.std.specs.Option.{option_map}
use Rattle.vlog_lexer.specs.Bytes.{begins_number, continues_decimal, continues_digits, is_white}
use Rattle.vlog_lexer.specs.Numbers.{base_of, based_numeral, begins_with_quote, begins_with_sign, behind_base, behind_quote, behind_sign, bits_of, counted}
use Rattle.vlog_lexer.specs.Numbers.{is_wide, numeral, number_of, number_value, plain_numeral, size_of, width_of}
use Rattle.vlog_lexer.specs.Pieces.{front_of, name_piece, number_front, piece, quoted_front, string_front, refusal, string_piece, system_piece, word_or_name}
use Rattle.vlog_lexer.specs.Spellings.{BasedAreTaken, DecimalsAreTaken, IsSign, no_sign, small_s, large_s, IsSize, no_size, a_size, NamesAreLongest}
use Rattle.vlog_lexer.specs.Spellings.{NamesAreTaken, Spells, all_spelled, itself, escape, StopsAt, StringsAreTaken, SystemNamesAreTaken, WideDecimals}
use Rattle.vlog_lexer.specs.Spellings.{based_text, ends_decimal, identifier_means, is_decimal}
use Rattle.vlog_lexer.specs.Texts.{behind_first, bytes_of, closes, escaped, is_plain, plain_byte, quoted_length, takes_next}
use Rattle.vlog_lexer.specs.declared.piece.Flaw.TheVariants as flaw
use Rattle.vlog_lexer.specs.declared.piece.Meaning.TheVariants.{Token}
use Rattle.vlog_tokens.specs.declared.token.TokenKind.TheVariants as k
use Rattle.vlog_words.specs.Identifier.{is_spelled}
use Rattle.vlog_words.specs.Names.{begins_name, begins_with_name, continues_name}
use Rattle.vlog_words.specs.Words.{word_of}
use Rattle.vlog_lexer.proofs.FrontLemmas as front

-- ---- runs

first_of_both : (a b : Bool) → (a && b) ≡ true → a ≡ true
first_of_both true b e = refl
first_of_both false b e = e

second_of_both : (a b : Bool) → (a && b) ≡ true → b ≡ true
second_of_both true b e = e
second_of_both false b e = absurd (false≢true e)

none_more : (p : ℕ → Bool) (rest : List ℕ) → StopsAt p rest → prefix_len p rest ≡ 0
none_more p [] stops = refl
none_more p (b ∷ rest) stops = ap (λ t. cond t (1 + prefix_len p rest) 0) stops

-- a run of bytes that pass, with nothing behind it that goes on, is the whole run
run_is : (p : ℕ → Bool) (xs rest : List ℕ) → list_all p xs ≡ true → StopsAt p rest → prefix_len p (xs ++ rest) ≡ length xs
run_is p [] rest all stops = none_more p rest stops
run_is p (x ∷ xs) rest all stops =
    let here = first_of_both (p x) (list_all p xs) all in
    let more = run_is p xs rest (second_of_both (p x) (list_all p xs) all) stops in
    ap (λ t. cond t (1 + prefix_len p (xs ++ rest)) 0) here ∙ omega (arith, more)

run_taken : (p : ℕ → Bool) (xs rest : List ℕ) → list_all p xs ≡ true → StopsAt p rest → take_while p (xs ++ rest) ≡ xs
run_taken p xs rest all stops = ap (λ n. take n (xs ++ rest)) (run_is p xs rest all stops) ∙ take-append_seam xs rest

-- ---- identifiers

in_range : (lo hi b : ℕ) → is_in_range lo hi b ≡ true → (lo ≤ b) × (b ≤ hi)
in_range lo hi b e = (leb-true lo b (first_of_both (nat_le lo b) (nat_le b hi) e), leb-true b hi (second_of_both (nat_le lo b) (nat_le b hi) e))

or_cases : (a b : Bool) → (a || b) ≡ true → (a ≡ true) ⊎ (b ≡ true)
or_cases true b e = inl refl
or_cases false b e = inr e

above_range : (lo hi b : ℕ) → hi < b → is_in_range lo hi b ≡ false
above_range lo hi b h = ap (λ (t : Bool). nat_le lo b && t) (lt-leb b hi h) ∙ and-false (nat_le lo b)

below_range : (lo hi b : ℕ) → b < lo → is_in_range lo hi b ≡ false
below_range lo hi b h = ap (λ (t : Bool). t && nat_le b hi) (lt-leb lo b h)

above_white : (b : ℕ) → 32 < b → is_white b ≡ false
unfolding is_white
above_white b h =
    ap (λ (t : Bool). (t || is_in_range 12 13 b) || is_in_range 32 32 b) (above_range 9 10 b (omega arith))
    ∙ ap (λ (t : Bool). t || is_in_range 32 32 b) (above_range 12 13 b (omega arith))
    ∙ above_range 32 32 b h

name_above : (b : ℕ) → begins_name b ≡ true → 32 < b
unfolding begins_name
name_above b e = elim (or_cases (is_ascii_alphabetic b) (eqb b 95) e) [
  | inl letter ↦ elim (or_cases (is_in_range 65 90 b) (is_in_range 97 122 b) letter) [
    | inl large ↦ omega (arith, (in_range 65 90 b large).0)
    | inr small ↦ omega (arith, (in_range 97 122 b small).0)
  ]
  | inr line ↦ omega (arith, eqb-true b 95 line)
]

name_first : (b : ℕ) → begins_name b ≡ true → is_white b ≡ false
name_first b e = above_white b (name_above b e)

name_continues : (name : List ℕ) → is_spelled name ≡ true → list_all continues_name name ≡ true
unfolding is_spelled
name_continues name e = second_of_both (begins_with_name name) (list_all continues_name name) e

-- what an identifier at the front means
name_means : (name rest : List ℕ) → list_all continues_name name ≡ true → StopsAt continues_name rest → name_piece (name ++ rest) ≡ identifier_means name
unfolding name_piece
name_means name rest all stops =
    ap (λ bytes. if starts_with nat_eq bytes (codes "cov$") then refusal flaw.ReservedName 0 else piece (Token (word_or_name (word_of bytes) bytes))
    (prefix_len continues_name (name ++ rest))) (run_taken continues_name name rest all stops)
    ∙ ap (λ n. if starts_with nat_eq name (codes "cov$") then refusal flaw.ReservedName 0 else piece (Token (word_or_name (word_of name) name)) n)
    (run_is continues_name name rest all stops)

first_begins : (b : ℕ) (bs : List ℕ) → is_spelled (b ∷ bs) ≡ true → begins_name b ≡ true
unfolding is_spelled begins_with_name
first_begins b bs e = first_of_both (begins_name b) (list_all continues_name (b ∷ bs)) e

nothing_spelled : is_spelled [] ≡ true → ⊥
unfolding is_spelled begins_with_name
nothing_spelled e = false≢true e

pub names_are_taken : NamesAreTaken
names_are_taken [] rest spelled stops = absurd (nothing_spelled spelled)
names_are_taken (b ∷ bs) rest spelled stops =
    let begins = first_begins b bs spelled in
    front.at-name (b ∷ (bs ++ rest)) (omega arith) (name_first b begins) begins
    ∙ name_means (b ∷ bs) rest (name_continues (b ∷ bs) spelled) stops

begins_spelled : (name rest : List ℕ) → is_spelled name ≡ true → begins_with_name (name ++ rest) ≡ true
unfolding begins_with_name
begins_spelled [] rest spelled = absurd (nothing_spelled spelled)
begins_spelled (b ∷ bs) rest spelled = first_begins b bs spelled

system_is : (s : List ℕ) → front_of (36 ∷ s) ≡ system_piece s
unfolding front_of is_white begins_name begins_number
system_is s = refl

pub system_names_are_taken : SystemNamesAreTaken
unfolding system_piece
system_names_are_taken name rest spelled stops =
    let all = name_continues name spelled in
    system_is (name ++ rest)
    ∙ ap (λ t. if t then piece (Token (k.System (36 ∷ take_while continues_name (name ++ rest)))) (1 + prefix_len continues_name (name
    ++ rest)) else refusal flaw.BadByte 0) (begins_spelled name rest spelled)
    ∙ ap (λ bytes. piece (Token (k.System (36 ∷ bytes))) (1 + prefix_len continues_name (name ++ rest))) (run_taken continues_name name rest all stops)
    ∙ ap (λ n. piece (Token (k.System (36 ∷ name))) (1 + n)) (run_is continues_name name rest all stops)

-- the front of a text that passes passes whole
front_passes : (p : ℕ → Bool) (xs : List ℕ) → list_all p (take_while p xs) ≡ true
front_passes p [] = refl
front_passes p (x ∷ xs) = by (front_passes p xs) (p x) refl
  where
    by : list_all p (take_while p xs) ≡ true → (t : Bool) → p x ≡ t → list_all p (take (cond t (1 + prefix_len p xs) 0) (x ∷ xs)) ≡ true
    by more true e = let one : 1 + prefix_len p xs ≡ suc (prefix_len p xs) = omega arith in rw one (ap (λ t. t && list_all p (take_while p xs)) e ∙ more)
    by more false e = refl

-- and what is behind it does not go on
rest_stops : (p : ℕ → Bool) (xs : List ℕ) → StopsAt p (drop (prefix_len p xs) xs)
rest_stops p [] = tt
rest_stops p (x ∷ xs) = by (rest_stops p xs) (p x) refl
  where
    by : StopsAt p (drop (prefix_len p xs) xs) → (t : Bool) → p x ≡ t → StopsAt p (drop (cond t (1 + prefix_len p xs) 0) (x ∷ xs))
    by more true e = let one : 1 + prefix_len p xs ≡ suc (prefix_len p xs) = omega arith in rw one more
    by more false e = e

taken_spelled : (text : List ℕ) → begins_with_name text ≡ true → is_spelled (take_while continues_name text) ≡ true
unfolding is_spelled begins_with_name
taken_spelled [] begins = absurd (false≢true begins)
taken_spelled (b ∷ rest) begins =
    let here = front.continues b begins in
    let one : 1 + prefix_len continues_name rest ≡ suc (prefix_len continues_name rest) = omega arith in
    let whole : take_while continues_name (b ∷ rest)
    ≡ b ∷ take_while continues_name rest = ap (λ t. take (cond t (1 + prefix_len continues_name rest) 0) (b ∷ rest)) here
    ∙ ap (λ n. take n (b ∷ rest)) one in
    ap (λ s. begins_with_name s && list_all continues_name (take_while continues_name (b ∷ rest))) whole
    ∙ ap (λ t. t && list_all continues_name (take_while continues_name (b ∷ rest))) begins
    ∙ front_passes continues_name (b ∷ rest)

pub names_are_longest : NamesAreLongest
names_are_longest text begins = record {
  name = take_while continues_name text;
  rest = drop (prefix_len continues_name text) text;
  split = sym (take-append-drop (prefix_len continues_name text) text);
  spelled = taken_spelled text begins;
  stops = rest_stops continues_name text;
}

-- ---- strings

string_is : (s : List ℕ) → front_of (34 ∷ s) ≡ string_piece s
unfolding front_of is_white begins_name begins_number
string_is s = refl

turned : (t : Bool) → not t ≡ true → t ≡ false
turned true h = absurd (false≢true h)
turned false h = refl

pub record IsItself (b : ℕ) : Type 0 where
  pub no_feed : eqb b 10 ≡ false
  pub no_slash : eqb b 92 ≡ false

is_itself : (b : ℕ) → is_plain b ≡ true → IsItself b
unfolding is_plain
is_itself b e =
    let low = leb-true 32 b (first_of_both (nat_le 32 b) (nat_le b 126) (first_of_both (nat_le 32 b && nat_le b 126) (not (eqb b 92)) e)) in
    record {
      no_feed = ne_eqb b 10 (λ (is : b
          ≡ 10). omega (arith, is, low));
      no_slash = turned (eqb b 92) (second_of_both (nat_le 32 b && nat_le b 126) (not (eqb b 92)) e);
    }

-- what a quote and a backslash do to the next byte
length_itself : (b : ℕ) (rest : List ℕ) → is_plain b ≡ true → b ≢ 34 → quoted_length false (b ∷ rest) ≡ option_map (λ n. 1 + n) (quoted_length false rest)
unfolding quoted_length closes takes_next
length_itself b rest plain other = let is = is_itself b plain in rw (is.no_feed, ne_eqb b 34 other, is.no_slash) refl

none_some : (d : ℕ) → (let o : Option ℕ = None in o) ≡ Some d → ⊥
none_some d e = cc

escaped_no_feed : (c d : ℕ) → escaped c ≡ Some d → eqb c 10 ≡ false
unfolding escaped
escaped_no_feed c d e = ne_eqb c 10 (λ (is : c ≡ 10). none_some d (subst (λ (x : ℕ). escaped x ≡ Some d) is e))

length_escape : (c d : ℕ) (rest : List ℕ) → escaped c ≡ Some d
    → quoted_length false (92 ∷ (c ∷ rest)) ≡ option_map (λ n. 1 + n) (option_map (λ n. 1 + n) (quoted_length false rest))
unfolding quoted_length closes takes_next
length_escape c d rest e = rw (escaped_no_feed c d e, and-false (eqb c 34), and-false (eqb c 92)) refl

length_spelled : (text bytes rest : List ℕ) → Spells text bytes → quoted_length false (text ++ 34 ∷ rest) ≡ Some (length text)
unfolding quoted_length closes
length_spelled text bytes rest all_spelled = refl
length_spelled text bytes rest (itself b text2 bytes2 plain other more) =
    length_itself b (text2 ++ 34 ∷ rest) plain other ∙ ap (option_map (λ n. 1 + n)) (length_spelled text2 bytes2 rest more) ∙ ap (λ n. Some n) (omega arith)
length_spelled text bytes rest (escape c d text2 bytes2 e more) =
    length_escape c d (text2 ++ 34 ∷ rest) e ∙ ap (λ o. option_map (λ n. 1 + n) (option_map (λ n. 1 + n) o)) (length_spelled text2 bytes2 rest more)
    ∙ ap (λ n. Some n) (omega arith)

bytes_itself : (b : ℕ) (text bytes : List ℕ) → is_plain b ≡ true → bytes_of text ≡ Ok bytes → bytes_of (b ∷ text) ≡ Ok (b ∷ bytes)
unfolding bytes_of plain_byte
bytes_itself b [] bytes plain e = ap (λ (t : Bool). behind_first (if t then Some (b, 1) else None) (Ok [])) plain ∙ ap (behind_first (Some (b, 1))) e
bytes_itself b (c ∷ text) bytes plain e =
    ap (λ (t : Bool). if t then behind_first (option_map (λ d. (d, 2)) (escaped c)) (bytes_of text) else behind_first (plain_byte b) (bytes_of (c ∷ text)))
    (is_itself b plain).no_slash
    ∙ ap (λ (t : Bool). behind_first (if t then Some (b, 1) else None) (bytes_of (c ∷ text))) plain
    ∙ ap (behind_first (Some (b, 1))) e

bytes_escape : (c d : ℕ) (text bytes : List ℕ) → escaped c ≡ Some d → bytes_of text ≡ Ok bytes → bytes_of (92 ∷ (c ∷ text)) ≡ Ok (d ∷ bytes)
unfolding bytes_of
bytes_escape c d text bytes e more = ap (λ o. behind_first (option_map (λ x. (x, 2)) o) (bytes_of text)) e ∙ ap (behind_first (Some (d, 2))) more

bytes_spelled : (text bytes : List ℕ) → Spells text bytes → bytes_of text ≡ Ok bytes
unfolding bytes_of
bytes_spelled text bytes all_spelled = refl
bytes_spelled text bytes (itself b text2 bytes2 plain other more) = bytes_itself b text2 bytes2 plain (bytes_spelled text2 bytes2 more)
bytes_spelled text bytes (escape c d text2 bytes2 e more) = bytes_escape c d text2 bytes2 e (bytes_spelled text2 bytes2 more)

pub strings_are_taken : StringsAreTaken
unfolding string_piece
strings_are_taken text bytes rest spells =
    string_is (text ++ 34 ∷ rest)
    ∙ ap (quoted_front (text ++ 34 ∷ rest)) (length_spelled text bytes rest spells)
    ∙ ap (λ (t : List ℕ). string_front (length text) (bytes_of t)) (take-append_seam text (34 ∷ rest))
    ∙ ap (string_front (length text)) (bytes_spelled text bytes spells)

-- ---- numbers

digit_first : (b : ℕ) → is_ascii_digit b ≡ true → (is_white b ≡ false) × (begins_name b ≡ false) × (begins_number b ≡ true)
unfolding begins_name begins_number
digit_first b e =
    let range = in_range 48 57 b e in
    let low : 48 ≤ b = range.0 in
    let high : b ≤ 57 = range.1 in (
      above_white b (omega arith),
      ap (λ (t : Bool). (t || is_in_range 97 122 b) || eqb b 95) (below_range 65 90 b (omega arith))
          ∙ ap (λ (t : Bool). t || eqb b 95) (below_range 97 122 b (omega arith)) ∙ ne_eqb b 95 (λ (is : b ≡ 95). omega arith),
      ap (λ (t : Bool). t || eqb b 39) e,
    )

digit_continues : (b : ℕ) → is_ascii_digit b ≡ true → continues_decimal b ≡ true
unfolding continues_decimal
digit_continues b e = ap (λ t. t || eqb b 95) e

all_decimal : (digits : List ℕ) → is_decimal digits ≡ true → list_all continues_decimal digits ≡ true
all_decimal [] e = absurd (false≢true e)
all_decimal (b ∷ bytes) e = ap (λ t. t && list_all continues_decimal bytes)
    (digit_continues b (first_of_both (is_ascii_digit b) (list_all continues_decimal bytes) e)) ∙ second_of_both (is_ascii_digit b)
    (list_all continues_decimal bytes) e

number_front_is : (digits rest : List ℕ) → is_decimal digits ≡ true → front_of (digits ++ rest) ≡ number_front (number_of (digits ++ rest))
number_front_is [] rest e = absurd (false≢true e)
number_front_is (b ∷ bytes) rest e =
    let first = digit_first b (first_of_both (is_ascii_digit b) (list_all continues_decimal bytes) e) in
    front.at-number (b ∷ (bytes ++ rest)) (omega arith) first.0 first.1 first.2

stops_decimal : (rest : List ℕ) → StopsAt ends_decimal rest → StopsAt continues_decimal rest
stops_decimal [] s = tt
stops_decimal (b ∷ rest) s = by (continues_decimal b) s
  where
    by : (t : Bool) → (if t then true else eqb b 39) ≡ false → t ≡ false
    by true h = absurd (true≢false h)
    by false h = refl

no_quote : (rest : List ℕ) → StopsAt ends_decimal rest → begins_with_quote rest ≡ false
unfolding begins_with_quote
no_quote [] s = refl
no_quote (b ∷ rest) s = by (continues_decimal b) s
  where
    by : (t : Bool) → (if t then true else eqb b 39) ≡ false → eqb b 39 ≡ false
    by true h = absurd (true≢false h)
    by false h = h

-- what stands behind a run of decimal digits decides
decimal_then : (digits rest : List ℕ) → list_all continues_decimal digits ≡ true → StopsAt continues_decimal rest
    → number_of (digits ++ rest) ≡ (if begins_with_quote rest then behind_quote (length digits + 1) (size_of digits) (drop (length digits + 1) (digits
    ++ rest)) else plain_numeral (length digits) (number_value 10 digits))
unfolding number_of
decimal_then digits rest all stops =
    ap (λ n. if begins_with_quote (drop n (digits ++ rest)) then behind_quote (n + 1) (size_of (take n (digits ++ rest))) (drop (n + 1) (digits
    ++ rest)) else plain_numeral n (number_value 10 (take n (digits ++ rest)))) (run_is continues_decimal digits rest all stops)
    ∙ ap (λ s. if begins_with_quote s then behind_quote (length digits + 1) (size_of (take (length digits) (digits
    ++ rest))) (drop (length digits + 1) (digits ++ rest)) else plain_numeral (length digits) (number_value 10 (take (length digits) (digits
    ++ rest)))) (drop-append_seam digits rest)
    ∙ ap (λ s. if begins_with_quote rest then behind_quote (length digits + 1) (size_of s) (drop (length digits + 1) (digits
    ++ rest)) else plain_numeral (length digits) (number_value 10 s)) (take-append_seam digits rest)

plain_is : (digits rest : List ℕ) → is_decimal digits ≡ true → StopsAt ends_decimal rest
    → front_of (digits ++ rest) ≡ number_front (plain_numeral (length digits) (number_value 10 digits))
plain_is digits rest e stops =
    number_front_is digits rest e
    ∙ ap number_front (decimal_then digits rest (all_decimal digits e) (stops_decimal rest stops)
    ∙ ap (λ t. if t then behind_quote (length digits + 1) (size_of digits) (drop (length digits + 1) (digits
    ++ rest)) else plain_numeral (length digits) (number_value 10 digits)) (no_quote rest stops))

narrow : (value : ℕ) → value < 2 ^ 32 → is_wide None value ≡ false
unfolding is_wide width_of bits_of
narrow value h = lt-leb (2 ^ 32) value h

wide : (value : ℕ) → 2 ^ 32 ≤ value → is_wide None value ≡ true
unfolding is_wide width_of bits_of
wide value h = le-leb (2 ^ 32) value h

pub decimals_are_taken : DecimalsAreTaken
unfolding plain_numeral
decimals_are_taken digits rest e stops small =
    plain_is digits rest e stops
    ∙ ap (λ (t : Bool). number_front (if t then Err flaw.NumberTooWide else Ok (numeral 32 true (number_value 10 digits) 0, length digits)))
    (narrow (number_value 10 digits) small)

pub wide_decimals : WideDecimals
unfolding plain_numeral
wide_decimals digits rest e stops large =
    plain_is digits rest e stops
    ∙ ap (λ (t : Bool). number_front (if t then Err flaw.NumberTooWide else Ok (numeral 32 true (number_value 10 digits) 0, length digits)))
    (wide (number_value 10 digits) large)

quote_is : (s : List ℕ) → front_of (39 ∷ s) ≡ number_front (number_of (39 ∷ s))
unfolding front_of is_white begins_name begins_number
quote_is s = refl

-- a base's letter is no sign
no_sign_letter : (letter base : ℕ) → base_of letter ≡ Some base → (eqb letter 115 ≡ false) × (eqb letter 83 ≡ false)
unfolding base_of
no_sign_letter letter base e = (
  ne_eqb letter 115 (λ (is : letter ≡ 115). none_some base (subst (λ (x : ℕ). base_of x ≡ Some base) is e)),
  ne_eqb letter 83 (λ (is : letter ≡ 83). none_some base (subst (λ (x : ℕ). base_of x ≡ Some base) is e)),
)

-- behind the sign: the letter of a base and its digits
digits_are : (before : ℕ) (size : Option ℕ) (signed : Bool) (letter base : ℕ) (digits rest : List ℕ) → base_of letter ≡ Some base
    → list_all continues_digits digits ≡ true → StopsAt continues_digits rest
    → behind_sign before size signed (letter ∷ (digits ++ rest)) ≡ counted (before + 1 + length digits) (based_numeral size signed base digits)
unfolding behind_sign behind_base
digits_are before size signed letter base digits rest e all stops =
    ap (λ (o : Option ℕ). behind_base (before + 1) size signed o (digits ++ rest)) e
    ∙ ap (λ (n : ℕ). counted (before + 1 + n) (based_numeral size signed base (take_while continues_digits (digits
    ++ rest)))) (run_is continues_digits digits rest all stops)
    ∙ ap (λ (ds : List ℕ). counted (before + 1 + length digits) (based_numeral size signed base ds)) (run_taken continues_digits digits rest all stops)

count_is : (m n : ℕ) (size : Option ℕ) (signed : Bool) (base : ℕ) (digits : List ℕ) → m ≡ n
    → counted m (based_numeral size signed base digits) ≡ counted n (based_numeral size signed base digits)
count_is m n size signed base digits e = ap (λ (k : ℕ). counted k (based_numeral size signed base digits)) e

-- behind the quote
behind_is : (before : ℕ) (size : Option ℕ) (sign digits rest : List ℕ) (letter base : ℕ) (signed : Bool) → IsSign sign signed → base_of letter ≡ Some base
    → list_all continues_digits digits ≡ true → StopsAt continues_digits rest
    → behind_quote before size (sign ++ letter ∷ (digits ++ rest)) ≡ counted (before + length (sign ++ letter ∷ digits)) (based_numeral size signed base digits)
unfolding behind_quote begins_with_sign
behind_is before size sign digits rest letter base signed no_sign is_base all stops =
    let no = no_sign_letter letter base is_base in
    ap (λ (t : Bool). if t || eqb letter 83 then behind_sign (before + 1) size true (digits ++ rest) else behind_sign before size false (letter ∷ (digits
    ++ rest))) no.0
    ∙ ap (λ (t : Bool). if t then behind_sign (before + 1) size true (digits ++ rest) else behind_sign before size false (letter ∷ (digits ++ rest))) no.1
    ∙ digits_are before size false letter base digits rest is_base all stops
    ∙ count_is (before + 1 + length digits) (before + length (letter ∷ digits)) size false base digits (omega arith)
behind_is before size sign digits rest letter base signed small_s is_base all stops =
    digits_are (before + 1) size true letter base digits rest is_base all stops
    ∙ count_is (before + 1 + 1 + length digits) (before + length (115 ∷ (letter ∷ digits))) size true base digits (omega arith)
behind_is before size sign digits rest letter base signed large_s is_base all stops =
    digits_are (before + 1) size true letter base digits rest is_base all stops
    ∙ count_is (before + 1 + 1 + length digits) (before + length (83 ∷ (letter ∷ digits))) size true base digits (omega arith)

behind_front : (xs : List ℕ) (b : ℕ) (ys : List ℕ) → drop (length xs + 1) (xs ++ b ∷ ys) ≡ ys
behind_front [] b ys = refl
behind_front (x ∷ xs) b ys = let e : suc (length xs) + 1 ≡ suc (length xs + 1) = omega arith in rw e (behind_front xs b ys)

quote_stops : (rest : List ℕ) → StopsAt continues_decimal (39 ∷ rest)
unfolding continues_decimal
quote_stops rest = refl

-- a size, a quote, and what follows
sized_is : (size rest : List ℕ) → list_all continues_decimal size ≡ true → number_of (size ++ 39 ∷ rest) ≡ behind_quote (length size + 1) (size_of size) rest
unfolding begins_with_quote
sized_is size rest all =
    decimal_then size (39 ∷ rest) all (quote_stops rest)
    ∙ ap (behind_quote (length size + 1) (size_of size)) (behind_front size 39 rest)

based_front : (size rest : List ℕ) → IsSize size → front_of (size ++ 39 ∷ rest) ≡ number_front (behind_quote (length size + 1) (size_of size) rest)
based_front size rest no_size = quote_is rest ∙ ap number_front (sized_is [] rest refl)
based_front size rest (a_size digits e) = number_front_is digits (39 ∷ rest) e ∙ ap number_front (sized_is digits rest (all_decimal digits e))

based_split : (size sign digits rest : List ℕ) (letter : ℕ) → based_text size sign letter digits ++ rest ≡ size ++ 39 ∷ (sign ++ letter ∷ (digits ++ rest))
based_split size sign digits rest letter =
    append_assoc size (39 ∷ (sign ++ letter ∷ digits)) rest ∙ ap (λ (s : List ℕ). size ++ 39 ∷ s) (append_assoc sign (letter ∷ digits) rest)

pub based_are_taken : BasedAreTaken
based_are_taken size sign digits rest letter base signed is_size is_sign is_base all stops =
    ap front_of (based_split size sign digits rest letter)
    ∙ based_front size (sign ++ letter ∷ (digits ++ rest)) is_size
    ∙ ap number_front (
    behind_is (length size + 1) (size_of size) sign digits rest letter base signed is_sign is_base all stops
    ∙ count_is (length size + 1 + length (sign ++ letter ∷ digits)) (length (based_text size sign letter digits)) (size_of size) signed base digits
    (let e = length-append size (39 ∷ (sign ++ letter ∷ digits)) in omega (arith, e)))
