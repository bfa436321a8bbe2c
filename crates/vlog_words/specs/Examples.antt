-- What the definitions say of a few texts, by computation.
use Rattle.std.specs.Prelude.{◌≡◌, true, false, [], None, Some, codes, refl}
use Rattle.vlog_tokens.specs.declared.token.TokenKind.TheVariants as k
use Rattle.vlog_words.specs.Identifier.{is_identifier, is_spelled}
use Rattle.vlog_words.specs.Names.{begins_name, begins_with_name, continues_name}
use Rattle.vlog_words.specs.Symbols.{symbol_of}
use Rattle.vlog_words.specs.Words.{word_of}

-- the longest operator is taken
longest_operator : symbol_of (codes "<<<=b") ≡ Some (k.ArithmeticShiftLeft, 3)
unfolding symbol_of
longest_operator = refl

-- `<=` is one operator, and `=<` two marks
two_bytes : symbol_of (codes "<=") ≡ Some (k.LessOrEqual, 2)
unfolding symbol_of
two_bytes = refl

one_byte : symbol_of (codes "=<") ≡ Some (k.EqualSign, 1)
unfolding symbol_of
one_byte = refl

-- a quote is neither operator nor mark
no_symbol : symbol_of (codes "'b") ≡ None
unfolding symbol_of
no_symbol = refl

-- a word is reserved in lower case and as a whole
reserved : word_of (codes "always_ff") ≡ Some k.AlwaysFf
unfolding word_of
reserved = refl

other_case : word_of (codes "Wire") ≡ None
unfolding word_of
other_case = refl

longer_word : word_of (codes "wires") ≡ None
unfolding word_of
longer_word = refl

-- letters, digits, `_` and `$`, of which a digit and a `$` begin no identifier
plain : is_identifier (codes "_Top_1$x") ≡ true
unfolding is_identifier is_spelled begins_with_name begins_name continues_name word_of
plain = refl

digit_first : is_identifier (codes "1a") ≡ false
unfolding is_identifier is_spelled begins_with_name begins_name
digit_first = refl

dollar_first : is_identifier (codes "$a") ≡ false
unfolding is_identifier is_spelled begins_with_name begins_name
dollar_first = refl

empty : is_identifier [] ≡ false
unfolding is_identifier is_spelled begins_with_name
empty = refl

with_blank : is_identifier (codes "a b") ≡ false
unfolding is_identifier is_spelled begins_with_name begins_name continues_name
with_blank = refl

-- no reserved word, and nothing that begins with `cov$`
reserved_word : is_identifier (codes "wire") ≡ false
unfolding is_identifier is_spelled begins_with_name begins_name continues_name word_of
reserved_word = refl

reserved_front : is_identifier (codes "cov$x") ≡ false
unfolding is_identifier is_spelled begins_with_name begins_name continues_name word_of
reserved_front = refl

front_inside : is_identifier (codes "xcov$") ≡ true
unfolding is_identifier is_spelled begins_with_name begins_name continues_name word_of
front_inside = refl
