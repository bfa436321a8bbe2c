-- The pieces of a text: white space, comments, skipped lines and tokens (IEEE 1364-2005, 3.1).
use Rattle.std.specs.Prelude.{◌≡◌, ℕ, ◌+◌, ◌==◌, ◌||◌, Bool, false, not, List, [], ◌∷◌, drop, take, Option, None, Some, Result, Ok, Err, codes, nat_eq}
use Rattle.std.specs.Prelude.{if◌then◌else◌}
use Rattle.std.specs.List.{prefix_len, starts_with, take_while}
use Rattle.std.specs.Str.{bytes_eq}
use Rattle.cov_types.specs.declared.pragma.PragmaKind.{PragmaKind}
use Rattle.vlog_lexer.specs.Bytes.{is_white, is_line_feed, begins_number}
use Rattle.vlog_lexer.specs.Comments.{block_length, pragma_of}
use Rattle.vlog_lexer.specs.Numbers.{Counted, number_of}
use Rattle.vlog_lexer.specs.Texts.{bytes_of, quoted_length}
use Rattle.vlog_lexer.specs.declared.number.Numeral.{Numeral}
use Rattle.vlog_lexer.specs.declared.piece.Flaw.{Flaw}
use Rattle.vlog_lexer.specs.declared.piece.Flaw.TheVariants as flaw
use Rattle.vlog_lexer.specs.declared.piece.Meaning.{Meaning}
use Rattle.vlog_lexer.specs.declared.piece.Meaning.TheVariants.{Blank, Comment, Token}
use Rattle.vlog_lexer.specs.declared.piece.Piece.{Piece}
use Rattle.vlog_lexer.specs.declared.piece.Refusal.{Refusal}
use Rattle.vlog_lexer.specs.declared.piece.Stop.{Stop}
use Rattle.vlog_lexer.specs.declared.piece.Stop.TheVariants.{Refused, NoMemory}
use Rattle.vlog_tokens.specs.declared.token.TokenKind.{TokenKind}
use Rattle.vlog_tokens.specs.declared.token.TokenKind.TheVariants as k
use Rattle.vlog_words.specs.Names.{begins_name, begins_with_name, continues_name}
use Rattle.vlog_words.specs.Symbols.{symbol_of}
use Rattle.vlog_words.specs.Words.{word_of}

-- the piece at the front of a text, or what is wrong there
abbrev pub Front : Type 0
Front = Result Piece Refusal

abbrev pub piece : Meaning → ℕ → Front
piece what n = Ok (record { what = what; len = n })

abbrev pub refusal : Flaw → ℕ → Front
refusal flaw offset = Err (record { flaw = flaw; offset = offset })

-- A function gives what is at the front, unless memory runs out.
abbrev pub Gives : Front → Result Piece Stop → Type 0
Gives front (Ok piece) = front ≡ Ok piece
Gives front (Err (Refused refusal)) = front ≡ Err refusal
Gives front (Err NoMemory) = Unit {0}

-- an identifier is a reserved word or a name
abbrev pub word_or_name : Option TokenKind → List ℕ → TokenKind
word_or_name None bytes = k.Name bytes
word_or_name (Some kind) bytes = kind

-- the whole identifier at the front (3.7)
unfoldable pub name_piece : List ℕ → Front
name_piece text =
    let bytes = take_while continues_name text in
    if starts_with nat_eq bytes (codes "cov$") then refusal flaw.ReservedName 0
    else piece (Token (word_or_name (word_of bytes) bytes)) (prefix_len continues_name text)

-- a `$` and an identifier's bytes (3.7.3); text is what follows the `$`
unfoldable pub system_piece : List ℕ → Front
system_piece text =
    if begins_with_name text
    then piece (Token (k.System (36 ∷ take_while continues_name text))) (1 + prefix_len continues_name text)
    else refusal flaw.BadByte 0

abbrev pub number_token : Numeral → TokenKind
number_token n = k.Number n.width n.signed n.value n.free

abbrev pub number_front : Counted → Front
number_front (Ok found) = piece (Token (number_token found.0)) found.1
number_front (Err flaw) = refusal flaw 0

abbrev pub string_front : ℕ → Result (List ℕ) ℕ → Front
string_front n (Ok bytes) = piece (Token (k.Text bytes)) (n + 2)
string_front n (Err offset) = refusal flaw.BadByte (1 + offset)

abbrev pub quoted_front : List ℕ → Option ℕ → Front
quoted_front text None = refusal flaw.OpenString 0
quoted_front text (Some n) = string_front n (bytes_of (take n text))

-- a string; text is what follows its first quote
unfoldable pub string_piece : List ℕ → Front
string_piece text = quoted_front text (quoted_length false text)

unfoldable pub is_no_line_feed : ℕ → Bool
is_no_line_feed b = not (is_line_feed b)

-- how many bytes stand before the line feed, or before the end of the text
unfoldable pub line_length : List ℕ → ℕ
line_length text = prefix_len is_no_line_feed text

-- the rest of the line of `timescale or `default_nettype; text is what follows the backquote
unfoldable pub directive_piece : List ℕ → Front
directive_piece text =
    let name = take_while continues_name text in
    if bytes_eq name (codes "timescale") || bytes_eq name (codes "default_nettype")
    then piece Blank (1 + line_length text)
    else refusal flaw.Directive 0

abbrev pub comment_meaning : Option PragmaKind → Meaning
comment_meaning None = Blank
comment_meaning (Some kind) = Comment kind

-- a comment up to the end of its line; text is what follows the `//`
unfoldable pub line_comment_piece : List ℕ → Front
line_comment_piece text = piece (comment_meaning (pragma_of (take (line_length text) text))) (2 + line_length text)

abbrev pub block_front : List ℕ → Option ℕ → Front
block_front text None = refusal flaw.OpenComment 0
block_front text (Some n) = piece (comment_meaning (pragma_of (take n text))) (n + 4)

-- a comment up to the next `*/`; text is what follows the `/*`
unfoldable pub block_comment_piece : List ℕ → Front
block_comment_piece text = block_front text (block_length text)

abbrev pub symbol_front : Option (TokenKind × ℕ) → Front
symbol_front None = refusal flaw.BadByte 0
symbol_front (Some found) = piece (Token found.0) found.1

-- what begins at the front of a text is decided by its first bytes
unfoldable pub front_of : List ℕ → Front
front_of [] = refusal flaw.BadByte 0
front_of (b ∷ rest) =
    if is_white b then piece Blank 1 else (
    if begins_name b then name_piece (b ∷ rest) else (
    if begins_number b then number_front (number_of (b ∷ rest)) else (
    if b == 34 then string_piece rest else (
    if b == 36 then system_piece rest else (
    if b == 96 then directive_piece rest else (
    if starts_with nat_eq (b ∷ rest) (codes "//") then line_comment_piece (drop 1 rest) else (
    if starts_with nat_eq (b ∷ rest) (codes "/*") then block_comment_piece (drop 1 rest) else
    symbol_front (symbol_of (b ∷ rest)))))))))
