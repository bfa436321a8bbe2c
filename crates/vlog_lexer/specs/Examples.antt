-- What the definitions say of a few texts, by computation.
use Rattle.std.specs.Prelude.{◌≡◌, true, false, [], ◌∷◌, ◌++◌, Some, Ok, Err, codes, refl}
use Rattle.cov_types.specs.declared.pragma.PragmaKind.TheVariants.{BlockOff}
use Rattle.vlog_lexer.specs.Bytes.{begins_number, continues_decimal, continues_digits, is_free, is_gap, is_line_feed, is_white}
use Rattle.vlog_lexer.specs.Comments.{as_space, begins_with_gap, begins_with_gaps, pragma_of, squeezed, trimmed}
use Rattle.vlog_lexer.specs.Numbers.{base_of, based_numeral, begins_with_quote, begins_with_sign, behind_base, behind_quote, behind_sign, bits_above, bits_of}
use Rattle.vlog_lexer.specs.Numbers.{digit_value, free_bits, free_digit, is_bad, is_digit_of, is_digit_or_underscore, is_in_order, is_wide, may_be_free}
use Rattle.vlog_lexer.specs.Numbers.{number_of, number_value, numeral, plain_numeral, size_of, value_digit, width_of}
use Rattle.vlog_lexer.specs.Pieces.{front_of, is_no_line_feed, name_piece, piece, refusal, string_piece}
use Rattle.vlog_lexer.specs.Places.{column_after, line_after, place_after}
use Rattle.vlog_lexer.specs.Texts.{bytes_of, closes, escaped, is_plain, plain_byte, quoted_length, takes_next}
use Rattle.vlog_lexer.specs.declared.piece.Flaw.TheVariants as flaw
use Rattle.vlog_lexer.specs.declared.piece.Meaning.TheVariants.{Token}
use Rattle.vlog_tokens.specs.declared.token.TokenKind.TheVariants as k
use Rattle.vlog_words.specs.Names.{begins_name, continues_name}
use Rattle.vlog_words.specs.Words.{word_of}

-- a digit of another base is wrong at the number's first byte
digit_of_another_base : front_of (codes "4'b2;") ≡ refusal flaw.BadNumber 0
unfolding front_of is_white begins_name begins_number number_of continues_decimal begins_with_quote behind_quote begins_with_sign behind_sign base_of
    behind_base based_numeral continues_digits is_free is_bad width_of may_be_free is_in_order is_digit_of digit_value size_of number_value value_digit
digit_of_another_base = refl

-- a wide number of which a digit is wrong is badly spelled
bad_before_wide : number_of (codes "129'b2") ≡ Err flaw.BadNumber
unfolding number_of continues_decimal begins_with_quote behind_quote begins_with_sign behind_sign base_of behind_base based_numeral continues_digits is_free
    is_bad width_of may_be_free is_in_order is_digit_of digit_value size_of number_value value_digit
bad_before_wide = refl

-- free bits in the middle and at the end, behind an underscore too
free_digits : number_of (codes "4'b1?0_z") ≡ Ok (numeral 4 false 8 5, 8)
unfolding number_of continues_decimal begins_with_quote behind_quote begins_with_sign behind_sign base_of behind_base based_numeral continues_digits is_free
    is_bad is_wide width_of bits_of may_be_free is_in_order is_digit_of is_digit_or_underscore digit_value size_of number_value value_digit free_bits
    free_digit bits_above
free_digits = refl

-- a first digit that is free makes the bits above it free
free_above : number_of (codes "8'b?1") ≡ Ok (numeral 8 false 1 254, 5)
unfolding number_of continues_decimal begins_with_quote behind_quote begins_with_sign behind_sign base_of behind_base based_numeral continues_digits is_free
    is_bad is_wide width_of bits_of may_be_free is_in_order is_digit_of is_digit_or_underscore digit_value size_of number_value value_digit free_bits
    free_digit bits_above
free_above = refl

-- a value is cut to its size
cut_to_size : number_of (codes "8'd300 ") ≡ Ok (numeral 8 false 44 0, 6)
unfolding number_of continues_decimal begins_with_quote behind_quote begins_with_sign behind_sign base_of behind_base based_numeral continues_digits is_free
    is_bad is_wide width_of bits_of may_be_free is_in_order is_digit_of is_digit_or_underscore digit_value size_of number_value value_digit free_bits
    free_digit bits_above
cut_to_size = refl

-- behind a plain decimal a `?` is the operator
question_behind_decimal : number_of (codes "1?2:3") ≡ Ok (numeral 32 true 1 0, 1)
unfolding number_of continues_decimal begins_with_quote plain_numeral is_wide width_of bits_of number_value value_digit digit_value is_free
question_behind_decimal = refl

-- the longest identifier is taken
longest_word : name_piece (codes "always_ff @") ≡ piece (Token k.AlwaysFf) 9
unfolding name_piece continues_name word_of
longest_word = refl

reserved_name : name_piece (codes "cov$hits") ≡ refusal flaw.ReservedName 0
unfolding name_piece continues_name
reserved_name = refl

-- a backslash takes the quote behind it
open_string : string_piece (97 ∷ 92 ∷ 34 ∷ []) ≡ refusal flaw.OpenString 0
unfolding string_piece quoted_length closes takes_next
open_string = refl

-- the backslash of a bad escape is the bad byte
bad_escape : string_piece (97 ∷ 92 ∷ 113 ∷ 34 ∷ []) ≡ refusal flaw.BadByte 2
unfolding string_piece quoted_length closes takes_next bytes_of plain_byte is_plain escaped
bad_escape = refl

-- a coverage comment with other white space
coverage_comment : pragma_of (9 ∷ codes "verilator   coverage_block_off" ++ 13 ∷ []) ≡ Some BlockOff
unfolding pragma_of trimmed squeezed begins_with_gaps begins_with_gap is_gap as_space
coverage_comment = refl

-- behind `a`, a line feed and two blanks: the third column of the second line
place_in_line : place_after 0 (97 ∷ 10 ∷ 32 ∷ 32 ∷ []) ≡ record { file = 0; line = 2; column = 3 }
unfolding place_after line_after column_after is_line_feed is_no_line_feed
place_in_line = refl
