use Rattle.std.proofs.Common.{◌≡◌, drop}
use Rattle.std.specs.List.{list_all}
use Rattle.cvd_cursor.specs.Numerals.{is_digit}
use Rattle.cvd_cursor.proofs.numeral.are_digits.Given as goal

abbrev pub invariant-loop-byte : goal.invariant-loop-byte
invariant-loop-byte l = list_all (is_digit l.base) l.word ≡ list_all (is_digit l.base) (drop l.byte-index l.word)
