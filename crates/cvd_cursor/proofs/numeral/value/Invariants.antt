use Rattle.std.proofs.Common.{◌≡◌, true, drop, map}
use Rattle.std.specs.List.{list_all}
use Rattle.std.specs.Int.Digits.{number_from_digits_after}
use Rattle.cvd_cursor.specs.Numerals.{is_digit, value_of, worth}
use Rattle.cvd_cursor.proofs.numeral.value.Given as goal

abbrev pub invariant-loop-byte : goal.invariant-loop-byte
invariant-loop-byte l = record {
  value : number_from_digits_after l.base l.value (map worth (drop l.byte-index l.word)) ≡ value_of l.base l.word;
  digits : list_all (is_digit l.base) (drop l.byte-index l.word) ≡ true;
}
