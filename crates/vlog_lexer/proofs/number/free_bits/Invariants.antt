use Rattle.std.proofs.Common.{◌≡◌, ◌<◌, ◌%◌, ◌^◌, drop}
use Rattle.vlog_lexer.specs.Numbers.{free_bits, free_digit}
use Rattle.vlog_lexer.proofs.NumberLemmas.{left}
use Rattle.vlog_lexer.proofs.number.free_bits.Given as goal

abbrev pub invariant-loop-digit : goal.invariant-loop-digit
invariant-loop-digit l = record {
  small : l.bits < 2 ^ 128;
  same : left (free_digit l.base) l.base l.bits (drop l.digit-index l.digits) % 2 ^ 128 ≡ free_bits l.base l.digits % 2 ^ 128;
}
