use Rattle.std.proofs.Common.{◌≡◌, ◌<◌, ◌^◌, drop}
use Rattle.vlog_lexer.specs.Numbers.{number_value, value_digit}
use Rattle.vlog_lexer.proofs.NumberLemmas.{left}
use Rattle.vlog_lexer.proofs.number.number_value.Given as goal

abbrev pub invariant-loop-digit : goal.invariant-loop-digit
invariant-loop-digit l = record {
  small : l.value < 2 ^ 128;
  same : left value_digit l.base l.value (drop l.digit-index l.digits) ≡ number_value l.base l.digits;
}
