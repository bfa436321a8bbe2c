use Rattle.std.proofs.Common.{◌≡◌, drop}
use Rattle.vlog_lexer.specs.Numbers.{digits_of}
use Rattle.vlog_lexer.proofs.number.bits_above.Given as goal

abbrev pub invariant-loop-digit : goal.invariant-loop-digit
invariant-loop-digit l = digits_of (drop l.digit-index l.digits) ≡ digits_of l.digits
