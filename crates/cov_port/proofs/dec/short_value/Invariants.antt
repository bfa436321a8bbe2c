use Rattle.std.proofs.Common.{◌≡◌, ◌+◌, ◌*◌, ◌<◌, ◌^◌, drop, length}
use Rattle.std.specs.List.{list_all}
use Rattle.cov_port.specs.Decimal.{is_digit, value_of}
use Rattle.cov_port.proofs.dec.short_value.Given as goal

abbrev pub invariant-loop-byte : goal.invariant-loop-byte
invariant-loop-byte l = record {
  value : l.value * 10 ^ length (drop l.byte-index l.text) + value_of (drop l.byte-index l.text) ≡ value_of l.text;
  small : l.value < 10 ^ l.byte-index;
  digits : list_all is_digit l.text ≡ list_all is_digit (drop l.byte-index l.text);
}
