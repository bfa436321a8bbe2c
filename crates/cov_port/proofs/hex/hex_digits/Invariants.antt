use Rattle.std.proofs.Common.{◌≡◌, ◌+◌, ◌*◌, ◌<◌, ◌^◌, drop, length}
use Rattle.std.specs.List.{list_all}
use Rattle.cov_port.specs.Hexadecimal.{is_hex_digit, hex_value}
use Rattle.cov_port.proofs.hex.hex_digits.Given as goal

abbrev pub invariant-loop-byte : goal.invariant-loop-byte
invariant-loop-byte l = record {
  value : l.value * 16 ^ length (drop l.byte-index l.text) + hex_value (drop l.byte-index l.text) ≡ hex_value l.text;
  small : l.value < 16 ^ l.byte-index;
  digits : list_all is_hex_digit l.text ≡ list_all is_hex_digit (drop l.byte-index l.text);
}
