use Rattle.std.proofs.Common.{arith}
use Rattle.std.proofs.lemmas.Grind.{common_steps}
use Rattle.circuit_run.specs.Digits.{hex_columns}
use Rattle.piece_text.proofs.DigitLaws.{length-digits}
use Rattle.cycle_parts.proofs.LineLaws.{columns_few}
use Rattle.cycle_parts.proofs.outputs.put_output.Goals as goal

pub put_hex-requires : goal.put_hex-requires
put_hex-requires c =
    let word = c.word-word.result in
    omega (arith, c.requires.room, length-digits 16 (hex_columns word.width) word.bits, columns_few word.width word.at_most)

pub returns-clause-len : goal.returns-clause-len
returns-clause-len c =
    let word = c.word-word.result in
    grind (arith, common_steps, c.put_hex.ensures.items, length-digits 16 (hex_columns word.width) word.bits, columns_few word.width word.at_most)
