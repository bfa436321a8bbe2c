use Rattle.std.proofs.Common.{◌∙◌}
use Rattle.flat_design.proofs.NeedLaws.{dec_need, hex_need, bin_need}
use Rattle.flat_design.proofs.needs.piece_needs.Goals as goal

pub returns-in-Dec : goal.returns-in-Dec
returns-in-Dec c d of ok =
    let v = c.value.result in
    let typed = rw c.in-Dec.is at ok in
    rw c.in-Dec.is (c.columns_of.ensures ∙ dec_need d c.args.state.now c.in-Dec.signed c.in-Dec.short c.in-Dec.e v.width v.bits of typed c.value.ensures)

pub returns-in-Hex : goal.returns-in-Hex
returns-in-Hex c d of ok =
    let v = c.value-in-Hex.result in
    let typed = rw c.in-Hex.is at ok in
    rw c.in-Hex.is (c.hex_digits.ensures.value ∙ hex_need d c.args.state.now c.in-Hex.short c.in-Hex.e v.width v.bits of typed c.value-in-Hex.ensures)

pub returns-in-Bin : goal.returns-in-Bin
returns-in-Bin c d of ok =
    let v = c.value-in-Bin.result in
    let typed = rw c.in-Bin.is at ok in
    rw c.in-Bin.is (c.from.ensures ∙ bin_need d c.args.state.now c.in-Bin.short c.in-Bin.e v.width v.bits of typed c.value-in-Bin.ensures)
