use Rattle.std.proofs.Common.{◌≡◌, ◌≤◌, ◌^◌, ◌∙◌, sym, arith, pos, ◌<ℤ◌}
use Rattle.std.proofs.Math.Nat.{zero-mod}
use Rattle.std.proofs.lemmas.Int.{ints, to_z-of_z}
use Rattle.std.specs.Prelude.{unsigned_abs}
use Rattle.bit_values.proofs.BitLemmas.{select_up, select_far}
use Rattle.bit_values.proofs.part.select.Goals as goal

pub returns-then-distance-ge128-clause-value : goal.returns-then-distance-ge128-clause-value
returns-then-distance-ge128-clause-value c =
    let low_fits = c.ranges.low in
    let distance : c.unsigned_abs-distance.result ≡ unsigned_abs c.args.low = simp to_z-of_z at c.unsigned_abs-distance.ensures.value in
    let past : c.args.a.width ≤ unsigned_abs c.args.low = omega arith in
    let before : c.args.width ≤ unsigned_abs c.args.low = omega arith in
    c.reduced.ensures.value ∙ zero-mod (2 ^ c.args.width) ∙ sym (select_far c.args.a.width c.args.width c.args.a.bits c.args.low c.args.a.fits past before)

pub returns-clause-value : goal.returns-clause-value
returns-clause-value c =
    let low_fits = c.ranges.low in
    let distance : c.unsigned_abs-distance.result ≡ unsigned_abs c.args.low = simp to_z-of_z at c.unsigned_abs-distance.ensures.value in
    let before : c.args.low <ℤ pos 0 = omega (arith, ints) in
    c.reduced-2.ensures.value ∙ select_up c.args.width c.args.a.bits c.args.low c.unsigned_abs-distance.result c.requires.at_most before distance
