use Rattle.std.proofs.Common.{◌≡◌, ◌≤◌, ◌+◌, ◌-◌, ◌^◌, ◌<◌, ◌∙◌, arith, pos, ◌<ℤ◌, ◌≤ℤ◌}
use Rattle.std.proofs.lemmas.Int.{ints, to_z-of_z}
use Rattle.std.proofs.lemmas.Nat.{shr_below}
use Rattle.std.specs.Prelude.{unsigned_abs}
use Rattle.bit_values.proofs.BitLemmas.{replace_high, replace_low, replace_cut}
use Rattle.bit_values.proofs.part.replace.Goals as goal

pub returns-then-distance-from-clause-value : goal.returns-then-distance-from-clause-value
returns-then-distance-from-clause-value c =
    let low_fits = c.ranges.low in
    let distance : c.unsigned_abs-distance.result ≡ unsigned_abs c.args.low = simp to_z-of_z at c.unsigned_abs-distance.ensures.value in
    let from : pos 0 ≤ℤ c.args.low = omega (arith, ints) in
    let past : c.args.a.width ≤ c.unsigned_abs-distance.result = omega arith in
    replace_high c.args.a.width c.args.a.bits c.args.low c.args.part.width c.args.part.bits c.unsigned_abs-distance.result c.args.a.fits from distance past

pub returns-then-distance-from-2-clause-value : goal.returns-then-distance-from-2-clause-value
returns-then-distance-from-2-clause-value c =
    let low_fits = c.ranges.low in
    let distance : c.unsigned_abs-distance.result ≡ unsigned_abs c.args.low = simp to_z-of_z at c.unsigned_abs-distance.ensures.value in
    let before : c.args.low <ℤ pos 0 = omega (arith, ints) in
    let past : c.args.part.width ≤ c.unsigned_abs-distance.result = omega arith in
    replace_low c.args.a.width c.args.a.bits c.args.low c.args.part.width c.args.part.bits c.unsigned_abs-distance.result c.args.a.fits before distance past

pub invariant_of-rest-clause-fits : goal.invariant_of-rest-clause-fits
invariant_of-rest-clause-fits c =
    let whole : c.args.part.width - c.unsigned_abs-distance.result + c.unsigned_abs-distance.result ≡ c.args.part.width = omega arith in
    let fits : c.args.part.bits < 2 ^ (c.args.part.width - c.unsigned_abs-distance.result + c.unsigned_abs-distance.result) = rw whole c.args.part.fits in
    shr_below c.args.part.bits (c.args.part.width - c.unsigned_abs-distance.result) c.unsigned_abs-distance.result fits

pub returns-clause-value : goal.returns-clause-value
returns-clause-value c =
    let low_fits = c.ranges.low in
    let distance : c.unsigned_abs-distance.result ≡ unsigned_abs c.args.low = simp to_z-of_z at c.unsigned_abs-distance.ensures.value in
    let before : c.args.low <ℤ pos 0 = omega (arith, ints) in
    let within : c.unsigned_abs-distance.result < c.args.part.width = omega arith in
    c.placed-2.ensures.value ∙ replace_cut c.args.a.width c.args.a.bits c.args.low c.args.part.width c.args.part.bits c.unsigned_abs-distance.result before
    distance within
