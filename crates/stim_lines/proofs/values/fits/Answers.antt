use Rattle.std.proofs.Common.{◌^◌, arith, sym}
use Rattle.std.proofs.lemmas.Bool.{lt-ltb}
use Rattle.std.proofs.Math.Pow.{pow_mono}
use Rattle.stim_lines.proofs.values.fits.Goals as goal

pub returns-then-width-ge128 : goal.returns-then-width-ge128
returns-then-width-ge128 c =
    let most = pow_mono {i = 128} {j = c.args.width} c.if-width-ge128.true in
    sym (lt-ltb c.args.value (2 ^ c.args.width) (omega arith))
