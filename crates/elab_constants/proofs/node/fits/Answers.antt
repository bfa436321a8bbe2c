use Rattle.std.proofs.Common.{◌≡◌, ℕ, ◌<◌, ◌^◌, true, arith}
use Rattle.std.specs.Prelude.{nat_lt}
use Rattle.std.proofs.Math.Nat.{pow-le-pow_right}
use Rattle.std.proofs.lemmas.Bool.Decides.{nat_tests}
use Rattle.elab_constants.proofs.node.fits.Goals as goal

below : (a b : ℕ) → a < b → true ≡ nat_lt a b
below a b h = grind (arith, nat_tests)

pub returns-then-width-ge128 : goal.returns-then-width-ge128
returns-then-width-ge128 c =
    let least = pow-le-pow_right {n = 2} (omega arith) {i = 128} {j = c.args.width} c.if-width-ge128.true in
    below c.args.value (2 ^ c.args.width) (omega arith)
