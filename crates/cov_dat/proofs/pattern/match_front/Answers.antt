use Rattle.std.proofs.Common.{◌≡◌, ◌<◌, ◌||◌, arith, rules, eqb, true, false, length, get_or, sym, ◌∙◌}
use Rattle.cov_dat.proofs.PatternLemmas.{fits_step}
use Rattle.cov_dat.proofs.pattern.match_front.Goals as goal

pub signs-preserved : goal.signs-preserved
signs-preserved c =
    let pattern = c.args.pattern.now in
    let text = c.args.text.now in
    let at = c.signs.at in
    let inside : at < length text = omega (arith, c.signs.invariant.in_text) in
    let other : eqb (get_or pattern at 0) 42 ≡ false = search rules in
    let same : (eqb (get_or pattern at 0) 63 || eqb (get_or pattern at 0) (get_or text at 0)) ≡ true = sym c.fits.ensures ∙ c.if-not-fits.false in
    record {
      fits = fits_step pattern text at c.signs.invariant.fits c.signs-test.true inside other same;
      in_pattern = omega (arith, c.signs-test.true);
      in_text = omega arith;
    }
