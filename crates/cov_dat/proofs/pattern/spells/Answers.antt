use Rattle.std.proofs.Common.{◌∙◌, sym}
use Rattle.cov_dat.proofs.PatternLemmas.{from_star, from_whole}
use Rattle.cov_dat.proofs.pattern.spells.Goals as goal

pub places-preserved-in-Star : goal.places-preserved-in-Star
places-preserved-in-Star c =
    sym (from_star c.places.behind_star c.places.pattern.now c.places.text.now c.in-Star.pattern_left.now c.in-Star.text_left.now c.in-Star.ensures.tells)
    ∙ c.places.invariant

pub returns-in-Whole : goal.returns-in-Whole
returns-in-Whole c = sym (from_whole c.places.behind_star c.places.pattern.now c.places.text.now c.in-Whole.ensures.tells) ∙ c.places.invariant
