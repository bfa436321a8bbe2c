use Rattle.std.proofs.Common.{◌+◌, ◌*◌}
use Rattle.flat_scopes.proofs.scopes.+meant.Given as goal

abbrev pub decreases-meaning_at : goal.decreases-meaning_at
decreases-meaning_at l = 3 * l.at.scope + 2

abbrev pub decreases-meaning_in : goal.decreases-meaning_in
decreases-meaning_in l = 3 * l.at.scope + 1

abbrev pub decreases-meaning_outside : goal.decreases-meaning_outside
decreases-meaning_outside l = 3 * l.scope
