use Rattle.std.proofs.Common.{length}
use Rattle.cvd_sections.proofs.KeyWords.{KeySoFar}
use Rattle.cvd_sections.proofs.key.read_key.Given as goal

abbrev pub invariant-words : goal.invariant-words
invariant-words l = KeySoFar l.fn.cursor l.cursor l.key

abbrev pub decreases-words : goal.decreases-words
decreases-words l = length l.cursor.rest
