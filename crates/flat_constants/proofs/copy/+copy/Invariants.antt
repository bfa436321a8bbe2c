use Rattle.std.proofs.Common.{◌≡◌, map, take}
use Rattle.scope_meaning.specs.Constants.{read}
use Rattle.lower_meaning.specs.Constants.{nameless, said}
use Rattle.flat_constants.proofs.copy.+copy.Given as goal

abbrev pub invariant-copy_parts-loop-part : goal.invariant-copy_parts-loop-part
invariant-copy_parts-loop-part l = map (read nameless) l.all ≡ map said (take l.part-index l.parts)
