use Rattle.std.proofs.Common.{map, take}
use Rattle.scope_meaning.specs.Constants.{read}
use Rattle.elab_constants.specs.Reads.{Gathers}
use Rattle.elab_constants.proofs.reader.+read.Given as goal

abbrev pub invariant-read_parts-loop-part : goal.invariant-read_parts-loop-part
invariant-read_parts-loop-part g l = Gathers (map (read (g.N.Names.environment l.names)) (take l.part-index l.parts)) l.all
