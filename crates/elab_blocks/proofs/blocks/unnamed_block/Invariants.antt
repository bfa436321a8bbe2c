use Rattle.scope_meaning.specs.Scope.{Frame}
use Rattle.elab_names.specs.Frames.{IsFrame}
use Rattle.elab_blocks.proofs.Candidates.{NoneBefore}
use Rattle.elab_blocks.proofs.blocks.unnamed_block.Given as goal

abbrev pub invariant-loop-zeros : goal.invariant-loop-zeros
invariant-loop-zeros l = (f : Frame) → IsFrame f l.scope → NoneBefore f l.construct l.zeros
