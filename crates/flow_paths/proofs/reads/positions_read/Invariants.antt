use Rattle.std.proofs.Common.{take}
use Rattle.std.specs.List.{list_any}
use Rattle.design_meaning.specs.Spans.{is_in_any}
use Rattle.design_meaning.specs.Targets.{target_reads}
use Rattle.flow_spans.specs.Reads.{Adds}
use Rattle.flow_paths.proofs.reads.positions_read.Given as goal

abbrev pub invariant-loop-target : goal.invariant-loop-target
invariant-loop-target l = Adds l.vars l.initial.out.items l.out.items (λ b. list_any (λ t. is_in_any b (target_reads t)) (take l.target-index l.targets))
