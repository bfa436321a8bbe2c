use Rattle.std.proofs.Common.{false, take}
use Rattle.std.specs.List.{list_any}
use Rattle.design_meaning.specs.Spans.{is_in_any}
use Rattle.design_meaning.specs.Paths.{piece_reads, item_reads}
use Rattle.flow_uses.specs.Gathers.{AreItemsIn}
use Rattle.flow_paths.specs.Walking.{Passes}
use Rattle.flow_paths.proofs.reads.read_arms.Given as goal

abbrev pub invariant-loop-arm : goal.invariant-loop-arm
invariant-loop-arm l = Passes l.initial.walk l.walk (λ b. false)
    (λ b. list_any (λ x. list_any (λ item. is_in_any b (item_reads item)) x.items) (take l.arm-index l.arms))
