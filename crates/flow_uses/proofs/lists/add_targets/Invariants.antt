use Rattle.std.proofs.Common.{◌==◌, take}
use Rattle.std.specs.List.{list_any}
use Rattle.design_meaning.specs.Spans.{is_in_any}
use Rattle.design_meaning.specs.Targets.{var_named, names_bit, target_reads}
use Rattle.flow_spans.specs.Reads.{Adds}
use Rattle.flow_uses.specs.Gathers.{AddsNamed}
use Rattle.flow_uses.proofs.lists.add_targets.Given as goal

abbrev pub invariant-loop-target : goal.invariant-loop-target
invariant-loop-target l = record {
  reads : Adds l.vars l.initial.reads.items l.reads.items (λ b. list_any (λ t. is_in_any b (target_reads t)) (take l.target-index l.targets));
  named : AddsNamed l.vars l.initial.named.items l.named.items (λ b. list_any (names_bit b) (take l.target-index l.targets)) (λ v. list_any (λ t. var_named
      t == v) (take l.target-index l.targets));
}
