-- A design that keeps all conditions flows.
use Rattle.std.proofs.Common.{ℕ}
use Rattle.design_tree.specs.declared.design.Design.{Design}
use Rattle.design_meaning.specs.Flow.{IsOnCycle}
use Rattle.design_meaning.specs.FlowFaults.{Flows}
use Rattle.flow_rules.specs.Rules.{KeepsRules}

pub flows_so : (d : Design) → KeepsRules d → ((p : ℕ) → IsOnCycle d p → ⊥) → Flows d
flows_so d k none = record {
  one_driver = k.one_driver;
  not_mixed = k.not_mixed;
  private = k.private;
  no_latch = k.no_latch;
  written_first = k.written_first;
  no_loop = none;
}
