use Rattle.std.proofs.Common.{◌≡◌, true, length}
use Rattle.std.specs.Prelude.{codes}
use Rattle.design_tree.specs.declared.design.Process.{Process}
use Rattle.cvd_text.specs.Lines.{Load, is_within}
use Rattle.cvd_sections.proofs.Counting.{Goes}
use Rattle.cvd_steps.specs.Bodies.{load_of}
use Rattle.cvd_read.proofs.Processes.{may_be, next, section, spelled}
use Rattle.cvd_read.proofs.process.read_processes.Given as goal

abbrev pub invariant-processes : goal.invariant-processes
invariant-processes l = record {
  goes : Goes Process Load (spelled l.vars l.counters) (next l.vars l.counters) (λ n. load_of l.fn.before) (codes "processes") may_be
      (section l.vars l.counters (load_of l.fn.before)) l.fn.cursor l.cursor l.count (λ n. load_of l.sums) l.kept;
  within : is_within (load_of l.sums) ≡ true;
}

abbrev pub decreases-processes : goal.decreases-processes
decreases-processes l = length l.cursor.rest
