use Rattle.std.proofs.Common.{◌≡◌, List, take}
use Rattle.std.specs.List.{filter_map}
use Rattle.vlog_tree.specs.declared.item.RegName.{RegName}
use Rattle.scope_meaning.specs.Constants as constants
use Rattle.elab_faults.specs.Flaws.{Finds, memory_flaws}
use Rattle.elab_faults.proofs.Lists.{Large}
use Rattle.elab_faults.proofs.ranges.memory_flaws.Given as goal

abbrev pub invariant-loop-reg : goal.invariant-loop-reg
invariant-loop-reg g l = (known : constants.Names) → g.N.Names.environment l.names ≡ constants.constants known
    → Finds (Large known (filter_map (λ (r : RegName). r.words) (take l.reg-index l.regs)))
    (memory_flaws known (filter_map (λ (r : RegName). r.words) (take l.reg-index l.regs))) l.so_far
