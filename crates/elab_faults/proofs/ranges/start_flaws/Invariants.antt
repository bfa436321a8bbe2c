use Rattle.std.proofs.Common.{◌≡◌, List, take, map}
use Rattle.std.specs.List.{filter_map}
use Rattle.vlog_tree.specs.declared.item.RegName.{RegName}
use Rattle.scope_meaning.specs.Constants as constants
use Rattle.scope_meaning.specs.Wanted.{want}
use Rattle.elab_faults.specs.Flaws.{Finds, flaws_in}
use Rattle.elab_faults.specs.Judged.{Nothing}
use Rattle.elab_faults.proofs.ranges.start_flaws.Given as goal

abbrev pub invariant-loop-reg : goal.invariant-loop-reg
invariant-loop-reg g l = (known : constants.Names) → g.N.Names.environment l.names ≡ constants.constants known
    → Finds Nothing (flaws_in (map (want known) (filter_map (λ (r : RegName). r.start) (take l.reg-index l.regs)))) l.so_far
