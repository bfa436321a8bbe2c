use Rattle.std.proofs.Common.{subst, List, map, take}
use Rattle.std.specs.List.{filter_map}
use Rattle.std.proofs.lemmas.List.{take_all}
use Rattle.vlog_tree.specs.declared.item.RegName.{RegName}
use Rattle.vlog_tree.specs.Trees.{option_list}
use Rattle.scope_meaning.specs.Wanted.{want}
use Rattle.elab_faults.specs.Flaws.{Finds, flaws_in}
use Rattle.elab_faults.specs.Judged.{Nothing}
use Rattle.elab_faults.proofs.Lists.{step-start}
use Rattle.elab_faults.proofs.ranges.start_flaws.Goals as goal

pub loop-reg-preserved : goal.loop-reg-preserved
loop-reg-preserved g c = λ known here.
    step-start known c.args.regs.now c.loop-reg.reg-index c.reg-item.result c.also-so_far.result c.loop-reg-test.true c.reg-item.is
    (c.also-so_far.ensures (flaws_in (map (want known) (filter_map (λ (r : RegName). r.start) (take c.loop-reg.reg-index c.args.regs.now))))
    (flaws_in (map (want known) (option_list c.reg-item.result.start))) (c.loop-reg.invariant known here) (c.start_flaw.ensures known here))

pub returns : goal.returns
returns g c = λ known here.
    subst (λ (rs : List RegName). Finds Nothing (flaws_in (map (want known) (filter_map (λ (r : RegName). r.start) rs))) c.loop-reg.so_far)
    (take_all c.loop-reg.reg-index c.args.regs.now c.loop-reg-test.false) (c.loop-reg.invariant known here)
