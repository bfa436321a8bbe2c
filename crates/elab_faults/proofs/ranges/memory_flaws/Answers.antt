use Rattle.std.proofs.Common.{refl, subst, List, ap, ◌∙◌}
use Rattle.std.specs.List.{filter_map}
use Rattle.std.proofs.lemmas.List.{take_all}
use Rattle.vlog_tree.specs.declared.item.RegName.{RegName}
use Rattle.elab_faults.specs.Flaws.{Finds, memory_flaws}
use Rattle.elab_faults.proofs.Lists.{Large, step-memory}
use Rattle.elab_faults.proofs.ranges.memory_flaws.Goals as goal

pub loop-reg-preserved : goal.loop-reg-preserved
loop-reg-preserved g c = λ known here.
    step-memory known c.args.regs.now c.loop-reg.reg-index c.reg-item.result c.either-so_far.result c.loop-reg-test.true c.reg-item.is
    (c.either-so_far.ensures _ _ _ _ (c.loop-reg.invariant known here) (c.memory_flaw_of.ensures known here))

pub returns : goal.returns
returns g c = λ known here.
    subst (λ (rs : List RegName). Finds (Large known (filter_map (λ (r : RegName). r.words) rs))
    (memory_flaws known (filter_map (λ (r : RegName). r.words) rs)) c.loop-reg.so_far)
    (take_all c.loop-reg.reg-index c.args.regs.now c.loop-reg-test.false) (c.loop-reg.invariant known here)
