use Rattle.flat_kept.specs.Kept.{is_kept}
use Rattle.flat_kept.proofs.Steps.{no_more, one_more}
use Rattle.flat_kept.proofs.kept.put_all.Goals as goal

pub loop-var-init : goal.loop-var-init
loop-var-init c = no_more _

pub loop-var-preserved : goal.loop-var-preserved
loop-var-preserved c =
    one_more (is_kept c.args.apart.clocks.now c.args.apart.loops.now) c.loop-var.yielded c.in-Some.var _ c.loop-var.kept c.put_kept.new.kept
    c.loop-var.invariant c.in_ok-put_kept.ensures
