use Rattle.std.proofs.Common.{refl, subst, List, map}
use Rattle.std.proofs.lemmas.List.{take_all}
use Rattle.vlog_tree.specs.declared.item.GenArm.{GenArm}
use Rattle.scope_meaning.specs.Wanted.{want}
use Rattle.elab_faults.specs.Flaws.{Finds, flaws_in}
use Rattle.elab_heads.specs.Choices.{Chooses, test_in}
use Rattle.elab_heads.proofs.Choices.{none-yet, step}
use Rattle.elab_heads.proofs.choice.first_true.Goals as goal

pub loop-at-init : goal.loop-at-init
loop-at-init g c = λ known here. (refl, none-yet known)

pub loop-at-preserved : goal.loop-at-preserved
loop-at-preserved g c = λ known here.
    step known c.args.arms.now c.loop-at.at c.index-arms-at.result c.loop-at.so_far c.read_test.result c.with_test-so_far.result c.loop-at-test.true
    c.index-arms-at.is (c.loop-at.invariant known here) (c.read_test.ensures known here) c.with_test-so_far.ensures

pub returns : goal.returns
returns g c = λ known here.
    subst (λ (l : List GenArm). Finds (Chooses known l) (flaws_in (map (want known) (map test_in l))) c.loop-at.so_far)
    (take_all c.loop-at.at c.args.arms.now c.loop-at-test.false) (c.loop-at.invariant known here)
