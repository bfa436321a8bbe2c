use Rattle.std.proofs.Common.{◌≡◌, subst, ℕ, ◌+◌, ◌-◌, suc, List, [], arith}
use Rattle.source_meaning.specs.Loops.{most_passes}
use Rattle.flat_passes.specs.declared.turn.Turn.{Turn}
use Rattle.flat_passes.specs.declared.turn.Turn.TheVariants as comes
use Rattle.flat_passes.specs.declared.values.Passes.TheVariants as are
use Rattle.flat_passes.specs.Turns.{loop_of, IsFrom, IsTurn}
use Rattle.flat_passes.proofs.Turns.{one_more, over_here, lacks_here}
use Rattle.flat_passes.proofs.values.passes_from.Goals as goal

pub loop-pass-init : goal.loop-pass-init
loop-pass-init g c = λ step_name body k p e h.
    let env = g.N.Names.environment c.args.names.now in
    let l = loop_of c.args.head step_name body in
    let whole : k ≡ most_passes = omega (arith, e) in
    subst (λ (n : ℕ). IsFrom env l n c.args.first [] p) whole (subst (λ (ns : List ℕ). IsFrom env l k c.args.first ns p) c.new-made.ensures h)

pub loop-pass-preserved : goal.loop-pass-preserved
loop-pass-preserved g c = λ step_name body k p e h.
    let env = g.N.Names.environment c.args.names.now in
    let l = loop_of c.args.head step_name body in
    let left : suc k + c.loop-pass._pass ≡ most_passes = omega (arith, e) in
    c.loop-pass.invariant step_name body (suc k) p left
    (one_more env l k c.loop-pass.value c.in-Next.next c.loop-pass.made c.push.new.self p
    (subst (λ (t : Turn). IsTurn env l c.loop-pass.value t) c.in-Next.is (c.in_ok-comes.ensures step_name body)) c.in_ok-push-in-Next.ensures.ok h)

pub returns-in-Over : goal.returns-in-Over
returns-in-Over g c = λ step_name body.
    let env = g.N.Names.environment c.args.names.now in
    let l = loop_of c.args.head step_name body in
    let left : (most_passes - c.loop-pass._pass) + c.loop-pass._pass ≡ most_passes = omega (arith, c.loop-pass-test.true) in
    c.loop-pass.invariant step_name body (most_passes - c.loop-pass._pass) (are.Made c.loop-pass.made) left
    (over_here env l (most_passes - c.loop-pass._pass) c.loop-pass.value c.loop-pass.made
    (subst (λ (t : Turn). IsTurn env l c.loop-pass.value t) c.in-Over.is (c.in_ok-comes.ensures step_name body)))

pub returns-in-Lacks : goal.returns-in-Lacks
returns-in-Lacks g c = λ step_name body.
    let env = g.N.Names.environment c.args.names.now in
    let l = loop_of c.args.head step_name body in
    let k = most_passes - (c.loop-pass._pass + 1) in
    let left : suc (most_passes - (c.loop-pass._pass + 1)) + c.loop-pass._pass ≡ most_passes = omega (arith, c.loop-pass-test.true) in
    c.loop-pass.invariant step_name body (suc k) are.NotConstant left
    (lacks_here env l k c.loop-pass.value c.loop-pass.made
    (subst (λ (t : Turn). IsTurn env l c.loop-pass.value t) c.in-Lacks.is (c.in_ok-comes.ensures step_name body)))

pub returns : goal.returns
returns g c = λ step_name body.
    let left : 0 + c.loop-pass._pass ≡ most_passes = omega arith in
    c.loop-pass.invariant step_name body 0 c.in_ok-all.all left (c.in_ok-all.ensures step_name body)
