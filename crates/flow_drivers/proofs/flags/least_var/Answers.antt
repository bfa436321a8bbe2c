use Rattle.std.proofs.Common.{sym, subst, ◌+◌, take}
use Rattle.std.specs.Prelude.{IsTrue}
use Rattle.std.proofs.lemmas.List.{take_all}
use Rattle.flow_least.specs.Least.{IsLeastOf}
use Rattle.flow_uses.specs.Uses.{has_var}
use Rattle.flow_drivers.proofs.Flagging.{var_next}
use Rattle.flow_drivers.proofs.flags.least_var.Goals as goal

pub loop-span-preserved : goal.loop-span-preserved
loop-span-preserved c = subst (IsLeastOf (λ v. IsTrue (has_var (take (c.loop-span.span-index + 1) c.args.spans.now) v))) (sym c.lesser-least.ensures)
    (var_next c.args.spans.now c.loop-span.span-index (record { var = 0; word = 0; word_end = 0; place = 0; place_end = 0 }) c.loop-span-test.true
    c.loop-span.least c.loop-span.invariant)

pub returns : goal.returns
returns c = subst (λ ys. IsLeastOf (λ v. IsTrue (has_var ys v)) c.loop-span.least) (take_all c.loop-span.span-index c.args.spans.now c.loop-span-test.false)
    c.loop-span.invariant
