use Rattle.std.proofs.Common.{◌≤◌, ◌∙◌, sym, arith}
use Rattle.elab_blocks.proofs.Candidates.{goes-on, is-name, no-name, none-of-fewer}
use Rattle.elab_blocks.proofs.blocks.unnamed_block.Goals as goal

pub loop-zeros-preserved : goal.loop-zeros-preserved
loop-zeros-preserved c = λ f is.
    goes-on f c.args.construct c.loop-zeros.zeros (c.loop-zeros.invariant f is) (sym c.in-None.is ∙ c.in_ok-name.ensures f is)

pub returns-in-Some : goal.returns-in-Some
returns-in-Some c = λ f is.
    let le : c.loop-zeros.zeros ≤ c.count-count.result = omega arith in
    is-name f c.args.construct c.loop-zeros.zeros c.count-count.result c.in-Some.name (c.count-count.ensures f is) le (c.loop-zeros.invariant f is)
    (sym c.in-Some.is ∙ c.in_ok-name.ensures f is)

pub returns-in-Some-last : goal.returns-in-Some-last
returns-in-Some-last c = λ f is.
    let count = c.count-count.result in
    let le : count ≤ count = omega arith in
    is-name f c.args.construct count count c.in-Some-last.name (c.count-count.ensures f is) le
    (none-of-fewer f c.args.construct count c.loop-zeros.zeros c.loop-zeros-test.false (c.loop-zeros.invariant f is))
    (sym c.in-Some-last.is ∙ c.in_ok-last.ensures f is)

pub returns-in-None-last : goal.returns-in-None-last
returns-in-None-last c = λ f is.
    let count = c.count-count.result in
    c.new.ensures
    ∙ no-name f c.args.construct count (c.count-count.ensures f is)
    (none-of-fewer f c.args.construct count c.loop-zeros.zeros c.loop-zeros-test.false (c.loop-zeros.invariant f is))
    (sym c.in-None-last.is ∙ c.in_ok-last.ensures f is)
