use Rattle.std.proofs.Common.{sym, subst}
use Rattle.design_meaning.specs.Settled.{IsSettled}
use Rattle.cycle_run.proofs.RowLaws.{row_settles, still_follows}
use Rattle.cycle_run.proofs.row.settle_row.Goals as goal

pub settle-requires-clause-follows : goal.settle-requires-clause-follows
settle-requires-clause-follows g c e =
    still_follows c.args.design.now c.args.state.now c.take_inputs.new.state c.take_inputs.ensures.others c.requires.valid c.args.settled.now c.args.kept.now
    (c.requires.follows e)

pub returns-clause-settled : goal.returns-clause-settled
returns-clause-settled g c =
    let d = c.args.design.now in
    let r = c.args.state.now in
    let row = c.args.values.now in
    subst (IsSettled d r row) (sym c.settle.ensures.settled)
    (row_settles d c.args.order.now.processes r c.take_inputs.new.state row c.requires.valid c.requires.flows c.requires.order c.requires.state c.requires.row
    c.take_inputs.ensures.others c.take_inputs.ensures.of_design c.take_inputs.ensures.inputs c.requires.undriven)
