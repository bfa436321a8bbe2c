use Rattle.flat_variables.proofs.Items.{in_Wire, in_Reg, in_Integer}
use Rattle.flat_variables.proofs.declared.item_variables.Goals as goal

pub returns-in-Wire : goal.returns-in-Wire
returns-in-Wire g c = λ known h.
    in_Wire known c.args.scope _ _ c.in-Wire.declared c.as_slice.result.now c.args.item.now c.wires.result c.in-Wire.is c.as_slice.ensures
    (c.wires.ensures known h)

pub returns-in-Reg : goal.returns-in-Reg
returns-in-Reg g c = λ known h.
    in_Reg known c.args.scope _ _ c.in-Reg.declared c.as_slice-in-Reg.result.now c.args.item.now c.regs.result c.in-Reg.is c.as_slice-in-Reg.ensures
    (c.regs.ensures known h)

pub returns-in-Integer : goal.returns-in-Integer
returns-in-Integer g c = λ known h.
    in_Integer known c.args.scope c.in-Integer.declared c.as_slice-in-Integer.result.now c.args.item.now c.integers.result c.in-Integer.is
    c.as_slice-in-Integer.ensures c.integers.ensures
