use Rattle.flat_declared.proofs.Items.{in_Wire, in_Reg, in_Integer, in_Genvar, in_Parameter, in_Instances, in_Generate, in_Loop, in_Choose}
use Rattle.flat_declared.proofs.declared.+declared.Goals as goal

pub with_item-returns-in-Wire : goal.with_item-returns-in-Wire
with_item-returns-in-Wire t c =
    in_Wire _ _ c.in-Wire.names c.args.item.now c.as_slice.result.now c.args.before c.with_all.result c.in-Wire.is c.as_slice.ensures c.with_all.ensures

pub with_item-returns-in-Reg : goal.with_item-returns-in-Reg
with_item-returns-in-Reg t c =
    in_Reg _ _ c.in-Reg.names c.args.item.now c.as_slice-in-Reg.result.now c.args.before c.with_all-in-Reg.result c.in-Reg.is c.as_slice-in-Reg.ensures
    c.with_all-in-Reg.ensures

pub with_item-returns-in-Integer : goal.with_item-returns-in-Integer
with_item-returns-in-Integer t c =
    in_Integer c.in-Integer.names c.args.item.now c.as_slice-in-Integer.result.now c.args.before c.with_all-in-Integer.result c.in-Integer.is
    c.as_slice-in-Integer.ensures c.with_all-in-Integer.ensures

pub with_item-returns-in-Genvar : goal.with_item-returns-in-Genvar
with_item-returns-in-Genvar t c =
    in_Genvar c.in-Genvar.names c.args.item.now c.as_slice-in-Genvar.result.now c.args.before c.with_all-in-Genvar.result c.in-Genvar.is
    c.as_slice-in-Genvar.ensures c.with_all-in-Genvar.ensures

pub with_item-returns-in-Parameter : goal.with_item-returns-in-Parameter
with_item-returns-in-Parameter t c =
    in_Parameter _ _ c.in-Parameter.names c.args.item.now c.as_slice-in-Parameter.result.now c.args.before c.with_all-in-Parameter.result c.in-Parameter.is
    c.as_slice-in-Parameter.ensures c.with_all-in-Parameter.ensures

pub with_item-returns-in-Instances : goal.with_item-returns-in-Instances
with_item-returns-in-Instances t c =
    in_Instances _ _ c.in-Instances.made c.args.item.now c.as_slice-in-Instances.result.now c.args.before c.with_all-in-Instances.result c.in-Instances.is
    c.as_slice-in-Instances.ensures c.with_all-in-Instances.ensures

pub with_item-returns-in-Generate : goal.with_item-returns-in-Generate
with_item-returns-in-Generate t c =
    in_Generate c.in-Generate.items c.args.item.now c.as_slice-in-Generate.result.now c.args.before c.with_items.result c.in-Generate.is
    c.as_slice-in-Generate.ensures c.with_items.ensures

pub with_item-returns-in-Loop : goal.with_item-returns-in-Loop
with_item-returns-in-Loop t c =
    in_Loop _ _ _ _ _ c.in-Loop.block _ _ c.args.item.now c.args.before c.with_block.result c.in-Loop.is c.with_block.ensures

pub with_item-returns-in-Choose : goal.with_item-returns-in-Choose
with_item-returns-in-Choose t c =
    in_Choose c.in-Choose.arms c.in-Choose.last c.args.item.now c.as_slice-in-Choose.result.now c.args.before c.with_choice.result c.in-Choose.is
    c.as_slice-in-Choose.ensures c.with_choice.ensures
