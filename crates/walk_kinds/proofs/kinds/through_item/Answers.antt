use Rattle.std.proofs.Common.{List, ℕ, ap, sym, ◌∙◌}
use Rattle.vlog_tree.specs.declared.item.ItemKind.{out-ItemKind}
use Rattle.vlog_tree.specs.declared.item.ItemKind.TheOpen as i
use Rattle.vlog_tree.specs.declared.item.ItemKind.TheVariants as kind
use Rattle.vlog_tree.specs.declared.item.GenArm.{GenArm}
use Rattle.vlog_tree.specs.declared.item.Instance.{Instance}
use Rattle.vlog_tree.specs.declared.item.RegName.{RegName}
use Rattle.vlog_tree.specs.declared.item.ParamName.{ParamName}
use Rattle.scope_meaning.specs.ScopeTrees.{modules}
use Rattle.elab_places.specs.Places.{has_nothing}
use Rattle.walk_kinds.proofs.Layers.{region_there, same_loop}
use Rattle.walk_kinds.proofs.kinds.through_item.Goals as goal

pub returns-in-Wire : goal.returns-in-Wire
returns-in-Wire c = λ files top done here at rest under are b number before.
    c.past_wires.ensures (modules files) top done here at rest under _ _ b number
    (ap out-ItemKind c.in-Wire.is ∙ kind.outs-Wire _ _ _)

pub returns-in-Reg : goal.returns-in-Reg
returns-in-Reg c = λ files top done here at rest under are b number before.
    c.past_regs.ensures (modules files) top done here at rest under _ b number
    (ap out-ItemKind c.in-Reg.is ∙ kind.outs-Reg _ _ _ ∙ ap (λ (rows : List RegName). i.Reg c.in-Reg.signed c.in-Reg.range rows) (sym c.as_slice.ensures))

pub returns-in-Integer : goal.returns-in-Integer
returns-in-Integer c = λ files top done here at rest under are b number before.
    c.past_quiet.ensures (modules files) top done here at rest under b number (ap has_nothing (ap out-ItemKind c.in-Integer.is ∙ kind.outs-Integer _))

pub returns-in-Genvar : goal.returns-in-Genvar
returns-in-Genvar c = λ files top done here at rest under are b number before.
    c.past_quiet-in-Genvar.ensures (modules files) top done here at rest under b number (ap has_nothing (ap out-ItemKind c.in-Genvar.is ∙ kind.outs-Genvar _))

pub returns-in-Assign : goal.returns-in-Assign
returns-in-Assign c = λ files top done here at rest under are b number before.
    c.past_quiet-in-Assign.ensures (modules files) top done here at rest under b number (ap has_nothing (ap out-ItemKind c.in-Assign.is ∙ kind.outs-Assign _))

pub returns-in-Initial : goal.returns-in-Initial
returns-in-Initial c = λ files top done here at rest under are b number before.
    c.past_quiet-in-Initial.ensures (modules files) top done here at rest under b number (ap has_nothing (ap out-ItemKind c.in-Initial.is
    ∙ kind.outs-Initial _))

pub returns-in-Always : goal.returns-in-Always
returns-in-Always c = λ files top done here at rest under are b number before.
    c.past_quiet-in-Always.ensures (modules files) top done here at rest under b number (ap has_nothing (ap out-ItemKind c.in-Always.is ∙ kind.outs-Always _ _))

pub returns-in-Cover : goal.returns-in-Cover
returns-in-Cover c = λ files top done here at rest under are b number before.
    c.past_quiet-in-Cover.ensures (modules files) top done here at rest under b number (ap has_nothing (ap out-ItemKind c.in-Cover.is
    ∙ kind.outs-Cover _ _ _ _))

pub returns-in-Parameter : goal.returns-in-Parameter
returns-in-Parameter c = λ files top done here at rest under are b number before.
    c.past_constants.ensures (modules files) top done here at rest under b number
    (ap out-ItemKind c.in-Parameter.is ∙ kind.outs-Parameter _ _ _ ∙ ap (λ (rows : List ParamName). i.Parameter c.in-Parameter.local c.in-Parameter.form rows) (sym c.as_slice-in-Parameter.ensures))

pub returns-in-Instances : goal.returns-in-Instances
returns-in-Instances c = λ files top done here at rest under are b number before.
    c.into_instances.ensures files top done here at rest under are b number
    (ap out-ItemKind c.in-Instances.is ∙ kind.outs-Instances _ _ _
    ∙ ap (λ (name : List ℕ). i.Instances name c.in-Instances.params c.in-Instances.made) (sym c.as_slice-in-Instances.ensures)
    ∙ ap (λ (rows : List Instance). i.Instances c.as_slice-in-Instances.result.now c.in-Instances.params rows) (sym c.as_slice-in-Instances-2.ensures))

pub unreachable-requires : goal.unreachable-requires
unreachable-requires c = region_there c.args.item.now c.in-Generate.field-0 c.in-Generate.is c.requires

pub returns-in-Loop : goal.returns-in-Loop
returns-in-Loop c = λ files top done here at rest under are b number before.
    c.into_loop.ensures (modules files) top done here at rest under c.in-Loop.block c.in-Loop.places b number (sym c.as_slice-in-Loop-3.ensures)
    (same_loop c.args.item.now c.in-Loop.name c.as_slice-in-Loop.result.now c.in-Loop.step_name c.as_slice-in-Loop-2.result.now c.in-Loop.from c.in-Loop.test
    c.in-Loop.step c.in-Loop.block c.in-Loop.places c.in-Loop.body c.as_slice-in-Loop-4.result.now
    (ap out-ItemKind c.in-Loop.is ∙ kind.outs-Loop _ _ _ _ _ _ _ _) c.as_slice-in-Loop.ensures c.as_slice-in-Loop-2.ensures
    c.as_slice-in-Loop-4.ensures)

pub returns-in-Choose : goal.returns-in-Choose
returns-in-Choose c = λ files top done here at rest under are b number before.
    c.into_choice.ensures (modules files) top done here at rest under b number before
    (ap out-ItemKind c.in-Choose.is ∙ kind.outs-Choose _ _ ∙ ap (λ (arms : List GenArm). i.Choose arms c.in-Choose.last) (sym c.as_slice-in-Choose.ensures))
