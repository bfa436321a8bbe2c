use Rattle.flat_source_meaning.specs.Variables.{loop_names}
use Rattle.flat_loops.proofs.Statements as node
use Rattle.flat_loops.proofs.heads.+named.Goals as goal

pub with_statement-returns-in-Block : goal.with_statement-returns-in-Block
with_statement-returns-in-Block t c =
    node.in_Block c.in-Block.body c.as_slice.result.now _ c.args.of.now c.args.before c.with_block.result c.in-Block.is c.as_slice.ensures c.with_block.ensures

pub with_statement-returns-in-If : goal.with_statement-returns-in-If
with_statement-returns-in-If t c =
    node.in_If _ c.in-If.yes c.get.result.now c.in-If.no c.args.of.now c.args.before c.in_ok-first-in-If.first c.with_other.result c.in-If.is c.get.ensures
    c.in_ok-first-in-If.ensures c.with_other.ensures

pub with_statement-returns-in-Case : goal.with_statement-returns-in-Case
with_statement-returns-in-Case t c =
    node.in_Case _ _ c.in-Case.arms c.as_slice-in-Case.result.now c.args.of.now c.args.before c.with_arms.result c.in-Case.is c.as_slice-in-Case.ensures
    c.with_arms.ensures

pub with_statement-returns-in-Empty : goal.with_statement-returns-in-Empty
with_statement-returns-in-Empty t c = node.in_Empty c.args.of.now c.args.before c.in-Empty.is

pub with_statement-returns-in-Set : goal.with_statement-returns-in-Set
with_statement-returns-in-Set t c = node.in_Set _ _ c.args.of.now c.args.before c.in-Set.is

pub with_statement-returns-in-Later : goal.with_statement-returns-in-Later
with_statement-returns-in-Later t c = node.in_Later _ _ c.args.of.now c.args.before c.in-Later.is

pub with_statement-returns-in-Show : goal.with_statement-returns-in-Show
with_statement-returns-in-Show t c = node.in_Show _ _ c.args.of.now c.args.before c.in-Show.is

pub with_statement-returns-in-Finish : goal.with_statement-returns-in-Finish
with_statement-returns-in-Finish t c = node.in_Finish c.args.of.now c.args.before c.in-Finish.is

pub with_statement-returns-in-Stop : goal.with_statement-returns-in-Stop
with_statement-returns-in-Stop t c = node.in_Stop c.args.of.now c.args.before c.in-Stop.is

pub with_block-loop-one-preserved : goal.with_block-loop-one-preserved
with_block-loop-one-preserved t c =
    node.more loop_names c.args.body.now c.loop-one.one-index c.one-item.result c.args.before c.loop-one.all c.in_ok-all.all c.loop-one-test.true
    c.one-item.is c.loop-one.invariant c.in_ok-all.ensures

pub with_arms-loop-arm-preserved : goal.with_arms-loop-arm-preserved
with_arms-loop-arm-preserved t c =
    node.more node.in_arm c.args.arms.now c.loop-arm.arm-index c.arm-item.result c.args.before c.loop-arm.all c.in_ok-all.all c.loop-arm-test.true
    c.arm-item.is c.loop-arm.invariant c.in_ok-all.ensures

pub with_statement-returns-in-For : goal.with_statement-returns-in-For
with_statement-returns-in-For t c =
    node.in_For c.in-For.name c.as_slice-in-For.result.now _ _ c.in-For.step_name c.as_slice-in-For-2.result.now _ c.in-For.body c.get-in-For.result.now
    c.args.of.now c.args.before c.in_ok-head-in-For.head c.with_statement-in-For.result c.in-For.is c.as_slice-in-For.ensures c.as_slice-in-For-2.ensures
    c.get-in-For.ensures c.in_ok-head-in-For.ensures c.with_statement-in-For.ensures
