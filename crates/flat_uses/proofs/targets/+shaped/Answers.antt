use Rattle.flat_uses.proofs.TargetUses as node
use Rattle.flat_uses.proofs.targets.+shaped.Goals as goal

pub is_target-returns-in-Name : goal.is_target-returns-in-Name
is_target-returns-in-Name t c = node.name_is c.args.of.now _ c.in-Name.is

pub is_target-returns-in-Select : goal.is_target-returns-in-Select
is_target-returns-in-Select t c =
    node.select_is c.args.of.now c.in-Select.base c.get.result.now _ c.is_target.result c.in-Select.is c.get.ensures c.is_target.ensures

pub is_target-returns-in-Join : goal.is_target-returns-in-Join
is_target-returns-in-Join t c =
    node.join_is c.args.of.now c.in-Join.parts c.as_slice.result.now c.are_targets.result c.in-Join.is c.as_slice.ensures c.are_targets.ensures

pub is_target-returns-in-Number : goal.is_target-returns-in-Number
is_target-returns-in-Number t c = node.number_is c.args.of.now _ _ _ _ c.in-Number.is

pub is_target-returns-in-Unary : goal.is_target-returns-in-Unary
is_target-returns-in-Unary t c = node.unary_is c.args.of.now _ _ c.in-Unary.is

pub is_target-returns-in-Binary : goal.is_target-returns-in-Binary
is_target-returns-in-Binary t c = node.binary_is c.args.of.now _ _ _ c.in-Binary.is

pub is_target-returns-in-Choose : goal.is_target-returns-in-Choose
is_target-returns-in-Choose t c = node.choose_is c.args.of.now _ _ _ c.in-Choose.is

pub is_target-returns-in-Repeat : goal.is_target-returns-in-Repeat
is_target-returns-in-Repeat t c = node.repeat_is c.args.of.now _ _ c.in-Repeat.is

pub is_target-returns-in-Call : goal.is_target-returns-in-Call
is_target-returns-in-Call t c = node.call_is c.args.of.now _ _ c.in-Call.is

pub are_targets-loop-part-preserved : goal.are_targets-loop-part-preserved
are_targets-loop-part-preserved t c =
    node.all-more c.args.parts.now c.loop-part.part-index c.part-item.result c.loop-part.all c.is_target.result c.both-all.result c.loop-part-test.true
    c.part-item.is c.loop-part.invariant c.is_target.ensures c.both-all.ensures
