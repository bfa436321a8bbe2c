use Rattle.flat_source_meaning.specs.Targets.{target_names}
use Rattle.flat_uses.proofs.Uses.{more}
use Rattle.flat_uses.proofs.TargetUses as node
use Rattle.flat_uses.proofs.targets.+written.Goals as goal

pub any_target-returns-in-Name : goal.any_target-returns-in-Name
any_target-returns-in-Name g t c =
    node.in_name (g.T.NameTest.holds c.args.asked.now) c.args.of.now _ c.as_slice.result.now c.holds_of.result c.in-Name.is c.as_slice.ensures
    c.holds_of.ensures

pub any_target-returns-in-Select : goal.any_target-returns-in-Select
any_target-returns-in-Select g t c =
    node.in_select (g.T.NameTest.holds c.args.asked.now) c.args.of.now c.in-Select.base c.get.result.now _ c.any_target.result c.in-Select.is c.get.ensures
    c.any_target.ensures

pub any_target-returns-in-Join : goal.any_target-returns-in-Join
any_target-returns-in-Join g t c =
    node.in_join (g.T.NameTest.holds c.args.asked.now) c.args.of.now c.in-Join.parts c.as_slice-in-Join.result.now c.any_target_in.result c.in-Join.is
    c.as_slice-in-Join.ensures c.any_target_in.ensures

pub any_target-returns-in-Number : goal.any_target-returns-in-Number
any_target-returns-in-Number g t c = node.in_number (g.T.NameTest.holds c.args.asked.now) c.args.of.now _ _ _ _ c.in-Number.is

pub any_target-returns-in-Unary : goal.any_target-returns-in-Unary
any_target-returns-in-Unary g t c = node.in_unary (g.T.NameTest.holds c.args.asked.now) c.args.of.now _ _ c.in-Unary.is

pub any_target-returns-in-Binary : goal.any_target-returns-in-Binary
any_target-returns-in-Binary g t c = node.in_binary (g.T.NameTest.holds c.args.asked.now) c.args.of.now _ _ _ c.in-Binary.is

pub any_target-returns-in-Choose : goal.any_target-returns-in-Choose
any_target-returns-in-Choose g t c = node.in_choose (g.T.NameTest.holds c.args.asked.now) c.args.of.now _ _ _ c.in-Choose.is

pub any_target-returns-in-Repeat : goal.any_target-returns-in-Repeat
any_target-returns-in-Repeat g t c = node.in_repeat (g.T.NameTest.holds c.args.asked.now) c.args.of.now _ _ c.in-Repeat.is

pub any_target-returns-in-Call : goal.any_target-returns-in-Call
any_target-returns-in-Call g t c = node.in_call (g.T.NameTest.holds c.args.asked.now) c.args.of.now _ _ c.in-Call.is

pub any_target_in-loop-part-preserved : goal.any_target_in-loop-part-preserved
any_target_in-loop-part-preserved g t c =
    more target_names (g.T.NameTest.holds c.args.asked.now) c.args.parts.now c.loop-part.part-index c.part-item.result c.loop-part.any c.any_target.result
    c.either-any.result c.loop-part-test.true c.part-item.is c.loop-part.invariant c.any_target.ensures c.either-any.ensures
