use Rattle.flat_source_meaning.specs.Names.{names_in}
use Rattle.flat_uses.proofs.Uses as node
use Rattle.flat_uses.proofs.names.+used.Goals as goal

pub any_name-returns-in-Number : goal.any_name-returns-in-Number
any_name-returns-in-Number g t c =
    node.in_number (g.T.NameTest.holds c.args.asked.now) c.args.of.now _ _ _ _ c.in-Number.is

pub any_name-returns-in-Name : goal.any_name-returns-in-Name
any_name-returns-in-Name g t c =
    node.in_name (g.T.NameTest.holds c.args.asked.now) c.args.of.now _ c.as_slice.result.now c.holds_of.result c.in-Name.is c.as_slice.ensures
    c.holds_of.ensures

pub any_name-returns-in-Select : goal.any_name-returns-in-Select
any_name-returns-in-Select g t c =
    node.in_select (g.T.NameTest.holds c.args.asked.now) c.args.of.now c.in-Select.base c.get.result.now c.in-Select.select c.any_name.result
    c.any_in_select.result c.either.result c.in-Select.is c.get.ensures c.any_name.ensures c.any_in_select.ensures c.either.ensures

pub any_name-returns-in-Unary : goal.any_name-returns-in-Unary
any_name-returns-in-Unary g t c =
    node.in_unary (g.T.NameTest.holds c.args.asked.now) c.args.of.now _ c.in-Unary.of c.get-in-Unary.result.now c.any_name-in-Unary.result c.in-Unary.is
    c.get-in-Unary.ensures c.any_name-in-Unary.ensures

pub any_name-returns-in-Binary : goal.any_name-returns-in-Binary
any_name-returns-in-Binary g t c =
    node.in_binary (g.T.NameTest.holds c.args.asked.now) c.args.of.now _ c.in-Binary.left c.get-in-Binary.result.now c.in-Binary.right
    c.get-in-Binary-2.result.now c.any_name-in-Binary.result c.any_name-in-Binary-2.result c.either-in-Binary.result c.in-Binary.is
    c.get-in-Binary.ensures c.get-in-Binary-2.ensures c.any_name-in-Binary.ensures c.any_name-in-Binary-2.ensures c.either-in-Binary.ensures

pub any_name-returns-in-Choose : goal.any_name-returns-in-Choose
any_name-returns-in-Choose g t c =
    node.in_choose (g.T.NameTest.holds c.args.asked.now) c.args.of.now c.in-Choose.test c.get-in-Choose.result.now c.in-Choose.yes
    c.get-in-Choose-2.result.now c.in-Choose.no c.get-in-Choose-3.result.now c.any_name-in-Choose.result c.any_name-in-Choose-2.result
    c.either-in-Choose.result c.any_name-in-Choose-3.result c.either-in-Choose-2.result c.in-Choose.is c.get-in-Choose.ensures
    c.get-in-Choose-2.ensures c.get-in-Choose-3.ensures c.any_name-in-Choose.ensures c.any_name-in-Choose-2.ensures
    c.any_name-in-Choose-3.ensures c.either-in-Choose.ensures c.either-in-Choose-2.ensures

pub any_name-returns-in-Join : goal.any_name-returns-in-Join
any_name-returns-in-Join g t c =
    node.in_join (g.T.NameTest.holds c.args.asked.now) c.args.of.now c.in-Join.parts c.as_slice-in-Join.result.now c.any_in_parts.result c.in-Join.is
    c.as_slice-in-Join.ensures c.any_in_parts.ensures

pub any_name-returns-in-Repeat : goal.any_name-returns-in-Repeat
any_name-returns-in-Repeat g t c =
    node.in_repeat (g.T.NameTest.holds c.args.asked.now) c.args.of.now c.in-Repeat.count c.get-in-Repeat.result.now c.in-Repeat.parts
    c.as_slice-in-Repeat.result.now c.any_name-in-Repeat.result c.any_in_parts-in-Repeat.result c.either-in-Repeat.result c.in-Repeat.is
    c.get-in-Repeat.ensures c.as_slice-in-Repeat.ensures c.any_name-in-Repeat.ensures c.any_in_parts-in-Repeat.ensures c.either-in-Repeat.ensures

pub any_name-returns-in-Call : goal.any_name-returns-in-Call
any_name-returns-in-Call g t c =
    node.in_call (g.T.NameTest.holds c.args.asked.now) c.args.of.now _ c.in-Call.of c.get-in-Call.result.now c.any_name-in-Call.result c.in-Call.is
    c.get-in-Call.ensures c.any_name-in-Call.ensures

pub any_in_select-returns-in-At : goal.any_in_select-returns-in-At
any_in_select-returns-in-At g t c =
    node.in_at (g.T.NameTest.holds c.args.asked.now) c.args.select.now c.in-At.at c.get.result.now c.any_name.result c.in-At.is c.get.ensures c.any_name.ensures

pub any_in_select-returns-in-Between : goal.any_in_select-returns-in-Between
any_in_select-returns-in-Between g t c =
    node.in_between (g.T.NameTest.holds c.args.asked.now) c.args.select.now c.in-Between.high c.get-in-Between.result.now c.in-Between.low
    c.get-in-Between-2.result.now c.any_name-in-Between.result c.any_name-in-Between-2.result c.either.result c.in-Between.is
    c.get-in-Between.ensures c.get-in-Between-2.ensures c.any_name-in-Between.ensures c.any_name-in-Between-2.ensures c.either.ensures

pub any_in_select-returns-in-Up : goal.any_in_select-returns-in-Up
any_in_select-returns-in-Up g t c =
    node.in_up (g.T.NameTest.holds c.args.asked.now) c.args.select.now c.in-Up.from c.get-in-Up.result.now c.in-Up.width
    c.get-in-Up-2.result.now c.any_name-in-Up.result c.any_name-in-Up-2.result c.either-in-Up.result c.in-Up.is
    c.get-in-Up.ensures c.get-in-Up-2.ensures c.any_name-in-Up.ensures c.any_name-in-Up-2.ensures c.either-in-Up.ensures

pub any_in_select-returns-in-Down : goal.any_in_select-returns-in-Down
any_in_select-returns-in-Down g t c =
    node.in_down (g.T.NameTest.holds c.args.asked.now) c.args.select.now c.in-Down.from c.get-in-Down.result.now c.in-Down.width
    c.get-in-Down-2.result.now c.any_name-in-Down.result c.any_name-in-Down-2.result c.either-in-Down.result c.in-Down.is
    c.get-in-Down.ensures c.get-in-Down-2.ensures c.any_name-in-Down.ensures c.any_name-in-Down-2.ensures c.either-in-Down.ensures

pub any_in_parts-loop-part-preserved : goal.any_in_parts-loop-part-preserved
any_in_parts-loop-part-preserved g t c =
    node.more names_in (g.T.NameTest.holds c.args.asked.now) c.args.parts.now c.loop-part.part-index c.part-item.result c.loop-part.any c.any_name.result
    c.either-any.result c.loop-part-test.true c.part-item.is c.loop-part.invariant c.any_name.ensures c.either-any.ensures
