use Rattle.flat_fixed.proofs.Nodes as node
use Rattle.flat_fixed.proofs.fixed.+fixed.Goals as goal

pub has_constants-returns-in-Number : goal.has_constants-returns-in-Number
has_constants-returns-in-Number g t c =
    let env = g.N.Names.environment c.args.names.now in
    node.in_number env c.args.of.now _ _ _ _ c.in-Number.is

pub has_constants-returns-in-Name : goal.has_constants-returns-in-Name
has_constants-returns-in-Name g t c =
    let env = g.N.Names.environment c.args.names.now in
    node.in_name env c.args.of.now _ c.in-Name.is

pub has_constants-returns-in-Select : goal.has_constants-returns-in-Select
has_constants-returns-in-Select g t c =
    let env = g.N.Names.environment c.args.names.now in
    node.in_select env c.args.of.now c.in-Select.base c.get.result.now c.in-Select.select c.both.result c.in-Select.is c.get.ensures
    (c.both.ensures _ _ c.has_constants.ensures c.fixed_select.ensures)

pub has_constants-returns-in-Unary : goal.has_constants-returns-in-Unary
has_constants-returns-in-Unary g t c =
    let env = g.N.Names.environment c.args.names.now in
    node.in_unary env c.args.of.now c.in-Unary.of c.get-in-Unary.result.now _ c.has_constants-in-Unary.result c.in-Unary.is c.get-in-Unary.ensures
    c.has_constants-in-Unary.ensures

pub has_constants-returns-in-Binary : goal.has_constants-returns-in-Binary
has_constants-returns-in-Binary g t c =
    let env = g.N.Names.environment c.args.names.now in
    node.in_binary env c.args.of.now c.in-Binary.left c.in-Binary.right c.get-in-Binary.result.now c.get-in-Binary-2.result.now _ c.both-in-Binary.result
    c.in-Binary.is c.get-in-Binary.ensures c.get-in-Binary-2.ensures
    (c.both-in-Binary.ensures _ _ c.has_constants-in-Binary.ensures c.has_constants-in-Binary-2.ensures)

pub has_constants-returns-in-Choose : goal.has_constants-returns-in-Choose
has_constants-returns-in-Choose g t c =
    let env = g.N.Names.environment c.args.names.now in
    node.in_choose env c.args.of.now c.in-Choose.test c.in-Choose.yes c.in-Choose.no c.get-in-Choose.result.now c.get-in-Choose-2.result.now
    c.get-in-Choose-3.result.now c.both-in-Choose-2.result c.in-Choose.is c.get-in-Choose.ensures c.get-in-Choose-2.ensures c.get-in-Choose-3.ensures
    (c.both-in-Choose-2.ensures _ _ (c.both-in-Choose.ensures _ _ c.has_constants-in-Choose.ensures c.has_constants-in-Choose-2.ensures)
    c.has_constants-in-Choose-3.ensures)

pub has_constants-returns-in-Join : goal.has_constants-returns-in-Join
has_constants-returns-in-Join g t c =
    let env = g.N.Names.environment c.args.names.now in
    node.in_join env c.args.of.now c.in-Join.parts c.as_slice.result.now c.fixed_parts.result c.in-Join.is c.as_slice.ensures c.fixed_parts.ensures

pub has_constants-returns-in-Repeat : goal.has_constants-returns-in-Repeat
has_constants-returns-in-Repeat g t c =
    let env = g.N.Names.environment c.args.names.now in
    node.in_repeat env c.args.of.now c.in-Repeat.count c.get-in-Repeat.result.now c.get-in-Repeat-2.result.now c.in-Repeat.parts
    c.as_slice-in-Repeat.result.now c.both-in-Repeat-2.result c.in-Repeat.is c.get-in-Repeat.ensures c.get-in-Repeat-2.ensures c.as_slice-in-Repeat.ensures
    (c.both-in-Repeat-2.ensures _ _ (c.both-in-Repeat.ensures _ _ c.is_constant.ensures c.has_constants-in-Repeat.ensures)
    c.fixed_parts-in-Repeat.ensures)

pub has_constants-returns-in-Call : goal.has_constants-returns-in-Call
has_constants-returns-in-Call g t c =
    let env = g.N.Names.environment c.args.names.now in
    node.in_call env c.args.of.now c.in-Call.of c.get-in-Call.result.now c.get-in-Call-2.result.now c.in-Call.name c.both-in-Call.result c.in-Call.is
    c.get-in-Call.ensures c.get-in-Call-2.ensures (c.both-in-Call.ensures _ _ c.operand.ensures c.has_constants-in-Call.ensures)

pub fixed_select-returns-in-At : goal.fixed_select-returns-in-At
fixed_select-returns-in-At g t c =
    let env = g.N.Names.environment c.args.names.now in
    node.in_at env c.args.part.now c.in-At.position c.get.result.now c.has_constants.result c.in-At.is c.get.ensures c.has_constants.ensures

pub fixed_select-returns-in-Between : goal.fixed_select-returns-in-Between
fixed_select-returns-in-Between g t c =
    let env = g.N.Names.environment c.args.names.now in
    node.in_between env c.args.part.now c.in-Between.high c.in-Between.low c.get-in-Between.result.now c.get-in-Between-2.result.now
    c.get-in-Between-3.result.now c.get-in-Between-4.result.now c.both-in-Between-2.result c.in-Between.is c.get-in-Between.ensures c.get-in-Between-2.ensures
    c.get-in-Between-3.ensures c.get-in-Between-4.ensures
    (c.both-in-Between-2.ensures _ _ (c.both-in-Between.ensures _ _ (c.both.ensures _ _ c.is_constant.ensures c.is_constant-in-Between.ensures) c.has_constants-in-Between.ensures)
    c.has_constants-in-Between-2.ensures)

pub fixed_select-returns-in-Up : goal.fixed_select-returns-in-Up
fixed_select-returns-in-Up g t c =
    let env = g.N.Names.environment c.args.names.now in
    node.in_up env c.args.part.now c.in-Up.from c.in-Up.width c.get-in-Up.result.now c.get-in-Up-2.result.now c.get-in-Up-3.result.now
    c.both-in-Up-2.result c.in-Up.is c.get-in-Up.ensures c.get-in-Up-2.ensures c.get-in-Up-3.ensures
    (c.both-in-Up-2.ensures _ _ (c.both-in-Up.ensures _ _ c.is_constant-in-Up.ensures c.has_constants-in-Up.ensures)
    c.has_constants-in-Up-2.ensures)

pub fixed_select-returns-in-Down : goal.fixed_select-returns-in-Down
fixed_select-returns-in-Down g t c =
    let env = g.N.Names.environment c.args.names.now in
    node.in_down env c.args.part.now c.in-Down.from c.in-Down.width c.get-in-Down.result.now c.get-in-Down-2.result.now c.get-in-Down-3.result.now
    c.both-in-Down-2.result c.in-Down.is c.get-in-Down.ensures c.get-in-Down-2.ensures c.get-in-Down-3.ensures
    (c.both-in-Down-2.ensures _ _ (c.both-in-Down.ensures _ _ c.is_constant-in-Down.ensures c.has_constants-in-Down.ensures)
    c.has_constants-in-Down-2.ensures)

pub fixed_parts-loop-part-preserved : goal.fixed_parts-loop-part-preserved
fixed_parts-loop-part-preserved g t c =
    let env = g.N.Names.environment c.args.names.now in
    node.parts_more env c.args.parts.now c.loop-part.part-index c.part-item.result c.both-all.result c.loop-part-test.true c.part-item.is
    (c.both-all.ensures _ _ c.loop-part.invariant c.has_constants.ensures)
