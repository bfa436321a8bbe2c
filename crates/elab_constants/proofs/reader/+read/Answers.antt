use Rattle.elab_constants.proofs.Nodes as node
use Rattle.elab_constants.proofs.reader.+read.Goals as goal

pub read-returns-in-Number : goal.read-returns-in-Number
read-returns-in-Number g t c =
    let env = g.N.Names.environment c.args.names.now in
    node.in_number env c.args.expr.now c.in-Number.width c.in-Number.signed c.in-Number.value _ c.read_number.result c.in-Number.is
    (c.read_number.ensures env _)

pub read-returns-in-Select : goal.read-returns-in-Select
read-returns-in-Select g t c =
    let env = g.N.Names.environment c.args.names.now in
    node.in_select env c.args.expr.now c.in-Select.base c.get.result.now c.in-Select.select c.read.result c.read_in_select.result c.read_part_of.result
    c.in-Select.is c.get.ensures c.read.ensures c.read_in_select.ensures (c.read_part_of.ensures env)

pub read-returns-in-Unary : goal.read-returns-in-Unary
read-returns-in-Unary g t c =
    let env = g.N.Names.environment c.args.names.now in
    node.in_unary env c.args.expr.now c.in-Unary.op c.in-Unary.of c.get-in-Unary.result.now c.read-in-Unary.result c.read_unary.result
    c.in-Unary.is c.get-in-Unary.ensures c.read-in-Unary.ensures (c.read_unary.ensures env)

pub read-returns-in-Binary : goal.read-returns-in-Binary
read-returns-in-Binary g t c =
    let env = g.N.Names.environment c.args.names.now in
    node.in_binary env c.args.expr.now c.in-Binary.op c.in-Binary.left c.get-in-Binary.result.now c.in-Binary.right c.get-in-Binary-2.result.now
    c.read-in-Binary.result c.read-in-Binary-2.result c.read_binary.result
    c.in-Binary.is c.get-in-Binary.ensures c.get-in-Binary-2.ensures c.read-in-Binary.ensures c.read-in-Binary-2.ensures (c.read_binary.ensures env)

pub read-returns-in-Choose : goal.read-returns-in-Choose
read-returns-in-Choose g t c =
    let env = g.N.Names.environment c.args.names.now in
    node.in_choose env c.args.expr.now c.in-Choose.test c.get-in-Choose.result.now c.in-Choose.yes c.get-in-Choose-2.result.now c.in-Choose.no
    c.get-in-Choose-3.result.now
    c.read-in-Choose.result c.read-in-Choose-2.result c.read-in-Choose-3.result c.read_choice.result
    c.in-Choose.is c.get-in-Choose.ensures c.get-in-Choose-2.ensures c.get-in-Choose-3.ensures
    c.read-in-Choose.ensures c.read-in-Choose-2.ensures c.read-in-Choose-3.ensures (c.read_choice.ensures env)

pub read-returns-in-Join : goal.read-returns-in-Join
read-returns-in-Join g t c =
    let env = g.N.Names.environment c.args.names.now in
    node.in_join env c.args.expr.now c.in-Join.parts c.as_slice-in-Join.result.now c.read_parts.result c.read_join.result
    c.in-Join.is c.as_slice-in-Join.ensures c.read_parts.ensures (c.read_join.ensures env)

pub read-returns-in-Repeat : goal.read-returns-in-Repeat
read-returns-in-Repeat g t c =
    let env = g.N.Names.environment c.args.names.now in
    node.in_repeat env c.args.expr.now c.in-Repeat.count c.get-in-Repeat.result.now c.in-Repeat.parts c.as_slice-in-Repeat.result.now
    c.read-in-Repeat.result c.read_parts-in-Repeat.result c.read_repeat.result
    c.in-Repeat.is c.get-in-Repeat.ensures c.as_slice-in-Repeat.ensures c.read-in-Repeat.ensures c.read_parts-in-Repeat.ensures (c.read_repeat.ensures env)

pub read-returns-in-Call : goal.read-returns-in-Call
read-returns-in-Call g t c =
    let env = g.N.Names.environment c.args.names.now in
    node.in_call env c.args.expr.now c.in-Call.name c.in-Call.of c.get-in-Call.result.now c.read-in-Call.result c.read_call.result
    c.in-Call.is c.get-in-Call.ensures c.read-in-Call.ensures (c.read_call.ensures env)

pub read_in_select-returns-in-At : goal.read_in_select-returns-in-At
read_in_select-returns-in-At g t c =
    let env = g.N.Names.environment c.args.names.now in
    node.in_at env c.args.select.now c.in-At.at c.get.result.now c.read.result c.tell_one.result c.in-At.is c.get.ensures c.read.ensures c.tell_one.ensures

pub read_in_select-returns-in-Between : goal.read_in_select-returns-in-Between
read_in_select-returns-in-Between g t c =
    let env = g.N.Names.environment c.args.names.now in
    node.in_two env c.args.select.now c.in-Between.high c.get-in-Between.result.now c.in-Between.low c.get-in-Between-2.result.now
    c.read-in-Between.result c.read-in-Between-2.result c.tell_two.result
    (node.in_between env c.args.select.now c.in-Between.high c.in-Between.low c.in-Between.is)
    c.get-in-Between.ensures c.get-in-Between-2.ensures c.read-in-Between.ensures c.read-in-Between-2.ensures c.tell_two.ensures

pub read_in_select-returns-in-Up : goal.read_in_select-returns-in-Up
read_in_select-returns-in-Up g t c =
    let env = g.N.Names.environment c.args.names.now in
    node.in_two env c.args.select.now c.in-Up.from c.get-in-Up.result.now c.in-Up.width c.get-in-Up-2.result.now
    c.read-in-Up.result c.read-in-Up-2.result c.tell_two-in-Up.result
    (node.in_up env c.args.select.now c.in-Up.from c.in-Up.width c.in-Up.is)
    c.get-in-Up.ensures c.get-in-Up-2.ensures c.read-in-Up.ensures c.read-in-Up-2.ensures c.tell_two-in-Up.ensures

pub read_in_select-returns-in-Down : goal.read_in_select-returns-in-Down
read_in_select-returns-in-Down g t c =
    let env = g.N.Names.environment c.args.names.now in
    node.in_two env c.args.select.now c.in-Down.from c.get-in-Down.result.now c.in-Down.width c.get-in-Down-2.result.now
    c.read-in-Down.result c.read-in-Down-2.result c.tell_two-in-Down.result
    (node.in_down env c.args.select.now c.in-Down.from c.in-Down.width c.in-Down.is)
    c.get-in-Down.ensures c.get-in-Down-2.ensures c.read-in-Down.ensures c.read-in-Down-2.ensures c.tell_two-in-Down.ensures

pub read_parts-loop-part-preserved : goal.read_parts-loop-part-preserved
read_parts-loop-part-preserved g t c =
    let env = g.N.Names.environment c.args.names.now in
    node.parts_more env c.args.parts.now c.loop-part.part-index c.part-item.result c.loop-part.all c.read.result c.gather-all.result
    c.loop-part-test.true c.part-item.is c.loop-part.invariant c.read.ensures c.gather-all.ensures
