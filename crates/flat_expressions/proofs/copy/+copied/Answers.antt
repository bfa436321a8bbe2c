use Rattle.flat_expressions.proofs.Nodes as node
use Rattle.flat_expressions.proofs.copy.+copied.Goals as goal

pub flat_expression-returns-in-Number : goal.flat_expression-returns-in-Number
flat_expression-returns-in-Number g t c =
    let vars = g.N.Resolves.vars c.args.names.now in
    let env = g.N.Resolves.environment c.args.names.now in
    node.in_number vars env c.args.of.now _ _ _ _ c.in-Number.is

pub flat_expression-returns-in-Name : goal.flat_expression-returns-in-Name
flat_expression-returns-in-Name g t c =
    let vars = g.N.Resolves.vars c.args.names.now in
    let env = g.N.Resolves.environment c.args.names.now in
    node.in_name vars env c.args.of.now _ c.as_slice.result.now c.name.result c.in-Name.is c.as_slice.ensures c.name.ensures

pub flat_expression-returns-in-Select : goal.flat_expression-returns-in-Select
flat_expression-returns-in-Select g t c =
    let vars = g.N.Resolves.vars c.args.names.now in
    let env = g.N.Resolves.environment c.args.names.now in
    node.in_select vars env c.args.of.now c.in-Select.base c.get.result.now c.in-Select.part c.flat_expression.result c.flat_select.result c.select.result
    c.in-Select.is c.get.ensures c.flat_expression.ensures c.flat_select.ensures (c.select.ensures vars env)

pub flat_expression-returns-in-Unary : goal.flat_expression-returns-in-Unary
flat_expression-returns-in-Unary g t c =
    let vars = g.N.Resolves.vars c.args.names.now in
    let env = g.N.Resolves.environment c.args.names.now in
    node.in_unary vars env c.args.of.now c.in-Unary.op c.in-Unary.of c.get-in-Unary.result.now c.flat_expression-in-Unary.result c.unary.result
    c.in-Unary.is c.get-in-Unary.ensures c.flat_expression-in-Unary.ensures (c.unary.ensures vars env)

pub flat_expression-returns-in-Binary : goal.flat_expression-returns-in-Binary
flat_expression-returns-in-Binary g t c =
    let vars = g.N.Resolves.vars c.args.names.now in
    let env = g.N.Resolves.environment c.args.names.now in
    node.in_binary vars env c.args.of.now c.in-Binary.op c.in-Binary.left c.get-in-Binary.result.now c.in-Binary.right c.get-in-Binary-2.result.now
    c.flat_expression-in-Binary.result c.flat_expression-in-Binary-2.result c.binary.result c.in-Binary.is c.get-in-Binary.ensures c.get-in-Binary-2.ensures
    c.flat_expression-in-Binary.ensures c.flat_expression-in-Binary-2.ensures (c.binary.ensures vars env)

pub flat_expression-returns-in-Choose : goal.flat_expression-returns-in-Choose
flat_expression-returns-in-Choose g t c =
    let vars = g.N.Resolves.vars c.args.names.now in
    let env = g.N.Resolves.environment c.args.names.now in
    node.in_choose vars env c.args.of.now c.in-Choose.test c.get-in-Choose.result.now c.in-Choose.yes c.get-in-Choose-2.result.now c.in-Choose.no
    c.get-in-Choose-3.result.now c.flat_expression-in-Choose.result c.flat_expression-in-Choose-2.result c.flat_expression-in-Choose-3.result c.choice.result
    c.in-Choose.is c.get-in-Choose.ensures c.get-in-Choose-2.ensures c.get-in-Choose-3.ensures c.flat_expression-in-Choose.ensures
    c.flat_expression-in-Choose-2.ensures c.flat_expression-in-Choose-3.ensures (c.choice.ensures vars env)

pub flat_expression-returns-in-Join : goal.flat_expression-returns-in-Join
flat_expression-returns-in-Join g t c =
    let vars = g.N.Resolves.vars c.args.names.now in
    let env = g.N.Resolves.environment c.args.names.now in
    node.in_join vars env c.args.of.now c.in-Join.parts c.as_slice-in-Join.result.now c.flat_parts.result c.join.result c.in-Join.is
    c.as_slice-in-Join.ensures c.flat_parts.ensures (c.join.ensures vars env)

pub flat_expression-returns-in-Repeat : goal.flat_expression-returns-in-Repeat
flat_expression-returns-in-Repeat g t c =
    let vars = g.N.Resolves.vars c.args.names.now in
    let env = g.N.Resolves.environment c.args.names.now in
    node.in_repeat vars env c.args.of.now c.in-Repeat.count c.get-in-Repeat.result.now c.in-Repeat.parts c.as_slice-in-Repeat.result.now
    c.flat_expression-in-Repeat.result c.flat_parts-in-Repeat.result c.repeat.result c.in-Repeat.is c.get-in-Repeat.ensures c.as_slice-in-Repeat.ensures
    c.flat_expression-in-Repeat.ensures c.flat_parts-in-Repeat.ensures (c.repeat.ensures vars env)

pub flat_expression-returns-in-Call : goal.flat_expression-returns-in-Call
flat_expression-returns-in-Call g t c =
    let vars = g.N.Resolves.vars c.args.names.now in
    let env = g.N.Resolves.environment c.args.names.now in
    node.in_call vars env c.args.of.now c.in-Call.of_call c.in-Call.of c.get-in-Call.result.now c.flat_expression-in-Call.result c.call.result
    c.in-Call.is c.get-in-Call.ensures c.flat_expression-in-Call.ensures (c.call.ensures vars env)

pub flat_select-returns-in-At : goal.flat_select-returns-in-At
flat_select-returns-in-At g t c =
    let vars = g.N.Resolves.vars c.args.names.now in
    let env = g.N.Resolves.environment c.args.names.now in
    node.in_at vars env c.args.part.now c.in-At.position c.get.result.now c.flat_expression.result c.at.result c.in-At.is c.get.ensures
    c.flat_expression.ensures
    (c.at.ensures vars env)

pub flat_select-returns-in-Between : goal.flat_select-returns-in-Between
flat_select-returns-in-Between g t c =
    let vars = g.N.Resolves.vars c.args.names.now in
    let env = g.N.Resolves.environment c.args.names.now in
    node.in_between vars env c.args.part.now c.in-Between.high c.get-in-Between.result.now c.in-Between.low c.get-in-Between-2.result.now
    c.flat_expression-in-Between.result c.flat_expression-in-Between-2.result c.between.result c.in-Between.is c.get-in-Between.ensures
    c.get-in-Between-2.ensures
    c.flat_expression-in-Between.ensures c.flat_expression-in-Between-2.ensures (c.between.ensures vars env)

pub flat_select-returns-in-Up : goal.flat_select-returns-in-Up
flat_select-returns-in-Up g t c =
    let vars = g.N.Resolves.vars c.args.names.now in
    let env = g.N.Resolves.environment c.args.names.now in
    node.in_up vars env c.args.part.now c.in-Up.from c.get-in-Up.result.now c.in-Up.width c.get-in-Up-2.result.now
    c.flat_expression-in-Up.result c.flat_expression-in-Up-2.result c.up.result c.in-Up.is c.get-in-Up.ensures c.get-in-Up-2.ensures
    c.flat_expression-in-Up.ensures c.flat_expression-in-Up-2.ensures (c.up.ensures vars env)

pub flat_select-returns-in-Down : goal.flat_select-returns-in-Down
flat_select-returns-in-Down g t c =
    let vars = g.N.Resolves.vars c.args.names.now in
    let env = g.N.Resolves.environment c.args.names.now in
    node.in_down vars env c.args.part.now c.in-Down.from c.get-in-Down.result.now c.in-Down.width c.get-in-Down-2.result.now
    c.flat_expression-in-Down.result c.flat_expression-in-Down-2.result c.down.result c.in-Down.is c.get-in-Down.ensures c.get-in-Down-2.ensures
    c.flat_expression-in-Down.ensures c.flat_expression-in-Down-2.ensures (c.down.ensures vars env)

pub flat_parts-loop-part-preserved : goal.flat_parts-loop-part-preserved
flat_parts-loop-part-preserved g t c =
    let vars = g.N.Resolves.vars c.args.names.now in
    let env = g.N.Resolves.environment c.args.names.now in
    node.parts_more vars env c.args.parts.now c.loop-part.part-index c.part-item.result c.loop-part.all c.flat_expression.result c.with-all.result
    c.loop-part-test.true c.part-item.is c.loop-part.invariant c.flat_expression.ensures (c.with-all.ensures vars env)

pub flat_parts-loop-part-init : goal.flat_parts-loop-part-init
flat_parts-loop-part-init g t c =
    node.no_parts (g.N.Resolves.vars c.args.names.now) (g.N.Resolves.environment c.args.names.now) c.new.result c.new.ensures.items
