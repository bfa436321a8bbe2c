use Rattle.std.proofs.Common.{ap, sym, ◌∙◌}
use Rattle.lower_meaning.specs.Constants.{said}
use Rattle.flat_constants.proofs.Copies.{say, moved, within, all_within, number_says, var_says, select_says, parts_more, of_copy}
use Rattle.vlog_tree.specs.declared.expression.Expr.TheVariants as s
use Rattle.flat_constants.proofs.copy.+copy.Goals as goal

pub copy-returns-in-Number : goal.copy-returns-in-Number
copy-returns-in-Number t c =
    number_says c.in-Number.width c.in-Number.signed c.in-Number.value c.in-Number.free ∙ ap said (sym c.in-Number.is)

pub copy-returns-in-Var : goal.copy-returns-in-Var
copy-returns-in-Var t c = ap say (ap s.Name c.new.ensures) ∙ var_says c.in-Var.field-0 ∙ ap said (sym c.in-Var.is)

pub copy-returns-in-Select : goal.copy-returns-in-Select
copy-returns-in-Select t c =
    ap say (ap s.Name c.new-in-Select.ensures) ∙ select_says c.in-Select.base c.in-Select.select ∙ ap said (sym c.in-Select.is)

pub copy-returns-in-Unary : goal.copy-returns-in-Unary
copy-returns-in-Unary t c =
    moved c.args.expr.now _ c.unary.result c.in-Unary.is (c.unary.ensures _ (within c.get.result.now _ c.copy.result c.get.ensures c.copy.ensures))

pub copy-returns-in-Binary : goal.copy-returns-in-Binary
copy-returns-in-Binary t c =
    moved c.args.expr.now _ c.binary.result c.in-Binary.is
    (c.binary.ensures _ _ (within c.get-in-Binary.result.now _ c.copy-in-Binary.result c.get-in-Binary.ensures c.copy-in-Binary.ensures)
    (within c.get-in-Binary-2.result.now _ c.copy-in-Binary-2.result c.get-in-Binary-2.ensures c.copy-in-Binary-2.ensures))

pub copy-returns-in-Choose : goal.copy-returns-in-Choose
copy-returns-in-Choose t c =
    moved c.args.expr.now _ c.choose.result c.in-Choose.is
    (c.choose.ensures _ _ _ (within c.get-in-Choose.result.now _ c.copy-in-Choose.result c.get-in-Choose.ensures c.copy-in-Choose.ensures)
    (within c.get-in-Choose-2.result.now _ c.copy-in-Choose-2.result c.get-in-Choose-2.ensures c.copy-in-Choose-2.ensures)
    (within c.get-in-Choose-3.result.now _ c.copy-in-Choose-3.result c.get-in-Choose-3.ensures c.copy-in-Choose-3.ensures))

pub copy-returns-in-Join : goal.copy-returns-in-Join
copy-returns-in-Join t c =
    moved c.args.expr.now _ c.join.result c.in-Join.is
    (c.join.ensures _ (all_within c.as_slice.result.now _ c.copy_parts.result c.as_slice.ensures c.copy_parts.ensures))

pub copy-returns-in-Repeat : goal.copy-returns-in-Repeat
copy-returns-in-Repeat t c =
    moved c.args.expr.now _ c.repeat.result c.in-Repeat.is
    (c.repeat.ensures _ _ (within c.get-in-Repeat.result.now _ c.copy-in-Repeat.result c.get-in-Repeat.ensures c.copy-in-Repeat.ensures)
    (all_within c.as_slice-in-Repeat.result.now _ c.copy_parts-in-Repeat.result c.as_slice-in-Repeat.ensures c.copy_parts-in-Repeat.ensures))

pub copy-returns-in-Call : goal.copy-returns-in-Call
copy-returns-in-Call t c =
    moved c.args.expr.now _ c.call.result c.in-Call.is
    (c.call.ensures _ (within c.get-in-Call.result.now _ c.copy-in-Call.result c.get-in-Call.ensures c.copy-in-Call.ensures))

pub copy_parts-loop-part-preserved : goal.copy_parts-loop-part-preserved
copy_parts-loop-part-preserved t c =
    parts_more c.args.parts.now c.loop-part.part-index c.part-item.result c.loop-part.all c.push.new.self _
    c.loop-part-test.true c.part-item.is c.loop-part.invariant (of_copy _ c.copy.result _ c.in_ok-copied.was c.copy.ensures)
    c.in_ok-push.ensures.ok
