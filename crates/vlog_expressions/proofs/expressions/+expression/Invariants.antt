use Rattle.std.proofs.Common.{◌≡◌, ◌+◌, ◌-◌, ◌*◌}
use Rattle.vlog_reading.specs.ReadExpressions.{expr, list, list_from, binary_rest, climb}
use Rattle.vlog_expressions.proofs.expressions.+expression.Given as goal

abbrev pub decreases-expr : goal.decreases-expr
decreases-expr l = 10 * l.depth

abbrev pub decreases-nested_before : goal.decreases-nested_before
decreases-nested_before l = 10 * l.depth + 1

abbrev pub decreases-list : goal.decreases-list
decreases-list l = 10 * l.depth + 1

abbrev pub decreases-binary_rest : goal.decreases-binary_rest
decreases-binary_rest l = 10 * l.depth + 1

abbrev pub decreases-conditional_rest : goal.decreases-conditional_rest
decreases-conditional_rest l = 10 * l.depth + 2

abbrev pub decreases-repeated : goal.decreases-repeated
decreases-repeated l = 10 * l.depth + 2

abbrev pub decreases-others : goal.decreases-others
decreases-others l = 10 * l.depth + 2

abbrev pub decreases-joined : goal.decreases-joined
decreases-joined l = 10 * l.depth + 3

abbrev pub decreases-in_braces : goal.decreases-in_braces
decreases-in_braces l = 10 * l.depth + 4

abbrev pub decreases-system_function : goal.decreases-system_function
decreases-system_function l = 10 * l.depth + 2

abbrev pub decreases-slice_by_width : goal.decreases-slice_by_width
decreases-slice_by_width l = 10 * l.depth + 2

abbrev pub decreases-slice : goal.decreases-slice
decreases-slice l = 10 * l.depth + 3

abbrev pub decreases-select : goal.decreases-select
decreases-select l = 10 * l.depth + 4

abbrev pub decreases-second_select : goal.decreases-second_select
decreases-second_select l = 10 * l.depth + 5

abbrev pub decreases-part_after_bracket : goal.decreases-part_after_bracket
decreases-part_after_bracket l = 10 * l.depth + 6

abbrev pub decreases-part_after_name : goal.decreases-part_after_name
decreases-part_after_name l = 10 * l.depth + 7

abbrev pub decreases-unary_or_primary : goal.decreases-unary_or_primary
decreases-unary_or_primary l = 10 * l.depth + 8

abbrev pub decreases-at_level : goal.decreases-at_level
decreases-at_level l = 10 * l.depth + 9

abbrev pub invariant-list-loop-turn : goal.invariant-list-loop-turn
invariant-list-loop-turn l = list (expr l.depth) l.fn.found l.fn.tokens ≡ list_from (expr l.depth) (l._turn-end - l._turn) l.found l.tokens

abbrev pub invariant-binary_rest-loop-turn : goal.invariant-binary_rest-loop-turn
invariant-binary_rest-loop-turn l = binary_rest (expr l.depth) l.least l.fn.left l.fn.tokens
    ≡ climb (expr l.depth) l.least (l._turn-end - l._turn) l.left l.tokens
