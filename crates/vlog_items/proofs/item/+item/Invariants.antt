use Rattle.std.proofs.Common.{◌≡◌, ◌+◌, ◌-◌, ◌*◌}
use Rattle.vlog_cursor.specs.Words.{kind_of}
use Rattle.vlog_reading.specs.ReadItems.{item_within, items, items_from, if_arms, if_arms_from}
use Rattle.vlog_items.proofs.item.+item.Given as goal

abbrev pub decreases-item : goal.decreases-item
decreases-item l = 8 * l.depth

abbrev pub decreases-items : goal.decreases-items
decreases-items l = 8 * l.depth + 1

abbrev pub decreases-generate_region : goal.decreases-generate_region
decreases-generate_region l = 8 * l.depth + 2

abbrev pub decreases-loop_items : goal.decreases-loop_items
decreases-loop_items l = 8 * l.depth + 2

abbrev pub decreases-generate_for : goal.decreases-generate_for
decreases-generate_for l = 8 * l.depth + 3

abbrev pub decreases-block_branch : goal.decreases-block_branch
decreases-block_branch l = 8 * l.depth + 2

abbrev pub decreases-single_branch : goal.decreases-single_branch
decreases-single_branch l = 8 * l.depth + 2

abbrev pub decreases-branch : goal.decreases-branch
decreases-branch l = 8 * l.depth + 3

abbrev pub decreases-if_arm : goal.decreases-if_arm
decreases-if_arm l = 8 * l.depth + 4

abbrev pub decreases-if_arms : goal.decreases-if_arms
decreases-if_arms l = 8 * l.depth + 5

abbrev pub decreases-generate_if : goal.decreases-generate_if
decreases-generate_if l = 8 * l.depth + 6

abbrev pub decreases-kind : goal.decreases-kind
decreases-kind l = 8 * l.depth + 7

abbrev pub invariant-items-loop-turn : goal.invariant-items-loop-turn
invariant-items-loop-turn l =
    items (item_within l.depth) l.inside (kind_of l.close) l.fn.tokens
    ≡ items_from (item_within l.depth) l.inside (kind_of l.close) (l._turn-end - l._turn) l.found l.tokens

abbrev pub invariant-if_arms-loop-turn : goal.invariant-if_arms-loop-turn
invariant-if_arms-loop-turn l = if_arms (item_within l.depth) l.fn.tokens ≡ if_arms_from (item_within l.depth) (l._turn-end - l._turn) l.found l.tokens
