use Rattle.std.proofs.Common.{◌≡◌, ◌-◌, false}
use Rattle.vlog_cursor.specs.Words.{kind_of}
use Rattle.vlog_reading.specs.ReadItems.{item_within, whole_items, items_from}
use Rattle.vlog_items.proofs.item.whole_items.Given as goal

abbrev pub invariant-loop-turn : goal.invariant-loop-turn
invariant-loop-turn l =
    whole_items (kind_of l.close) l.fn.tokens ≡ items_from (item_within l.depth) false (kind_of l.close) (l.depth - l._turn) l.found l.tokens
