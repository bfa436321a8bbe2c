use Rattle.flow_hubs.proofs.Listed.{shared_some, shared_none, clear_again}
use Rattle.flow_hubs.proofs.sharing.shared.Goals as goal

pub returns-clause-clear : goal.returns-clause-clear
returns-clause-clear c =
    clear_again c.args.marks.now.items c.mark_each.new.marks.items c.mark_each-2.new.marks.items c.args.drivers.now c.requires.clear
    (record { many = c.mark_each.ensures.many; there = c.mark_each.ensures.there; only = c.mark_each.ensures.only })
    (record { many = c.mark_each-2.ensures.many; there = c.mark_each-2.ensures.there; only = c.mark_each-2.ensures.only })

pub returns-clause-some : goal.returns-clause-some
returns-clause-some c =
    shared_some c.args.drivers.now c.args.readers.now c.args.selfish.now c.args.marks.now.items c.mark_each.new.marks.items c.requires.clear
    (record { many = c.mark_each.ensures.many; there = c.mark_each.ensures.there; only = c.mark_each.ensures.only })
    c.first_apart-found.result c.first_apart-found.ensures.reader
    (rw c.as_slice.ensures.value at c.first_apart-found.ensures.marked) c.first_apart-found.ensures.apart

pub returns-clause-none : goal.returns-clause-none
returns-clause-none c =
    shared_none c.args.drivers.now c.args.readers.now c.args.selfish.now c.args.marks.now.items c.mark_each.new.marks.items c.requires.clear
    (record { many = c.mark_each.ensures.many; there = c.mark_each.ensures.there; only = c.mark_each.ensures.only })
    c.first_apart-found.result (rw c.as_slice.ensures.value at c.first_apart-found.ensures.none)
